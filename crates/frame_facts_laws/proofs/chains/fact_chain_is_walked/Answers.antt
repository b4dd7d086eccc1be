use Rattle.frame_facts_laws.proofs.FactWalked.{facts_walked}
use Rattle.frame_facts_laws.proofs.chains.fact_chain_is_walked.Goals as goal

pub returns : goal.returns
returns c p evaluates interrupted s frames columns chain shows = facts_walked p evaluates interrupted s frames columns chain shows
