use Rattle.frame_facts_laws.proofs.FactWalked.{facts_rise}
use Rattle.frame_facts_laws.proofs.chains.stack_pointers_rise_by_facts.Goals as goal

pub returns : goal.returns
returns c p interrupted s frames chain = facts_rise p interrupted s frames chain
