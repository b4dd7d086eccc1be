use Rattle.frame_facts_laws.proofs.FromFunctions.{described_facts, called_states}
use Rattle.frame_facts_laws.proofs.chains.described_chain_is_a_fact_chain.Goals as goal

pub returns-clause-chain : goal.returns-clause-chain
returns-clause-chain c p functions s calls is = described_facts p functions s calls is

pub returns-clause-states : goal.returns-clause-states
returns-clause-states c s calls = called_states s calls
