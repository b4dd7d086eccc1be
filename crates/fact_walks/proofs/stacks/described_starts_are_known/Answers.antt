use Rattle.fact_walks.proofs.Described.{chain_starts, stop_starts, called_states}
use Rattle.fact_walks.proofs.stacks.described_starts_are_known.Goals as goal

pub returns-clause-chain : goal.returns-clause-chain
returns-clause-chain k = λ space c limit functions s calls is. chain_starts space c limit functions s calls is

pub returns-clause-stopped : goal.returns-clause-stopped
returns-clause-stopped k = λ space c limit functions s call calls state is. stop_starts space c limit functions s call calls state is

pub returns-clause-states : goal.returns-clause-states
returns-clause-states k = λ s calls. called_states s calls
