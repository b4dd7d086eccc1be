use Rattle.fact_walks.proofs.FactStacks.{facts_known, same_states}
use Rattle.fact_walks.proofs.stacks.fact_chain_is_a_known_stack.Goals as goal

pub returns-clause-stack : goal.returns-clause-stack
returns-clause-stack c = λ space interrupted s frames elf chain. facts_known space interrupted s frames elf chain

pub returns-clause-states : goal.returns-clause-states
returns-clause-states c = λ s frames. same_states s frames
