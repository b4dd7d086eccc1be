use Rattle.fact_walks.proofs.FactStacks.{one_stack}
use Rattle.fact_walks.proofs.stacks.known_stack_is_one.Goals as goal

pub returns : goal.returns
returns k space c limit interrupted s t callers others apart laid is also = one_stack space c limit interrupted s t callers others apart laid is also
