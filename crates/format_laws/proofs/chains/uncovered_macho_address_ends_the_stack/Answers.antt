use Rattle.format_laws.proofs.Steps.{uncovered_ends}
use Rattle.format_laws.proofs.chains.uncovered_macho_address_ends_the_stack.Goals as goal

pub returns : goal.returns
returns c' = λ image m a columns u. uncovered_ends image m a columns u
