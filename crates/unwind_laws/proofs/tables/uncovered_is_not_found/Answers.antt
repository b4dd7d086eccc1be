use Rattle.unwind_laws.proofs.Found.{not_found}
use Rattle.unwind_laws.proofs.tables.uncovered_is_not_found.Goals as goal

pub returns : goal.returns
returns c image m a u = not_found image m a u
