use Rattle.unwind_laws.proofs.Found.{function_found}
use Rattle.unwind_laws.proofs.tables.function_is_found.Goals as goal

pub returns : goal.returns
returns c image m functions d f a has from below = function_found image m functions d f a has from below
