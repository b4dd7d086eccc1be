use Rattle.unwind_laws.proofs.Relative.{relative_read}
use Rattle.unwind_laws.proofs.numbers.relative_pointer_is_spelled.Goals as goal

pub returns : goal.returns
returns c bases i d bytes to follows spells = relative_read bases i d bytes to follows spells
