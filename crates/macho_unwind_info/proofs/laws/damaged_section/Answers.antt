use Rattle.std.proofs.Common.{refl}
use Rattle.macho_unwind_info.proofs.laws.damaged_section.Goals as goal

pub returns : goal.returns
returns c = (_, refl, refl)
