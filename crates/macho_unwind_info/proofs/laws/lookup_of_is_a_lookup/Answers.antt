use Rattle.macho_unwind_info.proofs.LookupLemmas.{lookup_of-is}
use Rattle.macho_unwind_info.proofs.laws.lookup_of_is_a_lookup.Goals as goal

pub returns : goal.returns
returns c = λ info pc. lookup_of-is info pc
