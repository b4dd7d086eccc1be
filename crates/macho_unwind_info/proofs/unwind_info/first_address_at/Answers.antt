use Rattle.std.proofs.Common.{sym}
use Rattle.macho_unwind_info.specs.Lookup.{first_address}
use Rattle.macho_unwind_info.proofs.SearchLemmas.{key_of_none}
use Rattle.macho_unwind_info.proofs.unwind_info.first_address_at.Goals as goal

pub returns-in-None : goal.returns-in-None
returns-in-None c = sym (key_of_none first_address c.args.pages.now c.args.i (sym c.in-None.ensures))
