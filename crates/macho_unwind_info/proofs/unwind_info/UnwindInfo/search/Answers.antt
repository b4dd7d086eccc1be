use Rattle.std.proofs.Common.{arith}
use Rattle.macho_unwind_info.specs.Lookup.{first_address}
use Rattle.macho_unwind_info.proofs.SearchLemmas.{key_of_record}
use Rattle.macho_unwind_info.proofs.unwind_info.UnwindInfo.search.Goals as goal

pub lookup-requires : goal.lookup-requires
lookup-requires c =
    let key = key_of_record first_address c.self.inside.pages c.in-Some.i c.at-page.result c.at-page.ensures in
    omega (arith, key, c.in-Some.ensures.found.at_or_before, c.in_ok-opened.ensures.base)
