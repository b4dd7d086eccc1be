use Rattle.macho_unwind_info.specs.Listing.{entries_of}
use Rattle.std.proofs.Common.{refl}
use Rattle.macho_unwind_info.proofs.ListingLemmas.{slice_get-functions_of}
use Rattle.macho_unwind_info.proofs.page.Page.function.Goals as goal

pub returns-in_err-entry : goal.returns-in_err-entry
returns-in_err-entry c =
    rw (slice_get-functions_of c.args.next_address (entries_of c.args.global.now c.args.self.now) c.args.i, ← c.entry.ensures, c.in_err-entry.was) c.from_residual.ensures

pub returns : goal.returns
returns c =
    rw (slice_get-functions_of c.args.next_address (entries_of c.args.global.now c.args.self.now) c.args.i, ← c.entry.ensures, c.in_ok-entry.was, ← c.entry-after.ensures, c.function_of.ensures) refl
