use Rattle.std.proofs.Common.{◌≡◌, ◌∙◌, sym, subst, refl, List, Result}
use Rattle.macho_unwind_info.specs.Listing.{listing}
use Rattle.macho_unwind_info.specs.Lookup.{range_start, range_end}
use Rattle.macho_unwind_info.specs.Described.{LieEndToEnd}
use Rattle.macho_unwind_info.specs.declared.error.Error.{Error}
use Rattle.macho_unwind_info.specs.declared.function.Function.{Function}
use Rattle.macho_unwind_info.proofs.Tiling.{listing_end_to_end}
use Rattle.macho_unwind_info.proofs.unwind_info.UnwindInfo.functions.Goals as goal

pub returns-clause-end_to_end : goal.returns-clause-end_to_end
returns-clause-end_to_end c are =
    let same : ◌≡◌ {A = List (Result Function Error)} c.new.result (listing c.args.self.now) = c.new.ensures ∙ rw (c.after.ensures, c.after-2.ensures, ← c.self.view_is) refl in
    subst (λ (places : List (Result Function Error)). LieEndToEnd (range_start c.args.self.now) (range_end c.args.self.now) places) (sym same) (listing_end_to_end c.args.self.now are)
