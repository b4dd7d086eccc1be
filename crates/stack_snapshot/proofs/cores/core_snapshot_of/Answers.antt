use Rattle.std.proofs.Common.{◌≡◌, ℕ, List, true, sym, subst}
use Rattle.stack_snapshot.specs.Content.{takes_regions}
use Rattle.stack_snapshot.specs.Cores.{IsTaken, segments_image}
use Rattle.stack_snapshot.specs.Owned.{spans_of}
use Rattle.stack_snapshot.proofs.CoreTaken.{taken_is}
use Rattle.stack_snapshot.proofs.cores.core_snapshot_of.Goals as goal

pub regions_after-requires : goal.regions_after-requires
regions_after-requires c =
    let taken : IsTaken c.in_ok-file.file.items = subst IsTaken c.deref.ensures.value (taken_is c.deref.result.now c.in_ok-taken_core.field-0 c.in_ok-taken_core.ensures) in
    subst IsTaken (sym c.deref-2.ensures.value) taken

pub invariant_of-result : goal.invariant_of-result
invariant_of-result c =
    let taken : IsTaken c.in_ok-file.file.items = subst IsTaken c.deref.ensures.value (taken_is c.deref.result.now c.in_ok-taken_core.field-0 c.in_ok-taken_core.ensures) in
    let regions : takes_regions (segments_image c.in_ok-file.file.items) (spans_of c.in_ok-regions-2.regions.items) ≡ true =
    subst (λ (file : List ℕ). takes_regions (segments_image file) (spans_of c.in_ok-regions-2.regions.items) ≡ true) c.deref-2.ensures.value c.in_ok-regions-2.ensures.taken in
    (taken, regions, c.in_ok-modules-2.ensures.taken)
