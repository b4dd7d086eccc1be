use Rattle.std.proofs.Common.{◌≡◌, drop}
use Rattle.serde_json.specs.View.{items_view}
use Rattle.stack_snapshot.specs.Snapshot.{each_of}
use Rattle.claim_checks.specs.Functions.{range_of}
use Rattle.claim_checks.proofs.Lists.{with_front}
use Rattle.claim_checks.proofs.functions.range_list.Given as goal

abbrev pub invariant-loop-item : goal.invariant-loop-item
invariant-loop-item l =
    with_front l.ranges.items (each_of range_of (items_view (drop l.item-index l.items))) ≡ each_of range_of (items_view l.items)
