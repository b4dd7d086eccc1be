use Rattle.std.proofs.Common.{◌≡◌}
use Rattle.std.specs.Vec.Iter.{into_iter_items}
use Rattle.serde_json.specs.View.{items_view}
use Rattle.stack_snapshot.specs.Snapshot.{each_of, region_of}
use Rattle.stack_snapshot.specs.Owned.{spans_of}
use Rattle.stack_snapshot.proofs.Each.{with_front}
use Rattle.stack_snapshot.proofs.reading.region_list.Given as goal

abbrev pub invariant-loop-item : goal.invariant-loop-item
invariant-loop-item l =
    with_front (spans_of l.regions.items) (each_of region_of (items_view (into_iter_items l.item-iterator))) ≡ each_of region_of (items_view (into_iter_items l.initial.item-iterator))
