use Rattle.std.proofs.Common.{◌≡◌}
use Rattle.std.specs.Vec.Iter.{into_iter_items}
use Rattle.serde_json.specs.View.{items_view}
use Rattle.stack_snapshot.specs.Snapshot.{each_of, module_of}
use Rattle.stack_snapshot.proofs.Each.{with_front}
use Rattle.stack_snapshot.proofs.reading.module_list.Given as goal

abbrev pub invariant-loop-item : goal.invariant-loop-item
invariant-loop-item l =
    with_front (l.modules.items) (each_of module_of (items_view (into_iter_items l.item-iterator))) ≡ each_of module_of (items_view (into_iter_items l.initial.item-iterator))
