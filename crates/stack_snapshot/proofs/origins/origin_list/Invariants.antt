use Rattle.std.proofs.Common.{◌≡◌, ◌++◌, drop}
use Rattle.serde_json.specs.View.{items_view}
use Rattle.stack_snapshot.specs.Origins.{origin_list}
use Rattle.stack_snapshot.proofs.origins.origin_list.Given as goal

abbrev pub invariant-loop-item : goal.invariant-loop-item
invariant-loop-item l = l.origins.items ++ origin_list (items_view (drop l.item-index l.items)) ≡ origin_list (items_view l.items)
