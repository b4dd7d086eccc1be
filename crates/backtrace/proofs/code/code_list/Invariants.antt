use Rattle.std.proofs.Common.{◌≡◌, ◌++◌, drop}
use Rattle.serde_json.specs.View.{items_view}
use Rattle.backtrace.specs.Code.{code_list}
use Rattle.backtrace.proofs.code.code_list.Given as goal

abbrev pub invariant-loop-item : goal.invariant-loop-item
invariant-loop-item l = l.ranges.items ++ code_list (items_view (drop l.item-index l.items)) ≡ code_list (items_view l.items)
