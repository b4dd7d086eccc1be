use Rattle.std.proofs.Common.{◌≡◌, drop, []}
use Rattle.serde_json.specs.View.{items_view}
use Rattle.stack_snapshot.specs.Snapshot.{each_of, resume_of}
use Rattle.stack_snapshot.proofs.Each.{with_table}
use Rattle.stack_snapshot.proofs.reading.resume_list.Given as goal

abbrev pub invariant-loop-item : goal.invariant-loop-item
invariant-loop-item l =
    with_table l.resumes (each_of resume_of (items_view (drop l.item-index l.items))) ≡ with_table [] (each_of resume_of (items_view l.items))
