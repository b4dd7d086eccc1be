use Rattle.std.proofs.Common.{◌≡◌, drop}
use Rattle.serde_json.specs.View.{items_view}
use Rattle.stack_snapshot.specs.Thrown.{word_list}
use Rattle.stack_snapshot.proofs.Each.{with_front}
use Rattle.stack_snapshot.proofs.thrown.word_list.Given as goal

abbrev pub invariant-loop-item : goal.invariant-loop-item
invariant-loop-item l = with_front l.words.items (word_list (items_view (drop l.item-index l.items))) ≡ word_list (items_view l.items)
