use Rattle.std.proofs.Common.{◌≡◌, ◌≤◌, drop, length}
use Rattle.serde_json.specs.View.{items_view}
use Rattle.stack_snapshot.specs.Sampled.{sample_list}
use Rattle.stack_snapshot.proofs.Each.{with_front}
use Rattle.stack_snapshot.proofs.sampled.sample_list.Given as goal

abbrev pub invariant-loop-item : goal.invariant-loop-item
invariant-loop-item l = record {
  read : with_front l.samples (sample_list (items_view (drop l.item-index l.items))) ≡ sample_list (items_view l.items);
  few : length l.samples ≤ 65536;
}
