use Rattle.std.proofs.Common.{◌≡◌, ◌-◌, length}
use Rattle.std.specs.Prelude.{vec_capacity}
use Rattle.named_walks.specs.Marking.{marked_line_of, stopped_at}
use Rattle.named_walks.proofs.Marks.{with_front}
use Rattle.named_walks.proofs.marking.walk_marked.Given as goal

abbrev pub invariant-loop : goal.invariant-loop
invariant-loop l = record {
  line : with_front l.visited.items (marked_line_of l.space (l.limit - l.counter) l.state) ≡ marked_line_of l.space l.limit (stopped_at l.thread);
  count : length l.visited.items ≡ l.counter;
  places : vec_capacity l.visited ≡ vec_capacity l.fn.visited;
  over : l.stepper ≡ l.space;
}
