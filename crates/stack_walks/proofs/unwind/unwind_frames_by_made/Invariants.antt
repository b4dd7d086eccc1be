use Rattle.std.proofs.Common.{◌≡◌, ◌-◌, List, None, true, length}
use Rattle.unwind_arch.specs.declared.x86_64.Context.{Context}
use Rattle.stack_walks.specs.FrameVisits.{line_for}
use Rattle.stack_steps.specs.MadeRows.{AreMade}
use Rattle.stack_steps.specs.Ticking.{RisesWithin}
use Rattle.stack_walks.specs.WalkEnds.{reached_by, turned_from}
use Rattle.stack_walks.proofs.Reaching.{met_before}
use Rattle.stack_walks.specs.VisitViews.{with_contexts, AreVisited}
use Rattle.stack_walks.proofs.unwind.unwind_frames_by_made.Given as goal

abbrev pub invariant-loop : goal.invariant-loop
invariant-loop g l = record {
  line : (front : List Context) × (with_contexts front (line_for None l.space (l.limit - l.counter) l.state.context l.state.signal) ≡ line_for None l.space l.limit l.fn.state.context l.fn.state.signal) ×
      AreVisited (true) l.room front ×
      (met_before front (reached_by (turned_from None l.space) (l.limit - l.counter) l.state) ≡ reached_by (turned_from None l.space) l.limit l.fn.state) × (length front ≡ l.counter);
  visited : length l.room.visited ≡ l.counter;
  trail : l.room.trail ≡ l.fn.room.trail;
  places : l.room.limit ≡ l.fn.room.limit;
  over : l.stepper ≡ l.space;
  made : AreMade l.space l.made;
  ticks : RisesWithin l.space l.counter l.fn.steps.number l.steps.number;
}
