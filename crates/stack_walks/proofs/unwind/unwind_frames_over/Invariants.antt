use Rattle.std.proofs.Common.{◌≡◌, ◌-◌, List, true, false, length}
use Rattle.unwind_arch.specs.declared.x86_64.Context.{Context}
use Rattle.stack_walks.specs.FrameVisits.{line_for}
use Rattle.stack_steps.specs.Ticking.{RisesWithin}
use Rattle.stack_walks.specs.WalkEnds.{reached_by, turned_from}
use Rattle.stack_walks.proofs.Reaching.{met_before}
use Rattle.stack_walks.specs.VisitViews.{passing, with_contexts, visits, AreVisited}
use Rattle.stack_walks.proofs.unwind.unwind_frames_over.Given as goal

abbrev pub invariant-loop : goal.invariant-loop
invariant-loop g l = record {
  line : (front : List Context) × (with_contexts front (line_for (passing l.pass) l.fn.stepper (l.limit - l.counter) l.state.context l.state.signal) ≡ line_for (passing l.pass) l.fn.stepper l.limit l.fn.state.context l.fn.state.signal) ×
      AreVisited (visits (passing l.pass)) l.room front ×
      (met_before front (reached_by (turned_from (passing l.pass) l.fn.stepper) (l.limit - l.counter) l.state) ≡ reached_by (turned_from (passing l.pass) l.fn.stepper) l.limit l.fn.state) × (length front ≡ l.counter);
  visited : visits (passing l.pass) ≡ true → length l.room.visited ≡ l.counter;
  stays : visits (passing l.pass) ≡ false → l.room ≡ l.fn.room;
  trail : l.room.trail ≡ l.fn.room.trail;
  places : l.room.limit ≡ l.fn.room.limit;
  over : l.stepper ≡ l.fn.stepper;
  ticks : RisesWithin l.fn.stepper l.counter l.fn.steps.number l.steps.number;
}
