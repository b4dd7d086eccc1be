use Rattle.std.proofs.Common.{◌≡◌, ℕ, ◌+◌, ◌-◌, ◌≤◌, length}
use Rattle.stack_deliver.specs.Passes.{passes_of}
use Rattle.stack_steps.specs.Languages.{languages_of}
use Rattle.stack_steps.specs.Ticking.{RisesWithin}
use Rattle.stack_deliver.specs.Searches.{met_in_passes}
use Rattle.stack_deliver.specs.PassViews.{with_cleanups}
use Rattle.stack_deliver.proofs.passes.passes.Given as goal

abbrev pub invariant-loop-end : goal.invariant-loop-end
invariant-loop-end g l = record {
  passes : with_cleanups l.room.trail (passes_of (languages_of l.languages) l.fn.stepper l.exception l.kept l.resumes l.limit (l.limit - length l.room.trail) l.state.context) ≡ passes_of (languages_of l.languages) l.fn.stepper l.exception l.kept l.resumes l.limit l.limit l.start;
  full : length l.room.trail ≤ l.limit;
  visited : l.room.visited ≡ l.fn.room.visited;
  places : l.room.limit ≡ l.fn.room.limit;
  same : l.stepper ≡ l.fn.stepper;
  ticks : (before : ℕ) × RisesWithin l.fn.stepper before l.fn.steps.number l.steps.number ×
      (before + met_in_passes (languages_of l.languages) l.fn.stepper l.exception l.kept l.resumes l.limit (l.limit - length l.room.trail) l.state.context ≡ met_in_passes (languages_of l.languages) l.fn.stepper l.exception l.kept l.resumes l.limit l.limit l.start);
}

abbrev pub decreases-loop-end : goal.decreases-loop-end
decreases-loop-end g l = l.limit - length l.room.trail
