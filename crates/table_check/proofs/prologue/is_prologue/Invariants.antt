use Rattle.std.proofs.Common.{map, drop, [], List}
use Rattle.unwind_definitions.specs.Prologue.{Step}
use Rattle.table_check.specs.ClaimViews.{prologue_step_of}
use Rattle.table_check.specs.Frames.{IsFrameAfter, MayGoOn}
use Rattle.table_check.proofs.prologue.is_prologue.Given as goal

-- the steps so far leave the frame, and all are a prologue exactly where the rest goes on
abbrev pub invariant-loop-step : goal.invariant-loop-step
invariant-loop-step l = (before : List Step) × IsFrameAfter l.frame before ×
    (MayGoOn l.last before (map prologue_step_of (drop l.step-index l.steps)) → MayGoOn 0 [] (map prologue_step_of l.steps)) ×
    (MayGoOn 0 [] (map prologue_step_of l.steps) → MayGoOn l.last before (map prologue_step_of (drop l.step-index l.steps)))
