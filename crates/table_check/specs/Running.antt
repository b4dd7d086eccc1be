-- The frame of a prologue whose steps are run one after another. No public clause cites this.
use Rattle.std.specs.Prelude.{◌≡◌, ℕ, ◌≤◌, List, [], ◌∷◌, ◌++◌, Option, Some, None, map, drop}
use Rattle.unwind_definitions.specs.Prologue.{PrologueStep, Step}
use Rattle.unwind_definitions.specs.DescribedRows.{ended_by}
use Rattle.table_check.specs.declared.claims.ClaimedStep.{ClaimedStep}
use Rattle.table_check.specs.declared.running.RunningFrame.{RunningFrame}
use Rattle.table_check.specs.ClaimViews.{prologue_step_of}
use Rattle.table_check.specs.Frames.{IsFrameAfter, MayGoOn}

-- the steps that were run have ended at an offset, and leave the frame; of the rest some may have ended too
pub record IsRunning (r : RunningFrame) (offset : ℕ) (steps : List ClaimedStep) : Type 0 where
  pub before : List Step
  pub last : ℕ
  pub frame : IsFrameAfter r.frame before
  pub reached : last ≤ offset
  pub goes_on : MayGoOn last before (map prologue_step_of (drop r.taken steps))
  pub ended : (o : ℕ) → last ≤ o → ended_by o (map prologue_step_of steps) ≡ before ++ ended_by o (map prologue_step_of (drop r.taken steps))

-- the end of the first of some steps, if there is one
abbrev pub first_end : List PrologueStep → Option ℕ
first_end [] = None
first_end (p ∷ ps) = Some p.end

-- the end of the first step that wasn't run
abbrev pub next_end_of : RunningFrame → List ClaimedStep → Option ℕ
next_end_of r steps = first_end (map prologue_step_of (drop r.taken steps))
