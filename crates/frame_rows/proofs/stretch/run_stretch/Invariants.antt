use Rattle.std.proofs.Common.{◌≡◌, ℕ, ◌≤◌, List, false}
use Rattle.unwind_definitions.specs.Row.{RowInstructions}
use Rattle.frame_rows.specs.InstructionViews.{coding_in}
use Rattle.frame_rows.specs.KeptRows.{Kept}
use Rattle.frame_rows.specs.Movable.{IsMovable}
use Rattle.frame_rows.specs.Running.{Represents}
use Rattle.frame_rows.specs.SameRules.{KnowsRows}
use Rattle.frame_rows.specs.Stretches.{left_of}
use Rattle.frame_rows.proofs.StretchSteps.{IsUnderway}
use Rattle.frame_rows.proofs.stretch.run_stretch.Given as goal

-- the machine has run some instructions, none of which led on
abbrev pub invariant-loop-next : goal.invariant-loop-next
invariant-loop-next l = (l.instructions.left ≤ l.fn.instructions.left) × ((start : ℕ) (run : RowInstructions) → Represents start l.fn.machine run →
    (now : RowInstructions) × Represents start l.machine now × IsUnderway start run (left_of (coding_in l.coding) l.fn.instructions) now (left_of (coding_in l.coding) l.instructions))
    × (l.instructions.sets_location ≡ false → (l.fn.instructions.sets_location ≡ false) × (IsMovable (left_of (coding_in l.coding) l.instructions) → IsMovable (left_of (coding_in l.coding) l.fn.instructions)))
    × ((rows : List Kept) → KnowsRows rows l.fn.machine → KnowsRows rows l.machine)

abbrev pub decreases-loop-next : goal.decreases-loop-next
decreases-loop-next l = l.instructions.left
