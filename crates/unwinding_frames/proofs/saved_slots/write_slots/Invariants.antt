use Rattle.std.proofs.Common.{◌≡◌, ℕ, List, length, map}
use Rattle.memory_image.specs.Image.{Span}
use Rattle.unwind_definitions.specs.Caller.{Columns}
use Rattle.unwind_definitions.specs.Expressions.{evaluation}
use Rattle.unwind_arch.specs.ContextViews.{columns_of}
use Rattle.frame_rows.specs.Left.{registers_left}
use Rattle.frame_rows.specs.Reach.{AreSavedBelow}
use Rattle.frame_rows.specs.Rules.{entry_of}
use Rattle.unwinding_frames.specs.Calling.{rules_applied}
use Rattle.unwinding_frames.specs.Slots.{AreSlots}
use Rattle.unwinding_frames.proofs.saved_slots.write_slots.Given as goal

abbrev pub decreases-loop-register : goal.decreases-loop-register
decreases-loop-register l = length (registers_left l.rest)

-- what is applied by the rules that are left is what was to be applied, and they are saved so
abbrev pub invariant-loop-register : goal.invariant-loop-register
invariant-loop-register l = AreSavedBelow l.reach (map entry_of (registers_left l.rest))
    × ((image : List Span) (cfa : ℕ) → AreSlots image cfa l.reach l.slots → (old : Columns) →
    rules_applied (evaluation image) image old cfa (map entry_of (registers_left l.rest)) (columns_of l.context)
    ≡ rules_applied (evaluation image) image old cfa (map entry_of (registers_left l.initial.rest)) (columns_of l.initial.context))
