use Rattle.std.proofs.Common.{◌≡◌, false}
use Rattle.unwind_definitions.specs.Instructions.{program}
use Rattle.encoded_pointers.specs.CursorViews.{at}
use Rattle.frame_rows.specs.InstructionViews.{coding_in}
use Rattle.frame_rows.specs.Movable.{IsMovable}
use Rattle.frame_rows.specs.Stretches.{left_of}
use Rattle.frame_rows.proofs.known_common.sets_no_location.Given as goal

-- unless a location was set, the program can be moved where what is left of it can
abbrev pub invariant-loop-instructions : goal.invariant-loop-instructions
invariant-loop-instructions l = l.instructions.sets_location ≡ false → IsMovable (left_of (coding_in l.coding) l.instructions) → IsMovable (program (coding_in l.coding) (at l.bytes))

abbrev pub decreases-loop-instructions : goal.decreases-loop-instructions
decreases-loop-instructions l = l.instructions.left
