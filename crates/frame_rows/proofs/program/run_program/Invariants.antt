use Rattle.std.proofs.Common.{ℕ, ◌≡◌, ◌-◌}
use Rattle.unwind_definitions.specs.Instructions.{program_from}
use Rattle.unwind_definitions.specs.Row.{RowInstructions}
use Rattle.encoded_pointers.specs.CursorViews.{at}
use Rattle.frame_rows.specs.InstructionViews.{coding_in}
use Rattle.frame_rows.specs.Running.{Represents, outcome}
use Rattle.frame_rows.proofs.program.run_program.Given as goal

-- the machine has run some instructions, from which what is left gives what all give
abbrev pub invariant-loop-turn : goal.invariant-loop-turn
invariant-loop-turn l = (start : ℕ) (run : RowInstructions) → Represents start l.fn.machine run → (now : RowInstructions) × Represents start l.machine now
    × (outcome start l.pc now (program_from (l._turn-end - l._turn) (coding_in l.coding) (at l.input)) ≡ outcome start l.pc run (program_from l._turn-end (coding_in l.coding) (at l.fn.bytes)))
