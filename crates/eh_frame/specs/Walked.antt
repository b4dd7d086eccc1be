-- The rows of a description that is gone through.
use Rattle.std.specs.Prelude.{ℕ, Result}
use Rattle.unwind_definitions.specs.declared.error.Error.{Error as Fault}
use Rattle.unwind_definitions.specs.Instructions.{program}
use Rattle.unwind_definitions.specs.Pointers.{Bases}
use Rattle.unwind_definitions.specs.Entries.{Fde, coding_of}
use Rattle.unwind_definitions.specs.Row.{RowInstructions, row}

-- the row that is due at an address, also after the description's range
abbrev pub due_row : Bases → Fde → ℕ → Result RowInstructions Fault
due_row bases fde pc = row fde.start pc (program (coding_of bases fde.cie) fde.cie.program) (program (coding_of bases fde.cie) fde.program)
