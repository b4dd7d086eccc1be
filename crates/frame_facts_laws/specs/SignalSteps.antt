-- What a step out of a signal's frame comes to: the state that the signal interrupted. DWARF 5 section 6.4.1.
use Rattle.std.specs.Prelude.{◌≡◌, ℕ, ◌<◌, true, List, Some, Ok}
use Rattle.memory_image.specs.Image.{Span}
use Rattle.unwind_definitions.specs.Row.{RowInstructions}
use Rattle.unwind_definitions.specs.Caller.{Columns, x86_64, caller_of}
use Rattle.unwind_definitions.specs.Expressions.{evaluation}
use Rattle.unwind_definitions.specs.State.{State, Shows}
use Rattle.unwind_definitions.specs.Module.{Process}
use Rattle.frame_facts_laws.specs.FactWalks.{FindsRow}

-- columns have the sixteen general registers
abbrev pub HasGeneralRegisters : Columns → Type 0
HasGeneralRegisters columns = (c : ℕ) → c < 16 → (v : ℕ) × (columns c ≡ Some v)

-- by a row there are columns that show a state
pub record GivesInterrupted (image : List Span) (run : RowInstructions) (t : State) (columns : Columns) : Type 0 where
  pub caller : Columns
  pub is_caller : caller_of x86_64 (evaluation image) image columns run ≡ Ok caller
  pub shows : Shows caller t

-- By what is found for an address, which is a signal's frame, the columns of a frame there give a state.
pub record StepsToInterrupted (p : Process) (columns : Columns) (a : ℕ) (t : State) : Type 0 where
  pub finds : FindsRow p true a
  pub gives : GivesInterrupted p.image finds.run t columns
