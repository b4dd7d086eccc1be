-- What instructions make of bodies. No public clause cites this.
use Rattle.std.specs.Prelude.{◌≡◌, ℕ, ◌<◌, Bool, false, List, length, slice_index_or, Option, Some, None, Result, Ok, Err}
use Rattle.std.specs.List.{AllByRecursion}
use Rattle.unwind_definitions.specs.declared.error.Error.{Error as Fault}
use Rattle.unwind_definitions.specs.Instructions.{Instruction, Offset, Write, CfaOffset, Reset}
use Rattle.unwind_definitions.specs.Row.{ColumnAndOffset, RowInstructions, fault_of, has_column, initial_rule}
use Rattle.frame_rows.specs.Bodies.{Says, kept_answer}
use Rattle.frame_rows.specs.RowValue.{RowValue}
use Rattle.frame_rows.specs.Rules.{is_room, rule_in}
use Rattle.frame_rows.specs.Running.{Represents, push}
use Rattle.frame_rows.specs.declared.known_steps.KnownStep.{KnownStep}
use Rattle.frame_rows.specs.declared.machine.Machine.{Machine}
use Rattle.frame_rows.specs.declared.machine.RowState.{RowState}
use Rattle.frame_rows.specs.declared.rule.CfaRule.{CfaRule as CodedCfa}

-- the body at a place is the row of a state
pub record IsStateAt (bodies : List (Result RowValue Fault)) (place : ℕ) (state : RowState) : Type 0 where
  pub cfa : CodedCfa
  pub has : state.cfa ≡ Some cfa
  pub says : Says bodies place (kept_answer (Ok cfa) state.rules state.saved_args_size)

-- the body at a place is the row of a state that is remembered, or none is
abbrev pub IsMemoryAt : List (Result RowValue Fault) → Option ℕ → Option RowState → Type 0
IsMemoryAt bodies None None = Unit {0}
IsMemoryAt bodies (Some place) (Some state) = IsStateAt bodies place state
IsMemoryAt bodies None (Some state) = ⊥
IsMemoryAt bodies (Some place) None = ⊥

-- where a machine's row is one body, it is another one after an instruction, which is no fault
pub record MakesBody (bodies : List (Result RowValue Fault)) (i : Instruction) (from to : ℕ) : Type 0 where
  pub within : from < length bodies
  pub there : to < length bodies
  pub makes : (start : ℕ) (m : Machine) (run : RowInstructions) → Represents start m run → IsStateAt bodies from m.state → (t : RowState) × IsStateAt bodies to t × (fault_of start run i ≡ None) × Represents start (record m { state = t }) (push run i)

-- the body at a place has the initial rules of a run
pub record HasInitial (bodies : List (Result RowValue Fault)) (place : ℕ) (run : RowInstructions) : Type 0 where
  pub row : RowValue
  pub says : Says bodies place (Ok row)
  pub rules : (c : ℕ) → rule_in row.rules c ≡ initial_rule run c

-- where a machine's row is one body, it is another one once a column has its initial rule again, which a first body has
pub record RestoresBody (bodies : List (Result RowValue Fault)) (column first from to : ℕ) : Type 0 where
  pub there : to < length bodies
  pub makes : (start : ℕ) (m : Machine) (run : RowInstructions) → HasInitial bodies first run → Represents start m run → IsStateAt bodies from m.state → (t : RowState) × IsStateAt bodies to t × (fault_of start run (Reset column) ≡ None) × Represents start (record m { state = t }) (push run (Reset column))

-- the body at a place says what another one did, but for the CFA, which is a column and an offset
pub record SaysWithCfa (old new : List (Result RowValue Fault)) (column offset place to : ℕ) : Type 0 where
  pub row : RowValue
  pub within : place < length old
  pub was : (d : Result RowValue Fault) → slice_index_or old place d ≡ Ok row
  pub says : Says new to (Ok (record { cfa = ColumnAndOffset column offset; rules = row.rules; saved_args_size = row.saved_args_size }))

-- whether a body's CFA is a column and an offset
abbrev pub has_column_cfa : Result RowValue Fault → Bool
has_column_cfa (Ok row) = has_column (Some row.cfa)
has_column_cfa (Err e) = false

-- whether a column of a body can get a rule
abbrev pub takes_rule : ℕ → Result RowValue Fault → Bool
takes_rule column (Ok row) = is_room column row.rules
takes_rule column (Err e) = false

-- what the operands of two kinds of steps stand for
abbrev pub offset_step : KnownStep → Instruction
offset_step step = CfaOffset step.offset

abbrev pub save_step : KnownStep → Instruction
save_step step = Write step.register.0 (Offset step.offset)

abbrev pub IsStepOf : (KnownStep → Instruction) → List (Result RowValue Fault) → KnownStep → Type 0
IsStepOf kind bodies step = MakesBody bodies (kind step) step.from step.to

abbrev pub AreSteps : (KnownStep → Instruction) → List (Result RowValue Fault) → List KnownStep → Type 0
AreSteps kind bodies slots = AllByRecursion (IsStepOf kind bodies) slots
