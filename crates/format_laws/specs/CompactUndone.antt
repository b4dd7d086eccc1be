-- What it is for a step in a Mach-O module to undo a call.
use Rattle.std.specs.Prelude.{◌≡◌, false, Option, Some, Result, Ok}
use Rattle.unwind_definitions.specs.Caller.{Columns, StepFault}
use Rattle.unwind_definitions.specs.State.{State, Shows, KeepsOthers}
use Rattle.format_definitions.specs.CompactStep.{Stepped, MachoFault}

-- By an opcode there is a caller, which stands after a call. It shows a state, and keeps the columns that no state has.
pub record OpcodeUndoes (result : Option (Result Stepped StepFault)) (columns : Columns) (t : State) : Type 0 where
  pub caller : Columns
  pub answered : result ≡ Some (Ok (record { columns = caller; signal = false }))
  pub shows : Shows caller t
  pub others : KeepsOthers columns caller

-- The same of a step in a module.
pub record MachoUndone (result : Result (Option Stepped) MachoFault) (columns : Columns) (t : State) : Type 0 where
  pub caller : Columns
  pub answered : result ≡ Ok (Some (record { columns = caller; signal = false }))
  pub shows : Shows caller t
  pub others : KeepsOthers columns caller

-- The same without a word on other columns.
pub record GivesCaller (result : Option (Result Stepped StepFault)) (t : State) : Type 0 where
  pub caller : Columns
  pub answered : result ≡ Some (Ok (record { columns = caller; signal = false }))
  pub shows : Shows caller t

pub record GivesState (result : Result (Option Stepped) MachoFault) (t : State) : Type 0 where
  pub caller : Columns
  pub answered : result ≡ Ok (Some (record { columns = caller; signal = false }))
  pub shows : Shows caller t
