-- What it is for a frame, and for a step, in a PE module to undo a call.
use Rattle.std.specs.Prelude.{◌≡◌, ℕ, Option, Result, Ok}
use Rattle.unwind_definitions.specs.Caller.{Columns}
use Rattle.unwind_definitions.specs.State.{State, Shows}
use Rattle.pe_unwind_info.specs.declared.x86_64.function_table.RuntimeFunction.{RuntimeFunction}
use Rattle.pe_unwind_info.specs.FrameOf.{Image, frame_end_of}
use Rattle.pe_unwind_info.specs.Machine.{Registers, Stack, Returned}
use Rattle.format_definitions.specs.PeRegisters.{ShowsRegisters, KeepsScratch, KeepsScratchColumns}
use Rattle.format_definitions.specs.PeStep.{PeFault}

-- A frame answers the return address of a state and registers that show it, and keeps the scratch registers.
pub record FrameUndone (memory : Image) (stack : Stack) (function : Option RuntimeFunction) (a : ℕ) (regs : Registers) (t : State) : Type 0 where
  pub after : Registers
  pub is : frame_end_of memory stack a function regs ≡ Returned t.ra after
  pub shows : ShowsRegisters after t
  pub scratch : KeepsScratch regs after

-- A step answers columns that show a state, and keeps all other columns but those of RSI and RDI.
pub record CallUndone (result : Result Columns PeFault) (columns : Columns) (t : State) : Type 0 where
  pub caller : Columns
  pub answered : result ≡ Ok caller
  pub shows : Shows caller t
  pub others : KeepsScratchColumns columns caller

-- The same without a word on other columns.
pub record GivesState (result : Result Columns PeFault) (t : State) : Type 0 where
  pub caller : Columns
  pub answered : result ≡ Ok caller
  pub shows : Shows caller t
