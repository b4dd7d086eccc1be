-- What it is for a step to undo a call.
use Rattle.std.specs.Prelude.{◌≡◌, Option, Some, Result, Ok, false}
use Rattle.unwind_definitions.specs.State.{State, Shows, KeepsOthers}
use Rattle.unwind_definitions.specs.Caller.{Columns}
use Rattle.unwind_arch.specs.ContextViews.{columns_of}
use Rattle.format_frames.specs.declared.machine.Stepped.{Stepped}
use Rattle.stack_steps.specs.declared.error.DeliverError.{DeliverError}
use Rattle.format_definitions.specs.Modules.{FormatModule, KeepsIn}

-- A step answers a context that shows a state, which isn't a signal's, and changes no column that a state doesn't have.
pub record Undone (result : Result (Option Stepped) DeliverError) (columns : Columns) (t : State) : Type 0 where
  pub next : Stepped
  pub answered : result ≡ Ok (Some next)
  pub unmarked : next.signal ≡ false
  pub shows : Shows (columns_of next.context) t
  pub others : KeepsOthers columns (columns_of next.context)

-- The same of a step from a frame in a module of whatever format: what it keeps goes by the format.
pub record UndoneIn (home : FormatModule) (result : Result (Option Stepped) DeliverError) (columns : Columns) (t : State) : Type 0 where
  pub next : Stepped
  pub answered : result ≡ Ok (Some next)
  pub unmarked : next.signal ≡ false
  pub shows : Shows (columns_of next.context) t
  pub others : KeepsIn home columns (columns_of next.context)
