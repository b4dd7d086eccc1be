-- What it is for a step to leave a signal's frame.
use Rattle.std.specs.Prelude.{◌≡◌, true, Option, Some, Result, Ok}
use Rattle.unwind_definitions.specs.State.{State, Shows}
use Rattle.unwind_arch.specs.ContextViews.{columns_of}
use Rattle.format_frames.specs.declared.machine.Stepped.{Stepped}
use Rattle.stack_steps.specs.declared.error.DeliverError.{DeliverError}

-- A step answers a context that shows a state, marked as one that a signal interrupted where it stands: of it the return address
-- itself is asked next, and not the one before.
pub record Interrupted (result : Result (Option Stepped) DeliverError) (t : State) : Type 0 where
  pub next : Stepped
  pub answered : result ≡ Ok (Some next)
  pub marked : next.signal ≡ true
  pub shows : Shows (columns_of next.context) t
