-- What a pass of a delivery takes of a frame.
use Rattle.std.specs.Prelude.{◌≡◌, ℕ, Bool, false, Some, Ok}
use Rattle.unwind_definitions.specs.State.{State, Shows}
use Rattle.unwind_definitions.specs.Function.{Action}
use Rattle.unwind_arch.specs.declared.x86_64.Context.{Context}
use Rattle.unwind_arch.specs.ContextViews.{columns_of}
use Rattle.format_frames.specs.declared.machine.Stepped.{Stepped}
use Rattle.stack_steps.specs.Modules.{SpaceValue}
use Rattle.stack_steps.specs.Frames.{FrameAt}
use Rattle.stack_steps.specs.Stepping.{frame_of, caller_by}
use Rattle.stack_steps.specs.declared.asking.FrameAction.{FrameAction}
use Rattle.stack_steps.specs.Asking.{action_asked, arguments_of}
use Rattle.stack_steps.specs.Languages.{Languages, frame_asks}

-- At a context there is a frame: of which its language table asks this, whose arguments have this size, and whose caller shows a
-- state, stopped in a call.
pub record MeetsFrame (space : SpaceValue) (c : Context) (interrupted : Bool) (asked : Action) (arguments : ℕ) (t : State) : Type 0 where
  pub frame : FrameAt
  pub framed : frame_of space c interrupted ≡ Ok (Some frame)
  pub asks : action_asked space.image c interrupted frame ≡ Ok asked
  pub size : arguments_of frame ≡ arguments
  pub next : Stepped
  pub called : caller_by space.image c frame ≡ Ok next
  pub unmarked : next.signal ≡ false
  pub shows : Shows (columns_of next.context) t

-- The same, where this is asked of an exception by the rules of languages.
pub record MeetsAsked (languages : Languages) (space : SpaceValue) (c : Context) (interrupted : Bool) (action : FrameAction) (arguments : ℕ) (t : State) : Type 0 where
  pub frame : FrameAt
  pub framed : frame_of space c interrupted ≡ Ok (Some frame)
  pub asks : frame_asks languages space.image c interrupted frame ≡ Ok action
  pub size : arguments_of frame ≡ arguments
  pub next : Stepped
  pub called : caller_by space.image c frame ≡ Ok next
  pub unmarked : next.signal ≡ false
  pub shows : Shows (columns_of next.context) t
