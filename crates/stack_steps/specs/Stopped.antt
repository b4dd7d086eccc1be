-- A program that was stopped anywhere in a function, where it stands and not in a call: its state, and its caller.
use Rattle.std.specs.Prelude.{ℕ, ◌+◌, ◌<◌, List, length}
use Rattle.unwind_definitions.specs.State.{State, Shows}
use Rattle.unwind_definitions.specs.Function.{Function}
use Rattle.unwind_definitions.specs.Chain.{Call}
use Rattle.unwind_arch.specs.declared.x86_64.Context.{Context}
use Rattle.unwind_arch.specs.ContextViews.{columns_of}
use Rattle.format_definitions.specs.Modules.{IsDescribedChain}
use Rattle.format_definitions.specs.Stops.{IsDescribedStop}
use Rattle.stack_steps.specs.Modules.{SpaceValue}
use Rattle.stack_steps.specs.SpaceViews.{formats_of}

-- A context shows a state that was so stopped, where unwind data of its function's module tell of it, and whose caller's state is
-- the innermost of a chain of calls that the modules describe, of whatever format each is. The limit has room for all states.
pub record StartsStopped (space : SpaceValue) (c : Context) (limit : ℕ) (functions : List Function) (s : State) (call : Call) (calls : List Call) : Type 0 where
  pub stopped : IsDescribedStop space.image (formats_of space) functions s call
  pub described : IsDescribedChain space.image (formats_of space) functions call.caller calls
  pub shows : Shows (columns_of c) s
  pub shorter : length calls + 1 < limit
