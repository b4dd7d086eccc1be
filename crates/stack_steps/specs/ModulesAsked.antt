-- The module whose tables are asked for the frame that a context shows.
use Rattle.std.specs.Prelude.{◌≡◌, ℕ, ◌<◌, ◌≤◌, Bool, Some}
use Rattle.unwind_definitions.specs.LanguageSearch.{address_of_call}
use Rattle.unwind_arch.specs.declared.x86_64.Context.{Context}
use Rattle.stack_steps.specs.declared.space.AddedModule.{AddedModule}
use Rattle.stack_steps.specs.AddedModule.{IsAddedModule, added_of}
use Rattle.stack_steps.specs.Modules.{SpaceValue}
use Rattle.stack_steps.specs.Stepping.{frame_in, frame_of}
use Rattle.stack_steps.specs.Ticking.{TicksAt, TicksIn}

-- A module holds the address asked: its tables give the frame, and what is searched of them is what is counted.
pub record IsAsked (space : SpaceValue) (c : Context) (interrupted : Bool) (m : AddedModule) : Type 0 where
  pub added : IsAddedModule space.image m
  pub frame : frame_of space c interrupted ≡ frame_in space.image (address_of_call c.ra interrupted) (Some m.holder)
  pub from : m.holder.start ≤ address_of_call c.ra interrupted
  pub within : address_of_call c.ra interrupted < m.holder.end
  pub ticks : (old new : ℕ) → TicksIn space.image (added_of m) old new → TicksAt space c interrupted old new
