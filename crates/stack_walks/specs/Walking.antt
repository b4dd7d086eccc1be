-- What a walk leaves in a room, and why it is refused.
use Rattle.std.specs.Prelude.{◌≡◌, ◌⊎◌, ℕ, zero, suc, ◌<◌, Bool, List, length, Result, Ok, Err, Some, [], ◌∷◌}
use Rattle.unwind_definitions.specs.State.{State, Shows}
use Rattle.unwind_definitions.specs.Function.{Function}
use Rattle.unwind_definitions.specs.Chain.{Call, states_of, StacksRise}
use Rattle.format_definitions.specs.Modules.{IsDescribedChain}
use Rattle.unwind_arch.specs.declared.x86_64.Context.{Context}
use Rattle.unwind_arch.specs.ContextViews.{columns_of}
use Rattle.stack_walks.specs.declared.room.Trail.{Trail}
use Rattle.format_frames.specs.declared.machine.Stepped.{Stepped}
use Rattle.stack_steps.specs.declared.error.DeliverError.{DeliverError}
use Rattle.stack_steps.specs.Modules.{SpaceValue}
use Rattle.stack_steps.specs.SpaceViews.{formats_of}
use Rattle.stack_steps.specs.Stepping.{step_of}

-- ---- what contexts show

-- contexts show states, one by one
abbrev pub EachShows : List Context → List State → Type 0
EachShows [] [] = Unit {0}
EachShows (c ∷ cs) (s ∷ ss) = Shows (columns_of c) s × EachShows cs ss
EachShows [] (s ∷ ss) = ⊥
EachShows (c ∷ cs) [] = ⊥

-- ---- rooms and answers

-- the states and the cleanups that stand in a room, and of how many of each it has the places
pub record RoomValue : Type 0 where
  pub visited : List Context
  pub trail : List Trail
  pub limit : ℕ

-- a walk's answer and the room after it are the states that are due, or the fault
abbrev pub IsWalked : {A : Type 0} → Result A DeliverError → RoomValue → Result (List Context) DeliverError → Type 0
IsWalked (Ok done) room due = due ≡ Ok room.visited
IsWalked (Err e) room due = due ≡ Err e

-- The step from one of so many states, from a context outwards, faults so.
abbrev pub StepFails : SpaceValue → ℕ → Context → Bool → DeliverError → Type 0
StepFails space zero c interrupted e = ⊥
StepFails space (suc room) c interrupted e = (step_of space c interrupted ≡ Err e) ⊎ ((s : Stepped) × (step_of space c interrupted ≡ Ok (Some s)) × StepFails space room s.context s.signal e)

-- A context shows the innermost state of a chain of calls that is shorter than the limit. The modules are of whatever format each,
-- ELF, Mach-O or PE: the unwind data that each module has by its format describe the functions of the chain that lie in it.
pub record StartsChain (space : SpaceValue) (c : Context) (limit : ℕ) (functions : List Function) (s : State) (calls : List Call) : Type 0 where
  pub described : IsDescribedChain space.image (formats_of space) functions s calls
  pub shows : Shows (columns_of c) s
  pub shorter : length calls < limit

-- contexts show the states of a chain from the innermost outwards, and the stack pointers of these strictly rise
pub record ShowChain (cs : List Context) (s : State) (calls : List Call) : Type 0 where
  pub states : EachShows cs (states_of s calls)
  pub rise : StacksRise (states_of s calls)
