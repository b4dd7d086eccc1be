-- What a delivery leaves in a room, and why it is refused.
use Rattle.std.specs.Prelude.{◌≡◌, ℕ, ◌<◌, List, length, Result, Ok, Err}
use Rattle.unwind_definitions.specs.State.{State}
use Rattle.unwind_definitions.specs.Function.{Function}
use Rattle.unwind_definitions.specs.Chain.{Call}
use Rattle.format_definitions.specs.Valid.{IsValid}
use Rattle.unwind_arch.specs.declared.x86_64.Context.{Context}
use Rattle.unwind_arch.specs.ContextViews.{columns_of}
use Rattle.stack_deliver.specs.declared.outcome.Ending.{Ending}
use Rattle.stack_steps.specs.declared.error.DeliverError.{DeliverError}
use Rattle.stack_steps.specs.Modules.{SpaceValue}
use Rattle.stack_steps.specs.SpaceViews.{formats_of}
use Rattle.stack_deliver.specs.StackDelivery.{DeliveryValue}
use Rattle.stack_deliver.specs.StateViews.{delivery_shown}
use Rattle.unwind_definitions.specs.Delivery as described
use Rattle.stack_walks.specs.Walking.{RoomValue}

-- a delivery: what it left in a room, and how it ended
abbrev pub delivery_in : RoomValue → Ending → DeliveryValue
delivery_in room ending = record { visited = room.visited; trail = room.trail; outcome = ending.outcome; landing = ending.landing }

-- a delivery's answer and the room after it are the delivery that is due, or its fault
abbrev pub IsDelivered : Result Ending DeliverError → RoomValue → Result DeliveryValue DeliverError → Type 0
IsDelivered (Ok ending) room due = due ≡ Ok (delivery_in room ending)
IsDelivered (Err e) room due = due ≡ Err e

-- A delivery starts in a chain that the modules describe, with room for its states: every module, of whatever format each is, describes
-- its part of the functions by the data of its format, and where a handler takes the exception, the resume table says where each frame
-- inside it goes on after its cleanup.
pub record StartsValidChain (space : SpaceValue) (c : Context) (resumes : List (ℕ × ℕ)) (limit : ℕ) (functions : List Function) (s : State) (calls : List Call) : Type 0 where
  pub valid : IsValid space.image (formats_of space) (columns_of c) resumes functions s calls
  pub shorter : length calls < limit

-- what a delivery did is what the definition says of a chain of calls
abbrev pub ShowsDelivery : DeliveryValue → ℕ → State → List Call → Type 0
ShowsDelivery d exception s calls = delivery_shown d ≡ described.delivery_of exception s calls
