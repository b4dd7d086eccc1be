-- What a walk and a delivery give: the states from the start outwards, the cleanups, and how it ended.
use Rattle.std.specs.Prelude.{ℕ, Bool, true, false, List, [], Option, Some, None, Result, Ok, Err}
use Rattle.memory_image.specs.Results.{result_map}
use Rattle.unwind_arch.specs.declared.x86_64.Context.{Context}
use Rattle.stack_walks.specs.declared.room.Trail.{Trail}
use Rattle.stack_deliver.specs.declared.outcome.Outcome.{Outcome}
use Rattle.stack_deliver.specs.declared.outcome.Outcome.TheVariants.{EndOfStack, FatalPhase1}
use Rattle.stack_steps.specs.declared.error.DeliverError.{DeliverError}
use Rattle.stack_steps.specs.Modules.{SpaceValue}
use Rattle.stack_steps.specs.Languages.{Languages, is_taken, rust_alone}
use Rattle.stack_walks.specs.FrameVisits.{Stop, Line, mark_at, pass_of, searching}
use Rattle.stack_deliver.specs.Passes.{CleanupsRun, passes_of}

-- the states that the search visited, the cleanups that ran, how it ended, and the state at the handler
pub record DeliveryValue : Type 0 where
  pub visited : List Context
  pub trail : List Trail
  pub outcome : Outcome
  pub landing : Option Context

abbrev pub delivery_after : List Context → Result CleanupsRun DeliverError → Result DeliveryValue DeliverError
delivery_after visited =
    result_map (λ (passed : CleanupsRun). record { visited = visited; trail = passed.trail; outcome = passed.ending.outcome; landing = passed.ending.landing })

abbrev pub no_delivery : List Context → Outcome → DeliveryValue
no_delivery visited outcome = record { visited = visited; trail = []; outcome = outcome; landing = None }

-- what follows where the search stops at a frame that takes the exception, or where the program ends at once
abbrev pub delivery_at : List Context → Bool → Result CleanupsRun DeliverError → Result DeliveryValue DeliverError
delivery_at visited false passed = Ok (no_delivery visited FatalPhase1)
delivery_at visited true passed = delivery_after visited passed

-- nothing is delivered at the end of the stack; else the passes go toward the frame for which the search stopped
abbrev pub delivery_to : List Context → Option Stop → (ℕ → Result CleanupsRun DeliverError) → Result DeliveryValue DeliverError
delivery_to visited None passes = Ok (no_delivery visited EndOfStack)
delivery_to visited (Some stop) passes = delivery_at visited (is_taken stop.action) (passes (mark_at stop.context stop.interrupted))

abbrev pub delivery_by : Result Line DeliverError → (ℕ → Result CleanupsRun DeliverError) → Result DeliveryValue DeliverError
delivery_by (Ok line) passes = delivery_to line.contexts line.stop passes
delivery_by (Err e) passes = Err e

-- What a delivery from a context gives, by the rules of languages: the space, the context, the exception, the return addresses by pad,
-- and the most states of a pass, which is also the most cleanups.
unfoldable pub delivery_through : Languages → SpaceValue → Context → ℕ → List (ℕ × ℕ) → ℕ → Result DeliveryValue DeliverError
delivery_through languages space c exception resumes limit =
    delivery_by (pass_of (searching languages) space limit c false) (λ kept. passes_of languages space exception kept resumes limit limit c)

-- by the rule of Rust alone
abbrev pub stack_delivery : SpaceValue → Context → ℕ → List (ℕ × ℕ) → ℕ → Result DeliveryValue DeliverError
stack_delivery = delivery_through rust_alone
