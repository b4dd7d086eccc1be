-- What is delivered to a valid chain is what the definition says of it: the chain is a known stack.
use Rattle.std.proofs.Common.{◌≡◌, ℕ, ◌+◌, ◌*◌, ◌≤◌, List, length, Result, Ok, ◌∙◌}
use Rattle.memory_image.specs.Image.{IsLaidOut}
use Rattle.unwind_definitions.specs.State.{State}
use Rattle.unwind_definitions.specs.Function.{Function}
use Rattle.unwind_definitions.specs.Chain.{Call}
use Rattle.unwind_definitions.specs.Delivery.{frames_of}
use Rattle.frame_facts.specs.FactDeliveries.{asked_frames_of}
use Rattle.unwind_arch.specs.declared.x86_64.Context.{Context}
use Rattle.stack_steps.specs.declared.error.DeliverError.{DeliverError}
use Rattle.stack_steps.specs.Modules.{SpaceValue, AreApart}
use Rattle.stack_steps.proofs.ContextLemmas.{IsWhole}
use Rattle.stack_deliver.specs.Delivering.{StartsValidChain, ShowsDelivery}
use Rattle.stack_deliver.specs.Searches.{met_in_delivery}
use Rattle.stack_deliver.specs.StackDelivery.{DeliveryValue, stack_delivery}
use Rattle.stack_deliver.proofs.DescribedDeliveries.{callers_of, delivery_starts, delivered_alike}
use Rattle.stack_deliver.proofs.KnownDelivered.{DeliversKnown, known_delivered}

-- a delivery that is what the definition says, and how many contexts it meets
pub record DeliversChain (exception : ℕ) (s : State) (calls : List Call) (r : Result DeliveryValue DeliverError) (met : ℕ) : Type 0 where
  pub delivered : DeliveryValue
  pub is : r ≡ Ok delivered
  pub shows : ShowsDelivery delivered exception s calls
  pub few : met ≤ 2 * length delivered.visited + length delivered.trail

pub chain_delivered : (space : SpaceValue) (c : Context) (exception : ℕ) (resumes : List (ℕ × ℕ)) (limit : ℕ) (functions : List Function) (s : State) (calls : List Call) → AreApart 0 space.modules → IsLaidOut 0 space.image → IsWhole c →
    StartsValidChain space c resumes limit functions s calls → DeliversChain exception s calls (stack_delivery space c exception resumes limit) (met_in_delivery space c exception resumes limit)
chain_delivered space c exception resumes limit functions s calls apart laid whole is =
    let known : DeliversKnown exception s (callers_of calls) (asked_frames_of (frames_of s calls)) (stack_delivery space c exception resumes limit) (met_in_delivery space c exception resumes limit) =
    known_delivered space c exception resumes limit s (callers_of calls) (asked_frames_of (frames_of s calls)) apart laid whole (delivery_starts space c resumes limit functions s calls apart laid is) in
    record {
      delivered = known.delivered;
      is = known.is;
      shows = known.shows ∙ delivered_alike space c resumes limit functions s calls exception is;
      few = known.few;
    }
