-- What is delivered to all known stacks that one context begins is the same.
use Rattle.std.proofs.Common.{◌≡◌, ℕ, List, ◌∷◌, length, Result, Ok, sym, ap, ◌∙◌}
use Rattle.memory_image.specs.Image.{IsLaidOut}
use Rattle.unwind_definitions.specs.State.{State}
use Rattle.frame_facts.specs.FactDeliveries.{AskedFrame, delivery_to}
use Rattle.unwind_arch.specs.declared.x86_64.Context.{Context}
use Rattle.stack_steps.specs.declared.error.DeliverError.{DeliverError}
use Rattle.stack_steps.specs.Modules.{SpaceValue, AreApart}
use Rattle.stack_deliver.specs.StackDelivery.{DeliveryValue, stack_delivery}
use Rattle.stack_deliver.specs.StateViews.{delivery_shown}
use Rattle.stack_deliver.specs.KnownDeliveries.{StartsKnownDelivery}
use Rattle.stack_deliver.proofs.KnownDelivered.{DeliversKnown, known_delivered}
use Rattle.stack_deliver.specs.Searches.{met_in_delivery}

one_value : (r : Result DeliveryValue DeliverError) (d e : DeliveryValue) → r ≡ Ok d → r ≡ Ok e → d ≡ e
one_value r d e x y = cc

pub one_delivery : (space : SpaceValue) (c : Context) (resumes : List (ℕ × ℕ)) (limit : ℕ) (s t : State) (callers others : List State) (frames also : List AskedFrame) (exception : ℕ) → AreApart 0 space.modules → IsLaidOut 0 space.image → length c.registers ≡ 16 →
    StartsKnownDelivery space c resumes limit s callers frames → StartsKnownDelivery space c resumes limit t others also → delivery_to exception (s ∷ callers) frames ≡ delivery_to exception (t ∷ others) also
one_delivery space c resumes limit s t callers others frames also exception apart laid whole one other =
    let x : DeliversKnown exception s callers frames (stack_delivery space c exception resumes limit) (met_in_delivery space c exception resumes limit) = known_delivered space c exception resumes limit s callers frames apart laid whole one in
    let y : DeliversKnown exception t others also (stack_delivery space c exception resumes limit) (met_in_delivery space c exception resumes limit) = known_delivered space c exception resumes limit t others also apart laid whole other in
    sym x.shows ∙ ap delivery_shown (one_value (stack_delivery space c exception resumes limit) x.delivered y.delivered x.is y.is) ∙ y.shows
