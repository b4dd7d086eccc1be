-- What a delivery tells its caller.
use Rattle.std.specs.Prelude.{◌≡◌, ◌⊎◌, ◌≤◌, ℕ, ◌+◌, List, [], ◌∷◌, ◌++◌, length, map, take, drop, replicate, Option, Some, None, Result, Ok, Err}
use Rattle.memory_image.specs.Results.{◌>>=◌, result_map}
use Rattle.unwind_definitions.specs.State.{State}
use Rattle.frame_facts.specs.FactDeliveries.{AskedFrame}
use Rattle.unwind_arch.specs.declared.x86_64.Context.{Context}
use Rattle.stack_steps.specs.declared.error.DeliverError.{DeliverError}
use Rattle.stack_steps.specs.Modules.{SpaceValue}
use Rattle.stack_walks.specs.declared.room.Trail.{Trail}
use Rattle.stack_deliver.specs.declared.outcome.Outcome.{Outcome}
use Rattle.stack_deliver.specs.declared.outcome.Outcome.TheVariants.{Installed, EndOfStack, FatalPhase1, FatalPhase2}
use Rattle.stack_deliver.specs.KnownDeliveries.{ShowsKnownDelivery, StartsKnownDelivery}
use Rattle.stack_deliver.specs.Resumes.{with_resume}
use Rattle.stack_deliver.specs.StackDelivery.{DeliveryValue, stack_delivery}
use Rattle.kalzurenk_c.specs.declared.delivery.Cleanup.{Cleanup}
use Rattle.kalzurenk_c.specs.declared.delivery.DeliveryTold.{DeliveryTold}
use Rattle.kalzurenk_c.specs.declared.delivery.PendingDelivery.{PendingDelivery}
use Rattle.kalzurenk_c.specs.declared.delivery.ResumePair.{ResumePair}
use Rattle.kalzurenk_c.specs.declared.given.GivenModule.{GivenModule}
use Rattle.kalzurenk_c.specs.declared.given.Region.{Region}
use Rattle.kalzurenk_c.specs.declared.refusal.Place.{Place}
use Rattle.kalzurenk_c.specs.declared.refusal.Refusal.{Refusal}
use Rattle.kalzurenk_c.specs.declared.refusal.Refusal.TheVariants as refused
use Rattle.kalzurenk_c.specs.Given.{SizedSpan, space_given}
use Rattle.kalzurenk_c.specs.Numbers.{refused_detail, refused_number}
use Rattle.kalzurenk_c.specs.Refusals.{place_after, status_of}
use Rattle.kalzurenk_c.specs.Sessions.{space_over}
use Rattle.kalzurenk_c.specs.Sizes.{cleanup_size, delivery_size, if_sized, place_sized, registers_size, resume_size, throw_size}

-- ---- what is handed in

-- The table after these pairs are added, in their order, or the first whose size isn't known. The first is at a place of its list.
abbrev pub resumes_after : ℕ → List (ℕ × ℕ) → List ResumePair → Result (List (ℕ × ℕ)) Refusal
resumes_after place table [] = Ok table
resumes_after place table (r ∷ rs) = if_sized r.size resume_size (refused.ResumeSize place) (resumes_after (place + 1) (with_resume table r.pad r.ret) rs)

-- a space and the return addresses of its landing pads
pub record DeliveryGiven : Type 0 where
  pub space : SpaceValue
  pub resumes : List (ℕ × ℕ)

abbrev pub with_space : SpaceValue → List (ℕ × ℕ) → DeliveryGiven
with_space space resumes = record { space = space; resumes = resumes }

-- of regions, modules and pairs, or the first that isn't taken
abbrev pub delivery_given : List Region → List GivenModule → List ResumePair → Result DeliveryGiven Refusal
delivery_given regions modules pairs = space_given regions modules >>= λ space. result_map (with_space space) (resumes_after 0 [] pairs)

abbrev pub with_resumes : List (ℕ × ℕ) → SpaceValue → DeliveryGiven
with_resumes resumes space = with_space space resumes

-- over a space and its memory, of regions that are added and pairs, or the first that isn't taken: of the pairs first
abbrev pub delivery_over : SpaceValue → List SizedSpan → List ResumePair → Result DeliveryGiven Refusal
delivery_over space spans pairs = resumes_after 0 [] pairs >>= λ resumes. result_map (with_resumes resumes) (space_over space spans)

-- what follows where the sizes are known: of the place of what is faulty, the registers, what is thrown, the delivery, and a cleanup
abbrev pub delivery_sized : {A : Type 0} → ℕ → ℕ → ℕ → ℕ → ℕ → Result A Refusal → Result A Refusal
delivery_sized place start thrown delivery cleanup more =
    place_sized place
    (if_sized start registers_size refused.RegistersSize
    (if_sized thrown throw_size refused.ThrowSize
    (if_sized delivery delivery_size refused.DeliverySize (if_sized cleanup cleanup_size refused.CleanupSize more))))

-- ---- what is told

abbrev pub cleanup_of : Trail → Cleanup
cleanup_of t = record { pad = t.pad; sp = t.sp }

-- cleanups over the places, as far as there are places
abbrev pub cleanups_over : List Trail → List Cleanup → List Cleanup
cleanups_over trail places = map cleanup_of (take (length places) trail) ++ drop (length trail) places

abbrev pub outcome_number : Outcome → ℕ
outcome_number Installed = 0
outcome_number EndOfStack = 1
outcome_number FatalPhase1 = 2
outcome_number FatalPhase2 = 3

-- the registers at a handler, where one is entered
abbrev pub registers_told : Option Context → List ℕ
registers_told None = replicate 16 0
registers_told (Some c) = c.registers

abbrev pub ip_told : Option Context → ℕ
ip_told None = 0
ip_told (Some c) = c.ra

abbrev pub delivery_told : DeliveryValue → DeliveryTold
delivery_told d = record {
  size = delivery_size;
  cleanup_size = cleanup_size;
  visited = length d.visited;
  cleanups = length d.trail;
  detail = 0;
  outcome = outcome_number d.outcome;
  error = 0;
  general = registers_told d.landing;
  ip = ip_told d.landing;
}

-- a delivery, or why it is refused
abbrev pub due_told : Result DeliveryValue DeliverError → DeliveryTold
due_told (Ok d) = delivery_told d
due_told (Err e) = record {
  size = delivery_size;
  cleanup_size = cleanup_size;
  visited = 0;
  cleanups = 0;
  detail = refused_detail e;
  outcome = 4;
  error = refused_number e;
  general = replicate 16 0;
  ip = 0;
}

abbrev pub trail_due : Result DeliveryValue DeliverError → List Trail
trail_due (Ok d) = d.trail
trail_due (Err e) = []

-- what is delivered to a stack that is known frame by frame is what the definition says of its frames
unfoldable pub DeliversKnown : DeliveryGiven → Context → ℕ → ℕ → Type 0
DeliversKnown given c exception limit =
    (s : State) (callers : List State) (frames : List AskedFrame) → StartsKnownDelivery given.space c given.resumes limit s callers frames →
    (d : DeliveryValue) × (stack_delivery given.space c exception given.resumes limit ≡ Ok d) × ShowsKnownDelivery d exception s callers frames

-- A delivery is told, and what is known of it.
abbrev pub TellsDelivery : DeliveryGiven → Context → ℕ → ℕ → List Cleanup → List Cleanup → DeliveryTold → Type 0
TellsDelivery given c exception limit before cleanups told =
    (told ≡ due_told (stack_delivery given.space c exception given.resumes limit))
    × (cleanups ≡ cleanups_over (trail_due (stack_delivery given.space c exception given.resumes limit)) before)
    × DeliversKnown given c exception limit

-- the table that is due, what is raised, and room for as many states as it may visit; or there is no table, or no memory
abbrev pub IsPending : Result PendingDelivery Refusal → Result (List (ℕ × ℕ)) Refusal → Context → ℕ → ℕ → Type 0
IsPending (Ok d) due c exception limit =
    (due ≡ Ok d.resumes) × (d.raised ≡ record { context = c; exception = exception; limit = limit }) × (d.raised.limit ≤ d.room.limit)
IsPending (Err e) due c exception limit = (e ≡ refused.NoMemory) ⊎ (due ≡ Err e)

-- ---- what a call leaves

-- the status that a call answers, and what stands in its caller's places after it
pub record DeliveryLeft : Type 0 where
  pub status : ℕ
  pub cleanups : List Cleanup
  pub delivery : DeliveryTold
  pub place : Place

-- a refusal is told, and nothing else
abbrev pub RefusesDelivery : Refusal → DeliveryLeft → DeliveryLeft → Type 0
RefusesDelivery refusal before after =
    (after.status ≡ status_of refusal) × (after.place ≡ place_after refusal before.place)
    × (after.cleanups ≡ before.cleanups) × (after.delivery ≡ before.delivery)

abbrev pub AnswersDelivery : Result DeliveryGiven Refusal → Context → ℕ → ℕ → DeliveryLeft → DeliveryLeft → Type 0
AnswersDelivery (Ok given) c exception limit before after =
    (after.status ≡ 0) × (after.place ≡ before.place)
    × TellsDelivery given c exception limit before.cleanups after.cleanups after.delivery
AnswersDelivery (Err refusal) c exception limit before after = RefusesDelivery refusal before after

abbrev pub TellsDeliveryUnlessNoMemory : Result DeliveryGiven Refusal → Context → ℕ → ℕ → DeliveryLeft → DeliveryLeft → Type 0
TellsDeliveryUnlessNoMemory due c exception limit before after =
    RefusesDelivery refused.NoMemory before after ⊎ AnswersDelivery due c exception limit before after

-- the same before a status is made of it
abbrev pub DeliversOver : {A : Type 0} → Result A Refusal → Result DeliveryGiven Refusal → Context → ℕ → ℕ → List Cleanup → List Cleanup → DeliveryTold → DeliveryTold → Type 0
DeliversOver (Ok done) due c exception limit before cleanups old new =
    (given : DeliveryGiven) × (due ≡ Ok given) × TellsDelivery given c exception limit before cleanups new
DeliversOver (Err e) due c exception limit before cleanups old new =
    ((e ≡ refused.NoMemory) ⊎ (due ≡ Err e)) × (cleanups ≡ before) × (new ≡ old)
