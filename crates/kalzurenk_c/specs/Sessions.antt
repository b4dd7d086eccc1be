-- Sessions: what they are opened with, and what they walk over.
use Rattle.std.specs.Prelude.{◌≡◌, ◌⊎◌, ℕ, List, Option, Some, Result, Ok, Err}
use Rattle.memory_image.specs.Results.{result_map}
use Rattle.stack_steps.specs.Growing.{over_image}
use Rattle.stack_steps.specs.Modules.{SpaceValue}
use Rattle.stack_steps.specs.Preparing.{Prepares}
use Rattle.kalzurenk_c.specs.declared.refusal.Refusal.{Refusal}
use Rattle.kalzurenk_c.specs.declared.refusal.Refusal.TheVariants.{NoMemory}
use Rattle.kalzurenk_c.specs.declared.refusal.Place.{Place}
use Rattle.kalzurenk_c.specs.Given.{SizedSpan, image_after}
use Rattle.kalzurenk_c.specs.Refusals.{place_after, status_of}
use Rattle.kalzurenk_c.specs.SessionValues.{SessionValue}

-- A session over the space that is due, in which each module that can be is prepared; or there is none, or no memory.
abbrev pub OpensSession : Result SessionValue Refusal → Result SpaceValue Refusal → ℕ → Type 0
OpensSession (Ok session) due limit =
    (space : SpaceValue) × (due ≡ Ok space) × (session.limit ≡ limit) × ((prepared : ℕ) × Prepares space prepared session.space)
OpensSession (Err e) due limit = (e ≡ NoMemory) ⊎ (due ≡ Err e)

-- the session's modules over its memory with these regions added, or the first of these that isn't taken
abbrev pub space_over : SpaceValue → List SizedSpan → Result SpaceValue Refusal
space_over space spans = result_map (over_image space) (image_after 0 space.image spans)

-- a session on the heap
abbrev pub OpensBox : {B : Type 0} → (B → SessionValue) → Result B Refusal → Result SpaceValue Refusal → ℕ → Type 0
OpensBox value (Ok boxed) due limit = OpensSession (Ok (value boxed)) due limit
OpensBox value (Err e) due limit = OpensSession (Err e) due limit

-- the status that opening one answers, and what stands in its caller's places after it
pub record SessionLeft : Type 0 where
  pub status : ℕ
  pub session : Option SessionValue
  pub place : Place

-- a refusal is told, and no session is written
abbrev pub RefusesSession : Refusal → SessionLeft → SessionLeft → Type 0
RefusesSession refusal before after =
    (after.status ≡ status_of refusal) × (after.place ≡ place_after refusal before.place) × (after.session ≡ before.session)

-- a session over this space is written, in which each module that can be is prepared, and of whose walks each has so many frames at most
abbrev pub WritesSession : SpaceValue → ℕ → SessionLeft → SessionLeft → Type 0
WritesSession space limit before after =
    (after.status ≡ 0) × (after.place ≡ before.place)
    × ((session : SessionValue) × (after.session ≡ Some session) × (session.limit ≡ limit) × ((prepared : ℕ) × Prepares space prepared session.space))

-- A session is opened where there is a space; or the status says why there is none, or that memory ran out.
abbrev pub IsOpened : Result SpaceValue Refusal → ℕ → SessionLeft → SessionLeft → Type 0
IsOpened (Ok space) limit before after = RefusesSession NoMemory before after ⊎ WritesSession space limit before after
IsOpened (Err refusal) limit before after = RefusesSession NoMemory before after ⊎ RefusesSession refusal before after
