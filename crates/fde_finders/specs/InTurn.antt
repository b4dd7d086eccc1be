-- Finding by several that are asked in turn: the first one that finds something answers.
use Rattle.std.specs.Prelude.{◌≡◌, ℕ, ◌+◌, List, [], ◌∷◌, Option, Some, None}
use Rattle.fde_finders.specs.Finding.{FoundFde}

-- which answers may be given, each with a number of counted steps
abbrev pub Answering : Type 1
Answering = Option FoundFde → ℕ → Type 0

-- what follows on the first one's answer
abbrev pub GoesOn : Option FoundFde → Answering → Answering
GoesOn (Some found) later answer ticks = (answer ≡ Some found) × (ticks ≡ 0)
GoesOn None later answer ticks = later answer ticks

-- the first one's answer, and where it finds nothing what is found later
pub record OrElse (first later : Answering) (answer : Option FoundFde) (ticks : ℕ) : Type 0 where
  pub own : Option FoundFde
  pub taken : ℕ
  pub rest : ℕ
  pub first_finds : first own taken
  pub counts : ticks ≡ taken + rest
  pub goes_on : GoesOn own later answer rest

-- by each of a list in turn, nothing where none of them finds
abbrev pub FindsAmong : {A : Type 0} → (A → Answering) → List A → Answering
FindsAmong finds [] answer ticks = (answer ≡ None) × (ticks ≡ 0)
FindsAmong finds (x ∷ xs) answer ticks = OrElse (finds x) (FindsAmong finds xs) answer ticks

-- by what is there
abbrev pub FindsIfThere : {A : Type 0} → (A → Answering) → Option A → Answering
FindsIfThere finds None answer ticks = (answer ≡ None) × (ticks ≡ 0)
FindsIfThere finds (Some x) answer ticks = finds x answer ticks
