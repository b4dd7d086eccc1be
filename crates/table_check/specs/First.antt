-- Facts on the elements of a list, and where they first fail.
use Rattle.std.specs.Prelude.{ℕ, zero, suc, List, [], ◌∷◌, Option, MatchOption}
use Rattle.std.specs.List.{AllByRecursion}

-- something holds of the elements before an index, and not of the one there
abbrev pub FailsFirst : {X : Type 0} → (X → Type 0) → List X → ℕ → Type 0
FailsFirst P [] i = ⊥
FailsFirst P (x ∷ xs) zero = P x → ⊥
FailsFirst P (x ∷ xs) (suc i) = P x × FailsFirst P xs i

-- something holds of all elements, or first fails at an index
abbrev pub TellsFirst : {X : Type 0} → (X → Type 0) → List X → Option ℕ → Type 0
TellsFirst P xs first = MatchOption first (AllByRecursion P xs) (λ i. FailsFirst P xs i)
