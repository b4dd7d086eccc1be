-- Programs that do nothing.
use Rattle.std.proofs.Common.{◌≡◌, ℕ, zero, suc, List, [], ◌∷◌, length, map, refl, sym, ap, subst, ◌∙◌}
use Rattle.std.specs.Prelude.{replicate}
use Rattle.std.specs.List.{AllByRecursion}

abbrev AreZero : List ℕ → Type 0
AreZero xs = AllByRecursion (λ b. b ≡ 0) (map (λ b. b) xs)

pub zeros_are : (xs : List ℕ) → AreZero xs → xs ≡ replicate (length xs) 0
zeros_are [] all = refl
zeros_are (x ∷ xs) all = ap (λ y. y ∷ xs) all.0 ∙ ap (λ l. 0 ∷ l) (zeros_are xs all.1)

all_zero : (n : ℕ) → AreZero (replicate n 0)
all_zero zero = tt
all_zero (suc n) = (refl, all_zero n)

pub are_zeros : (xs : List ℕ) (n : ℕ) → xs ≡ replicate n 0 → AreZero xs
are_zeros xs n is = subst AreZero (sym is) (all_zero n)
