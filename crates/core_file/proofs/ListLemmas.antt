-- Lists that are gone through by an index.
use Rattle.std.proofs.Common.{◌≡◌, ℕ, zero, suc, ◌+◌, ◌≤◌, Bool, true, false, List, [], ◌∷◌, length, drop, slice_get, Some, refl, ap, ◌∙◌, arith}
use Rattle.std.specs.List.{list_all}
use Rattle.std.proofs.lemmas.List.{drop_all}

pub drop_at_get : {A : Type 0} (xs : List A) (i : ℕ) (x : A) → slice_get xs i ≡ Some x → drop i xs ≡ x ∷ drop (i + 1) xs
drop_at_get [] i x e = absurd cc
drop_at_get (y ∷ ys) zero x e = let same : y ≡ x = cc in rw same refl
drop_at_get (y ∷ ys) (suc i) x e = let more : suc i + 1 ≡ suc (i + 1) = omega arith in rw more (drop_at_get ys i x e)

-- what holds of all from an index on, where the one there passes, and where it doesn't
pub all_pass : {A : Type 0} (p : A → Bool) (xs : List A) (i : ℕ) (x : A) → slice_get xs i ≡ Some x → p x ≡ true → list_all p (drop i xs) ≡ list_all p (drop (i + 1) xs)
all_pass p xs i x at passes = ap (list_all p) (drop_at_get xs i x at) ∙ rw passes refl

pub all_fail : {A : Type 0} (p : A → Bool) (xs : List A) (i : ℕ) (x : A) → slice_get xs i ≡ Some x → p x ≡ false → list_all p (drop i xs) ≡ false
all_fail p xs i x at fails = ap (list_all p) (drop_at_get xs i x at) ∙ rw fails refl

pub all_end : {A : Type 0} (p : A → Bool) (xs : List A) (i : ℕ) → length xs ≤ i → list_all p (drop i xs) ≡ true
all_end p xs i h = rw (drop_all i xs h) refl
