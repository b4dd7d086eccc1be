-- The first of a list that passes a test, as the list is gone through by an index.
use Rattle.std.proofs.Common.{◌≡◌, ℕ, ◌+◌, Bool, true, false, List, drop, slice_get, Some, refl, ap, ◌∙◌}
use Rattle.core_file.proofs.ListLemmas.{drop_at_get}
use Rattle.mapped_modules.specs.Places.{first_such}

pub first_here : {A : Type 0} (p : A → Bool) (xs : List A) (i : ℕ) (x : A) → slice_get xs i ≡ Some x → p x ≡ true → first_such p (drop i xs) ≡ Some x
first_here p xs i x at passes = ap (first_such p) (drop_at_get xs i x at) ∙ rw passes refl

pub first_later : {A : Type 0} (p : A → Bool) (xs : List A) (i : ℕ) (x : A) → slice_get xs i ≡ Some x → p x ≡ false → first_such p (drop i xs) ≡ first_such p (drop (i + 1) xs)
first_later p xs i x at fails = ap (first_such p) (drop_at_get xs i x at) ∙ rw fails refl
