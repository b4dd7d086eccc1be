-- Small facts on lists that a condition or a partial function makes of others.
use Rattle.std.proofs.Common.{◌≡◌, ℕ, zero, suc, ◌<◌, Bool, true, false, length, get_or, arith, List, [], ◌∷◌, Option, Some, None, refl, subst, inl, inr}
use Rattle.std.specs.Prelude.{◌⊎◌}
use Rattle.std.specs.List.{Contains, AllPairs, AllByRecursion, filter, filter_map}
use Rattle.unwind_laws.proofs.Booleans.{here_or_later, none_in_nil, later, first}

-- what holds of each that a condition lets through
pub all_filtered : {A : Type 0} (P : A → Type 0) (p : A → Bool) (xs : List A) → ((x : A) → p x ≡ true → P x) → AllByRecursion P (filter p xs)
all_filtered P p [] each = tt
all_filtered P p (x ∷ xs) each = go (p x) refl (all_filtered P p xs each)
  where
    go : (b : Bool) → p x ≡ b → AllByRecursion P (filter p xs) → AllByRecursion P (filter p (x ∷ xs))
    go true e rest = rw e (each x e, rest)
    go false e rest = rw e rest

-- what holds of each value
pub all_mapped : {A B : Type 0} (P : B → Type 0) (f : A → Option B) (xs : List A) → ((x : A) (y : B) → f x ≡ Some y → P y) → AllByRecursion P (filter_map f xs)
all_mapped {B = B} P f [] each = tt
all_mapped {B = B} P f (x ∷ xs) each = go (f x) refl (all_mapped P f xs each)
  where
    go : (o : Option B) → f x ≡ o → AllByRecursion P (filter_map f xs) → AllByRecursion P (filter_map f (x ∷ xs))
    go (Some y) e rest = rw e (each x y e, rest)
    go None e rest = rw e rest

-- a value is among the values
pub contains_mapped : {A B : Type 0} (f : A → Option B) (xs : List A) (x : A) (y : B) → Contains xs x → f x ≡ Some y → Contains (filter_map f xs) y
contains_mapped {B = B} f [] x y has e = absurd (none_in_nil x has)
contains_mapped {B = B} f (z ∷ zs) x y has e = go (f z) refl (here_or_later z zs x has) (contains_mapped f zs x y)
  where
    go : (o : Option B) → f z ≡ o → (z ≡ x) ⊎ Contains zs x → (Contains zs x → f x ≡ Some y → Contains (filter_map f zs) y) → Contains (filter_map f (z ∷ zs)) y
    go (Some w) fz (inl same) ih = let fz' : f x ≡ Some w = rw same at fz in let is : w ≡ y = cc in rw fz (subst (λ v. Contains (w ∷ filter_map f zs) v) is (first w (filter_map f zs)))
    go (Some w) fz (inr rest) ih = rw fz (later w (filter_map f zs) y (ih rest e))
    go None fz (inl same) ih = let fz' : f x ≡ None = rw same at fz in absurd cc
    go None fz (inr rest) ih = rw fz (ih rest e)

-- ---- pairs of a list

all_at : {A : Type 0} (P : A → Type 0) (xs : List A) (j : ℕ) (d : A) → AllByRecursion P xs → j < length xs → P (get_or xs j d)
all_at P [] j d all lt = absurd (omega arith)
all_at P (x ∷ xs) zero d all lt = all.0
all_at P (x ∷ xs) (suc j) d all lt = all_at P xs j d all.1 (omega arith)

pub pairs_more : {A : Type 0} (R : A → A → Type 0) (x : A) (xs : List A) → AllByRecursion (R x) xs → AllPairs R xs → AllPairs R (x ∷ xs)
pairs_more R x xs head tail i zero d lt below = absurd (omega arith)
pairs_more R x xs head tail zero (suc j) d lt below = all_at (R x) xs j d head (omega arith)
pairs_more R x xs head tail (suc i) (suc j) d lt below = tail i j d (omega arith) (omega arith)

pub pairs_none : {A : Type 0} (R : A → A → Type 0) → AllPairs R []
pairs_none R i j d lt below = absurd (omega arith)
