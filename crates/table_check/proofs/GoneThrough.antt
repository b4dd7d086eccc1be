-- What holds of the elements of a list that is gone through.
use Rattle.std.proofs.Common.{◌≡◌, ℕ, zero, suc, ◌+◌, ◌<◌, ◌≤◌, Bool, true, false, List, [], ◌∷◌, length, map, take, drop, get_or, sym, ap, subst, ◌∙◌, arith}
use Rattle.std.specs.Prelude.{◌||◌}
use Rattle.std.proofs.Math.ListN.{drop_of_length-le}
use Rattle.std.proofs.Math.Seq.{drop-cons}
use Rattle.std.proofs.Math.Numerals.{suc-eq-add-one}
use Rattle.std.specs.List.{AllByRecursion, list_any}
use Rattle.table_check.specs.First.{FailsFirst}

module _ {X Y : Type 0} (f : X → Y) (P : Y → Type 0) where
  all_suc : (xs : List X) (i : ℕ) (d : X) → i < length xs → AllByRecursion P (map f (take i xs)) → P (f (get_or xs i d)) → AllByRecursion P (map f (take (suc i) xs))
  all_suc [] i d below all here = absurd (omega arith)
  all_suc (x ∷ xs) zero d below all here = (here, tt)
  all_suc (x ∷ xs) (suc i) d below all here = (all.0, all_suc xs i d (omega arith) all.1 here)

  -- it holds of one more
  pub all_more : (xs : List X) (i : ℕ) (d : X) → i < length xs → AllByRecursion P (map f (take i xs)) → P (f (get_or xs i d)) → AllByRecursion P (map f (take (i + 1) xs))
  all_more xs i d below all here = subst (λ n. AllByRecursion P (map f (take n xs))) (suc-eq-add-one i) (all_suc xs i d below all here)

  pub all_at : (xs : List X) (i : ℕ) (d : X) → i < length xs → AllByRecursion P (map f xs) → P (f (get_or xs i d))
  all_at [] i d below all = absurd (omega arith)
  all_at (x ∷ xs) zero d below all = all.0
  all_at (x ∷ xs) (suc i) d below all = all_at xs i d (omega arith) all.1

  -- it holds of all that are gone through
  pub all_done : (xs : List X) (i : ℕ) → length xs ≤ i → AllByRecursion P (map f (take i xs)) → AllByRecursion P (map f xs)
  all_done [] i done all = tt
  all_done (x ∷ xs) zero done all = absurd (omega arith)
  all_done (x ∷ xs) (suc i) done all = (all.0, all_done xs i (omega arith) all.1)

  -- it first fails here
  pub fails_here : (xs : List X) (i : ℕ) (d : X) → i < length xs → AllByRecursion P (map f (take i xs)) → (P (f (get_or xs i d)) → ⊥) → FailsFirst P (map f xs) i
  fails_here [] i d below all fails = absurd (omega arith)
  fails_here (x ∷ xs) zero d below all fails = fails
  fails_here (x ∷ xs) (suc i) d below all fails = (all.0, fails_here xs i d (omega arith) all.1 fails)

module _ {X Y : Type 0} (f : X → Y) (xs : List X) (i : ℕ) where
  -- the elements that are left, from one on
  pub left_is : (d : X) → i < length xs → map f (drop i xs) ≡ f (get_or xs i d) ∷ map f (drop (suc i) xs)
  left_is d below = ap (map f) (drop-cons xs i d below)

  pub none_left : length xs ≤ i → map f (drop i xs) ≡ []
  none_left done = ap (map f) (drop_of_length-le xs done)

module _ {X Y : Type 0} (f : X → Y) (p : Y → Bool) (xs : List X) (i : ℕ) (d : X) (below : i < length xs) where
  pub any_here : p (f (get_or xs i d)) ≡ true → list_any p (map f (drop i xs)) ≡ true
  any_here is = ap (list_any p) (left_is f xs i d below) ∙ ap (λ b. b || list_any p (map f (drop (suc i) xs))) is

  pub any_later : p (f (get_or xs i d)) ≡ false → list_any p (map f (drop (i + 1) xs)) ≡ list_any p (map f (drop i xs))
  any_later is = ap (λ n. list_any p (map f (drop n xs))) (sym (suc-eq-add-one i)) ∙ sym (ap (list_any p) (left_is f xs i d below) ∙ ap (λ b. b || list_any p (map f (drop (suc i) xs))) is)
