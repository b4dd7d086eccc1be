-- Small facts on truth values and lists.
use Rattle.std.proofs.Common.{◌≡◌, zero, suc, Bool, true, false, ◌&&◌, ◌||◌, List, [], ◌∷◌, refl, subst, arith, inl, inr}
use Rattle.std.specs.Prelude.{◌⊎◌}
use Rattle.std.specs.List.{Contains, AllPairs, AllByRecursion, filter, list_any}

pub both_true : (a b : Bool) → (a && b) ≡ true → (a ≡ true) × (b ≡ true)
both_true true true e = (refl, refl)
both_true true false e = absurd cc
both_true false b e = absurd cc

pub either_true : (a b : Bool) → (a || b) ≡ true → (a ≡ true) ⊎ (b ≡ true)
either_true true b e = inl refl
either_true false b e = inr e

pub not_either : (a b : Bool) → (a || b) ≡ false → (a ≡ false) × (b ≡ false)
not_either true b e = absurd cc
not_either false b e = (refl, e)

pub either_false : (a : Bool) → (a || false) ≡ true → a ≡ true
either_false true e = refl
either_false false e = e

-- ---- what a list contains
pub here_or_later : {A : Type 0} (x : A) (xs : List A) (y : A) → Contains (x ∷ xs) y → (x ≡ y) ⊎ Contains xs y
here_or_later x xs y (zero, lt, e) = inl e
here_or_later x xs y (suc k, lt, e) = inr (k, omega arith, e)

pub none_in_nil : {A : Type 0} (y : A) → Contains [] y → ⊥
none_in_nil y (k, lt, e) = omega arith

pub later : {A : Type 0} (x : A) (xs : List A) (y : A) → Contains xs y → Contains (x ∷ xs) y
later x xs y (k, lt, e) = (suc k, omega arith, e)

pub first : {A : Type 0} (x : A) (xs : List A) → Contains (x ∷ xs) x
first x xs = (0, omega arith, refl)

pub any_contains : {A : Type 0} (p : A → Bool) (xs : List A) → list_any p xs ≡ true → (x : A) × Contains xs x × (p x ≡ true)
any_contains p [] e = absurd cc
any_contains p (x ∷ xs) e = elim (either_true (p x) (list_any p xs) e) [
  | inl h ↦ (x, first x xs, h)
  | inr t ↦ let ih = any_contains p xs t in (ih.0, later x xs ih.0 ih.1, ih.2)
]

pub contains_filter : {A : Type 0} (p : A → Bool) (xs : List A) (y : A) → Contains xs y → p y ≡ true → Contains (filter p xs) y
contains_filter p [] y has e = absurd (none_in_nil y has)
contains_filter p (x ∷ xs) y has e = go (p x) refl (here_or_later x xs y has) (contains_filter p xs y)
  where
    go : (b : Bool) → p x ≡ b → (x ≡ y) ⊎ Contains xs y → (Contains xs y → p y ≡ true → Contains (filter p xs) y) → Contains (filter p (x ∷ xs)) y
    go true px (inl same) ih = rw px (subst (λ z. Contains (x ∷ filter p xs) z) same (first x (filter p xs)))
    go true px (inr has') ih = rw px (later x (filter p xs) y (ih has' e))
    go false px (inl same) ih = let e' : p x ≡ true = rw (← same) at e in absurd cc
    go false px (inr has') ih = rw px (ih has' e)

-- what a part of a list contains, and where it holds
pub filter_contains : {A : Type 0} (p : A → Bool) (xs : List A) (y : A) → Contains (filter p xs) y → Contains xs y × (p y ≡ true)
filter_contains p [] y has = absurd (none_in_nil y has)
filter_contains p (x ∷ xs) y has = go (p x) refl has (filter_contains p xs y)
  where
    go : (b : Bool) → p x ≡ b → Contains (filter p (x ∷ xs)) y → (Contains (filter p xs) y → Contains xs y × (p y ≡ true)) → Contains (x ∷ xs) y × (p y ≡ true)
    go true px has' ih = let h : Contains (x ∷ filter p xs) y = rw px at has' in elim (here_or_later x (filter p xs) y h) [
      | inl same ↦ (subst (λ z. Contains (x ∷ xs) z) same (first x xs), rw (← same) px)
      | inr rest ↦ let more = ih rest in (later x xs y more.0, more.1)
    ]
    go false px has' ih = let h : Contains (filter p xs) y = rw px at has' in let more = ih h in (later x xs y more.0, more.1)

pub all_contains : {A : Type 0} (P : A → Type 0) (xs : List A) (y : A) → AllByRecursion P xs → Contains xs y → P y
all_contains P [] y all has = absurd (none_in_nil y has)
all_contains P (x ∷ xs) y all has = elim (here_or_later x xs y has) [ inl same ↦ subst P same all.0 | inr has' ↦ all_contains P xs y all.1 has' ]

pub contains_all : {A : Type 0} (P : A → Type 0) (xs : List A) → ((y : A) → Contains xs y → P y) → AllByRecursion P xs
contains_all P [] each = tt
contains_all P (x ∷ xs) each = (each x (first x xs), contains_all P xs (λ y has. each y (later x xs y has)))

pub tail_pairs : {A : Type 0} (R : A → A → Type 0) (x : A) (xs : List A) → AllPairs R (x ∷ xs) → AllPairs R xs
tail_pairs R x xs all i j d lt below = all (suc i) (suc j) d (omega arith) (omega arith)

pub head_pairs : {A : Type 0} (R : A → A → Type 0) (x : A) (xs : List A) (y : A) → AllPairs R (x ∷ xs) → Contains xs y → R x y
head_pairs R x xs y all (k, lt, e) = subst (R x) e (all 0 (suc k) y (omega arith) (omega arith))

pub pairs_one : {A : Type 0} (R : A → A → Type 0) (x : A) → AllPairs R (x ∷ [])
pairs_one R x i zero d lt below = absurd (omega arith)
pairs_one R x i (suc j) d lt below = absurd (omega arith)

pub pairs_two : {A : Type 0} (R : A → A → Type 0) (x y : A) → R x y → AllPairs R (x ∷ y ∷ [])
pairs_two R x y h i zero d lt below = absurd (omega arith)
pairs_two R x y h zero (suc zero) d lt below = h
pairs_two R x y h (suc i) (suc zero) d lt below = absurd (omega arith)
pairs_two R x y h i (suc (suc j)) d lt below = absurd (omega arith)
