-- Lists that hold the same, in another order.
use Rattle.std.proofs.Common.{◌≡◌, ℕ, ◌<◌, List, [], ◌∷◌, length, map, sym, ap, inl, inr, arith}
use Rattle.std.specs.List.{AllByRecursion, Contains, remove}
use Rattle.std.specs.List.Sorted.{IsPermutation}
use Rattle.std.proofs.lemmas.List.Sorted.{Contains-permutation, IsPermutation-cons, IsPermutation-refl, IsPermutation-remove, IsPermutation-sym, IsPermutation-trans, length_permutation}
use Rattle.unwind_definitions.specs.Entries.{Fde}
use Rattle.unwind_definitions.specs.Module.{DescriptionsApart, pair_of}
use Rattle.unwind_laws.proofs.Booleans.{here_or_later}
use Rattle.table_check.specs.AllEntries.{AllApart}

-- no two elements are one
abbrev pub AreDistinct : {A : Type 0} → List A → Type 0
AreDistinct [] = Unit {0}
AreDistinct (x ∷ xs) = AllByRecursion (λ y. x ≡ y → ⊥) xs × AreDistinct xs

others_in : {A : Type 0} (x : A) (xs ys rest : List A) → IsPermutation ys (x ∷ rest) → AllByRecursion (λ y. x ≡ y → ⊥) xs → AllByRecursion (Contains ys) xs → AllByRecursion (Contains rest) xs
others_in x [] ys rest moved other all = tt
others_in x (y ∷ xs) ys rest moved other all = (
  elim (here_or_later x rest y (Contains-permutation ys (x ∷ rest) y moved all.0)) [
    | inl same ↦ absurd (other.0 same)
    | inr has ↦ has
  ],
  others_in x xs ys rest moved other.1 all.1,
)

pub permutes : {A : Type 0} (xs ys : List A) → AreDistinct xs → AllByRecursion (Contains ys) xs → length xs ≡ length ys → IsPermutation xs ys
permutes [] [] distinct all many = IsPermutation-refl []
permutes [] (y ∷ ys) distinct all many = absurd (omega arith)
permutes (x ∷ xs) ys distinct all many =
    let at = all.0 in
    let rest = remove ys at.0 in
    let moved : IsPermutation ys (x ∷ rest) = IsPermutation-remove ys at.0 x at.1 (sym at.2) in
    let count = length_permutation ys (x ∷ rest) moved in
    let same = permutes xs rest distinct.1 (others_in x xs ys rest moved distinct.0 all.1) (omega (arith, many, count)) in
    IsPermutation-trans (x ∷ xs) (x ∷ rest) ys (IsPermutation-cons x xs rest same) (IsPermutation-sym ys (x ∷ rest) moved)

-- descriptions that are apart have pairs of their own
module _ (frame : ℕ) where
  other_pairs : (x : Fde) (xs : List Fde) → 0 < x.size → AllByRecursion (DescriptionsApart x) xs → AllApart xs → AllByRecursion (λ p. pair_of frame x ≡ p → ⊥) (map (pair_of frame) xs)
  other_pairs x [] some apart all = tt
  other_pairs x (y ∷ ys) some apart all = (
    λ same. let start : x.start ≡ y.start = ap (λ (p : ℕ × ℕ). p.0) same in
        let filled = all.0 in
        elim apart.0 [ inl le ↦ omega (arith, le, some, start) | inr le ↦ omega (arith, le, filled, start) ],
    other_pairs x ys some apart.1 all.2,
  )

  pub distinct_pairs : (xs : List Fde) → AllApart xs → AreDistinct (map (pair_of frame) xs)
  distinct_pairs [] all = tt
  distinct_pairs (x ∷ xs) all = (other_pairs x xs all.0 all.1 all.2, distinct_pairs xs all.2)
