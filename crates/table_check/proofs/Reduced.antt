-- Ranges that are gone through by ascending address.
use Rattle.std.proofs.Common.{◌≡◌, ℕ, suc, ◌+◌, ◌^◌, ◌<◌, ◌≤◌, List, [], ◌∷◌, length, map, drop, get_or, refl, sym, ap, subst, ◌∙◌, arith}
use Rattle.std.proofs.Math.Numerals.{suc-eq-add-one}
use Rattle.std.proofs.Math.Seq.{drop-cons, drop-length}
use Rattle.unwind_definitions.specs.Function.{AreWithin, Range}
use Rattle.table_check.specs.Ranges.{IsWithin, LeavesFirst}

-- of ranges inside start to high so many are gone through, up to an address; the rest decides
pub record AreReduced (start high : ℕ) (all : List Range) (low : ℕ) (rest : List Range) (i : ℕ) : Type 0 where
  pub whole : AreWithin low high rest → AreWithin start high all
  pub part : AreWithin start high all → AreWithin low high rest
  pub first : (k : ℕ) → LeavesFirst low high rest k → LeavesFirst start high all (i + k)

pub at_start : (start high : ℕ) (all : List Range) → AreReduced start high all start all 0
at_start start high all = record {
  whole = λ is. is;
  part = λ is. is;
  first = λ k leaves. let same : k ≡ 0 + k = omega arith in subst (λ n. LeavesFirst start high all n) same leaves;
}

one_more : (start high : ℕ) (all : List Range) (low : ℕ) (r : Range) (rest : List Range) (i : ℕ) → AreReduced start high all low (r ∷ rest) i → IsWithin low high r → AreReduced start high all r.to rest (i + 1)
one_more start high all low r rest i so within = record {
  whole = λ is. so.whole (within.0, within.1, within.2, is);
  part = λ is. (so.part is).3;
  first = λ k leaves. let same : i + suc k ≡ i + 1 + k = omega arith in subst (λ n. LeavesFirst start high all n) same (so.first (suc k) (within, leaves));
}

fails_one : (start high : ℕ) (all : List Range) (low : ℕ) (r : Range) (rest : List Range) (i : ℕ) → AreReduced start high all low (r ∷ rest) i → (IsWithin low high r → ⊥) → LeavesFirst start high all i
fails_one start high all low r rest i so fails = let same : i + 0 ≡ i = omega arith in subst (λ n. LeavesFirst start high all n) same (so.first 0 fails)

module _ {X : Type 0} (range : X → Range) (start high : ℕ) (xs : List X) where
  -- the same of the ranges of a list's elements, of which so many are gone through
  abbrev pub SoFar : ℕ → ℕ → Type 0
  SoFar low i = AreReduced start high (map range xs) low (map range (drop i xs)) i

  next_is : (i : ℕ) (d : X) → i < length xs → map range (drop i xs) ≡ range (get_or xs i d) ∷ map range (drop (suc i) xs)
  next_is i d below = ap (map range) (drop-cons xs i d below)

  pub so_far_more : (low i : ℕ) (d : X) → i < length xs → SoFar low i → IsWithin low high (range (get_or xs i d)) → SoFar (range (get_or xs i d)).to (i + 1)
  so_far_more low i d below so within = subst (λ n. AreReduced start high (map range xs) (range (get_or xs i d)).to (map range (drop n xs)) (i + 1)) (suc-eq-add-one i)
      (one_more start high (map range xs) low (range (get_or xs i d)) (map range (drop (suc i) xs)) i (subst (λ l. AreReduced start high (map range xs) low l i) (next_is i d below) so) within)

  pub so_far_fails : (low i : ℕ) (d : X) → i < length xs → SoFar low i → (IsWithin low high (range (get_or xs i d)) → ⊥) → LeavesFirst start high (map range xs) i
  so_far_fails low i d below so fails = fails_one start high (map range xs) low (range (get_or xs i d)) (map range (drop (suc i) xs)) i (subst (λ l. AreReduced start high (map range xs) low l i) (next_is i d below) so) fails

  pub so_far_not : (low i : ℕ) (d : X) → i < length xs → SoFar low i → (IsWithin low high (range (get_or xs i d)) → ⊥) → AreWithin start high (map range xs) → ⊥
  so_far_not low i d below so fails is = let rest = subst (λ l. AreWithin low high l) (next_is i d below) (so.part is) in fails (rest.0, rest.1, rest.2)

  pub so_far_all : (low i : ℕ) → i ≡ length xs → SoFar low i → AreWithin start high (map range xs)
  so_far_all low i is so = so.whole (subst (λ l. AreWithin low high (map range l)) (sym (ap (λ n. drop n xs) is ∙ drop-length xs)) tt)

-- ranges so far away aren't addresses
pub too_far : (low high : ℕ) (rs : List Range) → 2 ^ 64 ≤ low → high < 2 ^ 64 → (rs ≡ [] → ⊥) → AreWithin low high rs → ⊥
too_far low high [] far fits some within = some refl
too_far low high (r ∷ rs) far fits some within = let x = within.0 in let y = within.1 in let z = within.2 in omega arith

pub nonempty_mapped : {X : Type 0} (range : X → Range) (xs : List X) → (xs ≡ [] → ⊥) → map range xs ≡ [] → ⊥
nonempty_mapped range [] some is = some refl
nonempty_mapped range (x ∷ xs) some is = cons_some (range x) (map range xs) is
  where
    cons_some : (r : Range) (rs : List Range) → r ∷ rs ≡ [] → ⊥
    cons_some r rs is = let h : suc (length rs) ≡ 0 = ap length is in omega arith

-- a range by a range
pub map_twice : {X Y : Type 0} (f : X → Y) (g : Y → Range) (xs : List X) → map g (map f xs) ≡ map (λ x. g (f x)) xs
map_twice f g [] = refl
map_twice f g (x ∷ xs) = ap (λ l. g (f x) ∷ l) (map_twice f g xs)
