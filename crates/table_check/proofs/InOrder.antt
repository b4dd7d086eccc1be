-- Claims in order, and a description beside them.
use Rattle.std.proofs.Common.{◌≡◌, ℕ, zero, suc, ◌+◌, ◌<◌, ◌≤◌, Bool, true, false, List, [], ◌∷◌, length, map, get_or, refl, sym, ap, subst, inl, inr, arith}
use Rattle.std.specs.Prelude.{◌⊎◌, ◌==◌}
use Rattle.std.specs.Bool.{Decides}
use Rattle.std.specs.List.{AllByRecursion}
use Rattle.std.proofs.lemmas.Bool.{and_from, and_parts, cases_order, eq-eqb, eqb-true}
use Rattle.unwind_definitions.specs.Entries.{Fde}
use Rattle.unwind_definitions.specs.Function.{AreWithin, Function, Range}
use Rattle.unwind_definitions.specs.FrameTable.{has_range_of}
use Rattle.table_check.specs.declared.claims.Claim.{Claim}
use Rattle.table_check.specs.ClaimViews.{function_of}
use Rattle.table_check.specs.Ranges.{AreInOrder, extent_of}
use Rattle.table_check.specs.Scanned.{FitsFunction}
use Rattle.table_check.proofs.Deciding.{decides_as}
use Rattle.table_check.proofs.GoneThrough.{all_at}

module _ {X : Type 0} (range : X → Range) where
  from_low : (low high : ℕ) (xs : List X) (k : ℕ) (d : X) → AreWithin low high (map range xs) → k < length xs → low ≤ (range (get_or xs k d)).from
  from_low low high [] k d within below = absurd (omega arith)
  from_low low high (x ∷ xs) zero d within below = within.0
  from_low low high (x ∷ xs) (suc k) d within below = let a = within.0 in let b = within.1 in let c = from_low (range x).to high xs k d within.3 (omega arith) in omega (arith, a, b, c)

  nonempty_at : (low high : ℕ) (xs : List X) (k : ℕ) (d : X) → AreWithin low high (map range xs) → k < length xs → (range (get_or xs k d)).from < (range (get_or xs k d)).to
  nonempty_at low high [] k d within below = absurd (omega arith)
  nonempty_at low high (x ∷ xs) zero d within below = within.1
  nonempty_at low high (x ∷ xs) (suc k) d within below = nonempty_at (range x).to high xs k d within.3 (omega arith)

  -- one ends before a later one begins
  order_at : (low high : ℕ) (xs : List X) (i k : ℕ) (d : X) → AreWithin low high (map range xs) → i < k → k < length xs → (range (get_or xs i d)).to ≤ (range (get_or xs k d)).from
  order_at low high [] i k d within lt below = absurd (omega arith)
  order_at low high (x ∷ xs) i zero d within lt below = absurd (omega arith)
  order_at low high (x ∷ xs) zero (suc k) d within lt below = from_low (range x).to high xs k d within.3 (omega arith)
  order_at low high (x ∷ xs) (suc i) (suc k) d within lt below = order_at (range x).to high xs i k d within.3 (omega arith) (omega arith)

pub same_default : (xs : List Claim) (k : ℕ) (d e : Claim) → k < length xs → get_or xs k d ≡ get_or xs k e
same_default [] k d e below = absurd (omega arith)
same_default (x ∷ xs) zero d e below = refl
same_default (x ∷ xs) (suc k) d e below = same_default xs k d e (omega arith)

map_same : (cs : List Claim) → map extent_of (map function_of cs) ≡ map (λ c. extent_of (function_of c)) cs
map_same [] = refl
map_same (c ∷ cs) = ap (λ l. extent_of (function_of c) ∷ l) (map_same cs)

module _ (cs : List Claim) (order : AreInOrder (map function_of cs)) where
  abbrev range_at : Claim → Range
  range_at c = extent_of (function_of c)

  within : AreWithin order.low order.high (map range_at cs)
  within = subst (AreWithin order.low order.high) (map_same cs) order.within

  -- ends don't fall
  pub ends_rise : (i k : ℕ) (d : Claim) → i ≤ k → k < length cs → (get_or cs i d).end ≤ (get_or cs k d).end
  ends_rise i k d le below = elim (cases_order i k) [
    | inl same ↦ (let e = ap (λ n. (get_or cs n d).end) same in omega (arith, e))
    | inr (inl lt) ↦ (let a = order_at range_at order.low order.high cs i k d within lt below in let b = nonempty_at range_at order.low order.high cs k d within below in omega (arith, a, b))
    | inr (inr gt) ↦ absurd (omega (arith, le, gt))
  ]

  -- what the one in the middle tells of those on either side
  module _ (middle : ℕ) (c : Claim) (is : c ≡ get_or cs middle c) (there : middle < length cs) (address : ℕ) where
    pub low_half : c.end ≤ address → (k : ℕ) (d : Claim) → k < middle + 1 → (get_or cs k d).end ≤ address
    low_half early k d below =
        let e = ap (λ (x : Claim). x.end) is in
        let a = ends_rise k middle c (omega (arith, below)) there in
        let s = ap (λ (x : Claim). x.end) (same_default cs k d c (omega (arith, below, there))) in omega (arith, early, e, a, s)

    pub high_half : address < c.end → (k : ℕ) (d : Claim) → middle ≤ k → k < length cs → address < (get_or cs k d).end
    high_half late k d above below =
        let e = ap (λ (x : Claim). x.end) is in
        let a = ends_rise middle k c above below in
        let s = ap (λ (x : Claim). x.end) (same_default cs k d c below) in omega (arith, late, e, a, s)

  module _ (fde : Fde) (i : ℕ) (before : (k : ℕ) (d : Claim) → k < i → (get_or cs k d).end ≤ fde.start) where
    all_by_index : (P : Function → Type 0) (xs : List Claim) (d : Claim) → ((k : ℕ) → k < length xs → P (function_of (get_or xs k d))) → AllByRecursion P (map function_of xs)
    all_by_index P [] d each = tt
    all_by_index P (x ∷ xs) d each = (each 0 (omega arith), all_by_index P xs d (λ k below. each (suc k) (omega arith)))

    all_early : (xs : List Claim) → ((k : ℕ) (d : Claim) → k < length xs → (get_or xs k d).end ≤ fde.start) → AllByRecursion (FitsFunction fde) (map function_of xs)
    all_early [] each = tt
    all_early (x ∷ xs) each = (inr (inr (each 0 x (omega arith))), all_early xs (λ k d below. each (suc k) d (omega arith)))

    pub fits_none : i ≡ length cs → AllByRecursion (FitsFunction fde) (map function_of cs)
    fits_none all = all_early cs (λ k d below. before k d (omega (arith, below, all)))

    module _ (c : Claim) (there : i < length cs) (is : c ≡ get_or cs i c) (ends_after : fde.start < c.end) where
      abbrev Fit : Type 0
      Fit = ((fde.start ≡ c.start) × (fde.start + fde.size ≡ c.end)) ⊎ (fde.start + fde.size ≤ c.start)

      fits_this : Fit → FitsFunction fde (function_of c)
      fits_this (inl same) = inl (and_from _ _ (eq-eqb fde.start c.start same.0) (eq-eqb (fde.start + fde.size) c.end same.1))
      fits_this (inr apart) = inr (inl apart)

      ends_before : Fit → (k : ℕ) → i < k → k < length cs → fde.start + fde.size ≤ (get_or cs k c).start
      ends_before fit k lt below =
          let a : (get_or cs i c).end ≤ (get_or cs k c).start = order_at range_at order.low order.high cs i k c within lt below in
          let b : (get_or cs i c).start < (get_or cs i c).end = nonempty_at range_at order.low order.high cs i c within there in
          let s = ap (λ (x : Claim). x.start) is in let e = ap (λ (x : Claim). x.end) is in
          elim fit [ inl same ↦ (let x = same.1 in omega (arith, a, e, x)) | inr apart ↦ omega (arith, a, b, s, e, apart) ]

      fits_all : Fit → AllByRecursion (FitsFunction fde) (map function_of cs)
      fits_all fit = all_by_index (FitsFunction fde) cs c (λ k below. elim (cases_order k i) [
        | inl same ↦ subst (λ n. FitsFunction fde (function_of (get_or cs n c))) (sym same) (subst (λ (x : Claim). FitsFunction fde (function_of x)) is (fits_this fit))
        | inr (inl lt) ↦ inr (inr (before k c lt))
        | inr (inr gt) ↦ inr (inl (ends_before fit k gt below))
      ])

      all_fit : AllByRecursion (FitsFunction fde) (map function_of cs) → Fit
      all_fit all = this (subst (λ (x : Claim). FitsFunction fde (function_of x)) (sym is) (all_at function_of (FitsFunction fde) cs i c there all))
        where
          this : FitsFunction fde (function_of c) → Fit
          this (inl same) = let p = and_parts (fde.start == c.start) (fde.start + fde.size == c.end) same in inl (eqb-true fde.start c.start p.0, eqb-true (fde.start + fde.size) c.end p.1)
          this (inr (inl apart)) = inr apart
          this (inr (inr early)) = absurd (omega (arith, early, ends_after))

      pub fits_some : (b : Bool) → Decides b Fit → Decides b (AllByRecursion (FitsFunction fde) (map function_of cs))
      fits_some b d = decides_as b fits_all all_fit d

  -- one alone may have the range of a description
  module _ (fde : Fde) (i : ℕ) (before : (k : ℕ) (d : Claim) → k < i → (get_or cs k d).end ≤ fde.start) (after : (k : ℕ) (d : Claim) → i ≤ k → k < length cs → fde.start < (get_or cs k d).end) where
    not_range : (c : Claim) → (fde.start ≡ c.start → ⊥) → has_range_of (function_of c) fde ≡ false
    not_range c other = go (has_range_of (function_of c) fde) refl
      where
        go : (b : Bool) → has_range_of (function_of c) fde ≡ b → has_range_of (function_of c) fde ≡ false
        go false is = is
        go true is = absurd (other (eqb-true fde.start c.start (and_parts (fde.start == c.start) (fde.start + fde.size == c.end) is).0))

    pub other_range : (k : ℕ) (d : Claim) → k < length cs → (k ≡ i → ⊥) → has_range_of (function_of (get_or cs k d)) fde ≡ false
    other_range k d below other = elim (cases_order k i) [
      | inl same ↦ absurd (other same)
      | inr (inl lt) ↦ not_range (get_or cs k d) (λ starts. let a = before k d lt in let b = nonempty_at range_at order.low order.high cs k d within below in omega (arith, a, b, starts))
      | inr (inr gt) ↦ not_range (get_or cs k d) (λ starts. let a = after i d (omega arith) (omega (arith, gt, below)) in let b = order_at range_at order.low order.high cs i k d within gt below in omega (arith, a, b, starts))
    ]
