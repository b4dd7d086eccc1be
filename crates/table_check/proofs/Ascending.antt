-- The pairs of a header's table that ascend, and the one with a start.
use Rattle.std.proofs.Common.{◌≡◌, ℕ, zero, suc, ◌+◌, ◌<◌, ◌≤◌, List, [], ◌∷◌, ◌++◌, length, get_or, Option, Some, None, Result, Ok, Err, refl, sym, ap, ◌∙◌, inl, inr, arith, length-append}
use Rattle.std.specs.Prelude.{MatchOption}
use Rattle.std.specs.List.{AllByRecursion}
use Rattle.std.proofs.lemmas.Bool.{cases_lt, cases_order}
use Rattle.unwind_definitions.specs.declared.error.Error.{Error as Fault}
use Rattle.unwind_definitions.specs.Header.{PairTable, pair_at}
use Rattle.unwind_definitions.specs.Module.{StartsAscend}
use Rattle.unwind_laws.proofs.Signal.{ok_same}
use Rattle.table_check.specs.Pairs.{AreRead, AreReadSoFar, IsPlaceIn, LastIs}

-- ---- a list that ascends

tail_ascends : (p : ℕ × ℕ) (ps : List (ℕ × ℕ)) → StartsAscend (p ∷ ps) → StartsAscend ps
tail_ascends p [] up = tt
tail_ascends p (q ∷ ps) up = up.1

first_below : (p : ℕ × ℕ) (ps : List (ℕ × ℕ)) → StartsAscend (p ∷ ps) → (k : ℕ) (d : ℕ × ℕ) → k < length ps → p.0 < (get_or ps k d).0
first_below p [] up k d lt = absurd (omega arith)
first_below p (q ∷ ps) up zero d lt = up.0
first_below p (q ∷ ps) up (suc k) d lt = let a = up.0 in let b = first_below q ps up.1 k d (omega arith) in omega (arith, a, b)

rises : (ps : List (ℕ × ℕ)) → StartsAscend ps → (i k : ℕ) (d : ℕ × ℕ) → i < k → k < length ps → (get_or ps i d).0 < (get_or ps k d).0
rises [] up i k d lt below = absurd (omega arith)
rises (p ∷ ps) up i zero d lt below = absurd (omega arith)
rises (p ∷ ps) up zero (suc k) d lt below = first_below p ps up k d (omega arith)
rises (p ∷ ps) up (suc i) (suc k) d lt below = rises ps (tail_ascends p ps up) i k d (omega arith) (omega arith)

-- one more at the end
ascends_more : (ps : List (ℕ × ℕ)) (p : ℕ × ℕ) → StartsAscend ps → AllByRecursion (λ (q : ℕ × ℕ). q.0 < p.0) ps → StartsAscend (ps ++ p ∷ [])
ascends_more [] p up below = tt
ascends_more (q ∷ []) p up below = (below.0, tt)
ascends_more (q ∷ r ∷ ps) p up below = (up.0, ascends_more (r ∷ ps) p up.1 below.1)

all_below : (low high : ℕ) (ps : List (ℕ × ℕ)) → low < high → AllByRecursion (λ (q : ℕ × ℕ). q.0 ≤ low) ps → AllByRecursion (λ (q : ℕ × ℕ). q.0 < high) ps
all_below low high [] lt all = tt
all_below low high (q ∷ ps) lt all = (let a = all.0 in omega (arith, a, lt), all_below low high ps lt all.1)

all_up_to : (ps : List (ℕ × ℕ)) (p : ℕ × ℕ) → AllByRecursion (λ (q : ℕ × ℕ). q.0 < p.0) ps → AllByRecursion (λ (q : ℕ × ℕ). q.0 ≤ p.0) (ps ++ p ∷ [])
all_up_to [] p all = (omega arith, tt)
all_up_to (q ∷ ps) p all = (let a = all.0 in omega (arith, a), all_up_to ps p all.1)

got_more : (P : ℕ → ℕ × ℕ → Type 0) (ps : List (ℕ × ℕ)) (p : ℕ × ℕ) → ((k : ℕ) (d : ℕ × ℕ) → k < length ps → P k (get_or ps k d)) → P (length ps) p → (k : ℕ) (d : ℕ × ℕ) → k < length (ps ++ p ∷ []) → P k (get_or (ps ++ p ∷ []) k d)
got_more P [] p each here zero d lt = here
got_more P [] p each here (suc k) d lt = absurd (omega arith)
got_more P (q ∷ ps) p each here zero d lt = each 0 d (omega arith)
got_more P (q ∷ ps) p each here (suc k) d lt = got_more (λ n. P (suc n)) ps p (λ j e low. each (suc j) e (omega arith)) here k d (omega arith)

-- ---- pairs that are read one by one

module _ (t : PairTable) where
  pub begins : AreReadSoFar t 0 None
  begins = record { pairs = []; many = refl; reads = λ k d lt. absurd (omega (arith, lt)); ascend = tt; last_is = refl }

  none_before : (ps : List (ℕ × ℕ)) (p : ℕ × ℕ) → length ps ≡ 0 → AllByRecursion (λ (q : ℕ × ℕ). q.0 < p.0) ps
  none_before [] p is = tt
  none_before (q ∷ ps) p is = absurd (omega arith)

  before_it : (i : ℕ) (last : Option ℕ) (ps : List (ℕ × ℕ)) (p : ℕ × ℕ) → length ps ≡ i → LastIs t i last ps → MatchOption last (Unit {0}) (λ s. s < p.0) → AllByRecursion (λ (q : ℕ × ℕ). q.0 < p.0) ps
  before_it i None ps p many is above = none_before ps p (many ∙ is)
  before_it i (Some s) ps p many is above = all_below s p.0 ps above is.4

  pub more : (i : ℕ) (last : Option ℕ) (p : ℕ × ℕ) → AreReadSoFar t i last → pair_at t i ≡ Ok p → MatchOption last (Unit {0}) (λ s. s < p.0) → AreReadSoFar t (i + 1) (Some p.0)
  more i last p r at above =
      let below = before_it i last r.pairs p r.many r.last_is above in
      let long = length-append r.pairs (p ∷ []) in let many = r.many in
      let next : suc i ≡ i + 1 = omega arith in
      record {
        pairs = r.pairs ++ p ∷ [];
        many = omega (arith, long, many);
        reads = got_more (λ k q. pair_at t k ≡ Ok q) r.pairs p r.reads (ap (pair_at t) r.many ∙ at);
        ascend = ascends_more r.pairs p r.ascend below;
        last_is = (i, p.1, next, at, all_up_to r.pairs p below);
      }

  pub all_read : (i : ℕ) (last : Option ℕ) → t.count ≤ i → i ≤ t.count → AreReadSoFar t i last → (ps : List (ℕ × ℕ)) × AreRead t ps
  all_read i last done within r = (r.pairs, record { many = r.many ∙ (let a : i ≡ t.count = omega arith in a); reads = r.reads; ascend = r.ascend })

  module _ (ps : List (ℕ × ℕ)) (read : AreRead t ps) where
    ok_err : (p : ℕ × ℕ) (e : Fault) → ◌≡◌ {A = Result (ℕ × ℕ) Fault} (Ok p) (Err e) → ⊥
    ok_err p e is = cc

    there : (k : ℕ) → k < t.count → k < length ps
    there k lt = let many = read.many in omega (arith, lt, many)

    -- each reads
    pub reads_not : (k : ℕ) (e : Fault) → k < t.count → pair_at t k ≡ Err e → ⊥
    reads_not k e lt at = ok_err (get_or ps k (0, 0)) e (sym (read.reads k (0, 0) (there k lt)) ∙ at)

    -- it is the one in the list
    pub is_pair : (k : ℕ) (p d : ℕ × ℕ) → k < t.count → pair_at t k ≡ Ok p → get_or ps k d ≡ p
    is_pair k p d lt at = ok_same (get_or ps k d) p (sym (read.reads k d (there k lt)) ∙ at)

    -- each is above the one before
    pub above_not : (i : ℕ) (last : Option ℕ) (p : ℕ × ℕ) → i < t.count → AreReadSoFar t i last → pair_at t i ≡ Ok p → (MatchOption last (Unit {0}) (λ s. s < p.0) → ⊥) → ⊥
    above_not i None p lt r at below = below tt
    above_not i (Some s) p lt r at below =
        let l = r.last_is in
        let one = l.2 in
        let before = is_pair l.0 (s, l.1) p (omega (arith, one, lt)) l.3 in
        let here = is_pair i p p lt at in
        let up = rises ps read.ascend l.0 i p (omega (arith, one)) (there i lt) in
        let a : (get_or ps l.0 p).0 ≡ s = ap (λ (q : ℕ × ℕ). q.0) before in
        let b : (get_or ps i p).0 ≡ p.0 = ap (λ (q : ℕ × ℕ). q.0) here in
        below (omega (arith, up, a, b))

    -- ---- the one with a start

    module _ (start : ℕ) where
      -- the pairs below an index start below it, and those from another on above it
      pub record IsBetween (low high : ℕ) : Type 0 where
        pub before : (k : ℕ) (d : ℕ × ℕ) → k < low → (get_or ps k d).0 < start
        pub after : (k : ℕ) (d : ℕ × ℕ) → high ≤ k → k < length ps → start < (get_or ps k d).0

      pub whole : IsBetween 0 t.count
      whole = record { before = λ k d lt. absurd (omega (arith, lt)); after = λ k d le lt. let many = read.many in absurd (omega (arith, le, lt, many)) }

      at_or_below : (i k : ℕ) (d : ℕ × ℕ) → k ≤ i → i < length ps → (get_or ps k d).0 ≤ (get_or ps i d).0
      at_or_below i k d le lt = elim (cases_order k i) [
        | inl same ↦ (let e : (get_or ps k d).0 ≡ (get_or ps i d).0 = ap (λ n. (get_or ps n d).0) same in omega (arith, e))
        | inr (inl below) ↦ (let a = rises ps read.ascend k i d below lt in omega (arith, a))
        | inr (inr above) ↦ absurd (omega (arith, le, above))
      ]

      pub upper : (low high middle : ℕ) (p : ℕ × ℕ) → IsBetween low high → middle < t.count → pair_at t middle ≡ Ok p → p.0 < start → IsBetween (middle + 1) high
      upper low high middle p b lt at below = record {
        before = λ k d less.
            let a = at_or_below middle k d (omega (arith, less)) (there middle lt) in
            let s : (get_or ps middle d).0 ≡ p.0 = ap (λ (q : ℕ × ℕ). q.0) (is_pair middle p d lt at) in
            omega (arith, a, s, below);
        after = b.after;
      }

      pub lower : (low high middle : ℕ) (p : ℕ × ℕ) → IsBetween low high → middle < t.count → pair_at t middle ≡ Ok p → start < p.0 → IsBetween low middle
      lower low high middle p b lt at above = record {
        before = b.before;
        after = λ k d le less.
            let a = at_or_below k middle d le less in
            let s : (get_or ps middle d).0 ≡ p.0 = ap (λ (q : ℕ × ℕ). q.0) (is_pair middle p d lt at) in
            omega (arith, a, s, above);
      }

      pub none_starts : (low high : ℕ) → IsBetween low high → high ≤ low → IsPlaceIn ps start None
      none_starts low high b le place has =
          let e : (get_or ps has.0 (start, place)).0 ≡ start = ap (λ (q : ℕ × ℕ). q.0) has.2 in
          elim (cases_lt has.0 low) [
            | inl below ↦ (let a = b.before has.0 (start, place) below in omega (arith, a, e))
            | inr above ↦ (let a = b.after has.0 (start, place) (omega (arith, above, le)) has.1 in omega (arith, a, e))
          ]

      pub starts_there : (k place : ℕ) → k < t.count → pair_at t k ≡ Ok (start, place) → IsPlaceIn ps start (Some place)
      starts_there k place lt at = (
        (k, there k lt, is_pair k (start, place) (start, place) lt at),
        λ other has.
            let e : (get_or ps has.0 (start, other)).0 ≡ start = ap (λ (q : ℕ × ℕ). q.0) has.2 in
            let f : get_or ps k (start, other) ≡ (start, place) = is_pair k (start, place) (start, other) lt at in
            let g : (get_or ps k (start, other)).0 ≡ start = ap (λ (q : ℕ × ℕ). q.0) f in
            elim (cases_order has.0 k) [
              | inl same ↦ ap (λ (q : ℕ × ℕ). q.1) (sym has.2 ∙ ap (λ n. get_or ps n (start, other)) same ∙ f)
              | inr (inl below) ↦ (let a = rises ps read.ascend has.0 k (start, other) below (there k lt) in absurd (omega (arith, a, e, g)))
              | inr (inr above) ↦ (let a = rises ps read.ascend k has.0 (start, other) above has.1 in absurd (omega (arith, a, e, g)))
            ],
      )
