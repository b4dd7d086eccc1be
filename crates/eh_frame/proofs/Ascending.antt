-- Ranges that ascend and lie apart: what a search that halves finds among them.
use Rattle.std.proofs.Common.{◌≡◌, ℕ, zero, suc, ◌+◌, ◌<◌, ◌≤◌, Bool, true, false, ◌&&◌, List, [], ◌∷◌, length, get_or, None, refl, sym, ap, subst, arith}
use Rattle.std.specs.Prelude.{nat_le, nat_lt}
use Rattle.std.specs.List.{AllByRecursion}
use Rattle.std.proofs.lemmas.Bool.{leb-true, le-leb, lt-leb, lt-ltb, le-ltb, ltb-true}
use Rattle.unwind_definitions.specs.Entries.{Fde}
use Rattle.unwind_definitions.specs.Row.{covers_pc}
use Rattle.eh_frame.specs.Index.{AreFewSteps, AscendApart, Described, FindsIndex, described_fde, end_of}
use Rattle.eh_frame.specs.Looking.{Narrows}
use Rattle.eh_frame.specs.declared.starts.Bounds.{Bounds}
use Rattle.eh_frame.proofs.Halving.{AreLeft, IsLeft}

-- ---- whether a range contains an address

both_true : (a b : Bool) → (a && b) ≡ true → (a ≡ true) × (b ≡ true)
both_true true true e = (refl, refl)
both_true true false e = absurd cc
both_true false b e = absurd cc

pub covered : (fde : Fde) (pc : ℕ) → covers_pc fde pc ≡ true → (fde.start ≤ pc) × (pc < end_of fde)
covered fde pc e = let both = both_true (nat_le fde.start pc) (nat_lt pc (end_of fde)) e in (leb-true fde.start pc both.0, ltb-true pc (end_of fde) both.1)

pub covers_is : (fde : Fde) (pc : ℕ) → fde.start ≤ pc → pc < end_of fde → covers_pc fde pc ≡ true
covers_is fde pc a b = rw (le-leb fde.start pc a, lt-ltb pc (end_of fde) b) refl

misses_before : (fde : Fde) (pc : ℕ) → pc < fde.start → covers_pc fde pc ≡ false
misses_before fde pc lt = rw (lt-leb fde.start pc lt) refl

and_false : (b : Bool) → (b && false) ≡ false
and_false true = refl
and_false false = refl

misses_after : (fde : Fde) (pc : ℕ) → end_of fde ≤ pc → covers_pc fde pc ≡ false
misses_after fde pc le = rw (le-ltb pc (end_of fde) le) (and_false (nat_le fde.start pc))

-- ---- what lies before and after

module _ {X : Type 0} (fde : X → Fde) where
  abbrev Misses : ℕ → X → Type 0
  Misses pc x = covers_pc (fde x) pc ≡ false

  pub all_above : (xs : List X) (low pc : ℕ) → AscendApart fde low xs → pc < low → AllByRecursion (λ x. covers_pc (fde x) pc ≡ false) xs
  all_above [] low pc apart lt = tt
  all_above (x ∷ xs) low pc apart lt =
      let h : low ≤ (fde x).start = apart.0 in
      (misses_before (fde x) pc (omega arith), all_above xs (end_of (fde x)) pc apart.2 (omega arith))

  end_above : (xs : List X) (low i : ℕ) (d : X) → AscendApart fde low xs → i < length xs → low ≤ end_of (fde (get_or xs i d))
  end_above [] low i d apart lt = absurd (omega arith)
  end_above (x ∷ xs) low zero d apart lt = let h : low ≤ (fde x).start = apart.0 in omega arith
  end_above (x ∷ xs) low (suc i) d apart lt =
      let h : low ≤ (fde x).start = apart.0 in
      let ih = end_above xs (end_of (fde x)) i d apart.2 (omega arith) in omega arith

  pub none_contain : (xs : List X) (low pc i : ℕ) (d : X) → AscendApart fde low xs → i < length xs → end_of (fde (get_or xs i d)) ≤ pc → ((e : X) → i + 1 < length xs → pc < (fde (get_or xs (i + 1) e)).start) → AllByRecursion (λ x. covers_pc (fde x) pc ≡ false) xs
  none_contain [] low pc i d apart lt after next = absurd (omega arith)
  none_contain (x ∷ xs) low pc zero d apart lt after next = (misses_after (fde x) pc after, rest xs apart.2 next)
    where
      rest : (xs : List X) → AscendApart fde (end_of (fde x)) xs → ((e : X) → 0 + 1 < length (x ∷ xs) → pc < (fde (get_or (x ∷ xs) (0 + 1) e)).start) → AllByRecursion (λ x. covers_pc (fde x) pc ≡ false) xs
      rest [] apart next = tt
      rest (y ∷ ys) apart next =
          let below : pc < (fde y).start = next y (omega arith) in
          (misses_before (fde y) pc below, all_above ys (end_of (fde y)) pc apart.2 (omega arith))
  none_contain (x ∷ xs) low pc (suc i) d apart lt after next =
      let end = end_above xs (end_of (fde x)) i d apart.2 (omega arith) in (
        misses_after (fde x) pc (omega arith),
        none_contain xs (end_of (fde x)) pc i d apart.2 (omega arith) after (λ e lt. let more : suc i + 1 ≡ suc (i + 1) = omega arith in subst (λ n. pc < (fde (get_or (x ∷ xs) n e)).start) more (next e (omega arith))),
      )

  pub all_after : (xs : List X) (low pc : ℕ) → AscendApart fde low xs → ((e : X) → 0 < length xs → pc < (fde (get_or xs 0 e)).start) → AllByRecursion (λ x. covers_pc (fde x) pc ≡ false) xs
  all_after [] low pc apart next = tt
  all_after (x ∷ xs) low pc apart next =
      let below : pc < (fde x).start = next x (omega arith) in
      (misses_before (fde x) pc below, all_above xs (end_of (fde x)) pc apart.2 (omega arith))

  starts_above : (xs : List X) (low i : ℕ) (d : X) → AscendApart fde low xs → i < length xs → low ≤ (fde (get_or xs i d)).start
  starts_above [] low i d apart lt = absurd (omega arith)
  starts_above (x ∷ xs) low zero d apart lt = apart.0
  starts_above (x ∷ xs) low (suc i) d apart lt =
      let h : low ≤ (fde x).start = apart.0 in
      let ih = starts_above xs (end_of (fde x)) i d apart.2 (omega arith) in omega arith

  pub starts_rise : (xs : List X) (low i j : ℕ) (d : X) → AscendApart fde low xs → i ≤ j → j < length xs → (fde (get_or xs i d)).start ≤ (fde (get_or xs j d)).start
  starts_rise [] low i j d apart le lt = absurd (omega arith)
  starts_rise (x ∷ xs) low zero zero d apart le lt = omega arith
  starts_rise (x ∷ xs) low zero (suc j) d apart le lt = let ih = starts_above xs (end_of (fde x)) j d apart.2 (omega arith) in omega arith
  starts_rise (x ∷ xs) low (suc i) zero d apart le lt = absurd (omega arith)
  starts_rise (x ∷ xs) low (suc i) (suc j) d apart le lt = starts_rise xs (end_of (fde x)) i j d apart.2 (omega arith) (omega arith)

  -- a range ends at or before the start of the next
  pub ends_before : (xs : List X) (low i : ℕ) (d : X) → AscendApart fde low xs → suc i < length xs → end_of (fde (get_or xs i d)) ≤ (fde (get_or xs (suc i) d)).start
  ends_before [] low i d apart lt = absurd (omega arith)
  ends_before (x ∷ []) low i d apart lt = absurd (omega arith)
  ends_before (x ∷ y ∷ ys) low zero d apart lt = let rest : AscendApart fde (end_of (fde x)) (y ∷ ys) = apart.2 in rest.0
  ends_before (x ∷ y ∷ ys) low (suc i) d apart lt = ends_before (y ∷ ys) (end_of (fde x)) i d apart.2 (omega arith)

-- ---- the search

module _ (fs : List Described) (pc : ℕ) where
  -- the range just below an index, if there is one, ends at or before the address
  abbrev pub EndsBelow : ℕ → Type 0
  EndsBelow zero = Unit {0}
  EndsBelow (suc i) = (d : Described) → end_of (get_or fs i d).fde ≤ pc

  pub record IsBetween (low high : ℕ) : Type 0 where
    pub ordered : low ≤ high
    pub within : high ≤ length fs
    pub below : EndsBelow low
    pub after : (d : Described) → high < length fs → pc < (get_or fs high d).fde.start

  -- the functions in a bounds
  pub narrow : (w : Bounds) → AscendApart described_fde 0 fs → Narrows fs pc w → IsBetween w.low w.high
  narrow w apart n = let some = n.some in let within = n.within in record { ordered = omega arith; within = within; below = below w.low (omega arith) n.reached; after = n.after }
    where
      below : (low : ℕ) → low < length fs → ((d : Described) → 0 < low → (get_or fs low d).fde.start ≤ pc) → EndsBelow low
      below zero lt reached = tt
      below (suc i) lt reached = λ d. let a = reached d (omega arith) in let b = ends_before described_fde fs 0 i d apart lt in omega arith

  pub raised : (low high middle end : ℕ) → IsBetween low high → middle < high → ((d : Described) → end ≡ end_of (get_or fs middle d).fde) → end ≤ pc → IsBetween (middle + 1) high
  raised low high middle end s lt at le =
      let more : middle + 1 ≡ suc middle = omega arith in
      let there : EndsBelow (suc middle) = λ d. let a = at d in omega arith in
      record { ordered = omega arith; within = s.within; below = subst (λ n. EndsBelow n) (sym more) there; after = s.after }

  pub lowered : (low high middle start : ℕ) → IsBetween low high → low ≤ middle → middle < high → ((d : Described) → start ≡ (get_or fs middle d).fde.start) → pc < start → IsBetween low middle
  lowered low high middle start s ge lt at above =
      let w = s.within in record { ordered = ge; within = omega arith; below = s.below; after = λ d below. let a = at d in omega arith }

  ended_first : (high : ℕ) → AscendApart described_fde 0 fs → IsBetween 0 high → high ≤ 0 → FindsIndex fs pc None
  ended_first high apart s le =
      let at : high ≡ 0 = omega arith in
      all_after described_fde fs 0 pc apart (subst (λ n. (d : Described) → n < length fs → pc < (get_or fs n d).fde.start) at s.after)

  pub ended : (low high : ℕ) → AscendApart described_fde 0 fs → IsBetween low high → high ≤ low → FindsIndex fs pc None
  ended zero high apart s le = ended_first high apart s le
  ended (suc i) high apart s le = some_item fs refl
    where
      next : high ≡ i + 1
      next = let o = s.ordered in omega arith

      some_item : (gs : List Described) → gs ≡ fs → AllByRecursion (λ d. covers_pc d.fde pc ≡ false) fs
      some_item [] is = let n = ap length is in let o = s.ordered in let w = s.within in absurd (omega arith)
      some_item (g ∷ gs) is =
          let o = s.ordered in let w = s.within in
          none_contain described_fde fs 0 pc i g apart (omega arith) (s.below g) (λ d lt. subst (λ n. n < length fs → pc < (get_or fs n d).fde.start) next (s.after d) lt)

-- ---- the steps

-- before the first look some are left, and no more than there are
pub not_begun : (count now size : ℕ) → 0 < size → size ≤ count → AreLeft count now now size
not_begun count now size some le = record { halved = record { taken = 0; counted = omega arith; digits = λ d lt. record { left = d; both = omega arith; below = omega arith } }; some = λ listed none. absurd (omega arith) }

pub few : (count before now size : ℕ) → 0 < count → size ≡ 0 → AreLeft count before now size → AreFewSteps count before now
few count before now size some none left = record { one = left.some some none; digits = λ d lt. go d (left.halved.digits d lt) }
  where
    go : (d : ℕ) → IsLeft d left.halved.taken size → now ≤ before + d
    go d k = let both = k.both in let c = left.halved.counted in omega arith
