-- Laws of the search by halving: how many turns it takes does not matter, and what it answers is a boundary.
use Rattle.std.proofs.Common.{◌≡◌, ℕ, zero, suc, ◌+◌, ◌-◌, ◌/◌, ◌<◌, ◌≤◌, Bool, true, false, ltb, List, length, Option, Some, None, refl, sym, ap, subst, ◌∙◌, arith}
use Rattle.std.specs.Prelude.{slice_index}
use Rattle.std.proofs.lemmas.Bool.{ltb-true, ltb-false, leb-true, leb-false, lt-ltb, le-ltb, le-leb, lt-leb}
use Rattle.memory_image.specs.Halving.{place_by_halving, place_before, is_at_or_before, boundary_of}

-- ---- turns

halved_at_end : (turns : ℕ) (test : ℕ → Bool) (low high : ℕ) → high ≤ low → place_by_halving turns test low high ≡ low
unfolding place_by_halving
halved_at_end zero test low high h = refl
halved_at_end (suc turns) test low high h = rw (le-ltb low high h) refl

-- as many turns as there are places are enough
halved_turns : (m n : ℕ) (test : ℕ → Bool) (low high : ℕ) → high - low ≤ m → high - low ≤ n → place_by_halving m test low high ≡ place_by_halving n test low high
unfolding place_by_halving
halved_turns zero n test low high a b = sym (halved_at_end n test low high (omega arith))
halved_turns (suc m) zero test low high a b = halved_at_end (suc m) test low high (omega arith)
halved_turns (suc m) (suc n) test low high a b = go (ltb low high) refl (test (low + (high - low) / 2)) refl (λ lt. halved_turns m n test ((low + (high - low) / 2) + 1) high (omega arith) (omega arith)) (λ lt. halved_turns m n test low (low + (high - low) / 2) (omega arith) (omega arith))
  where
    go : (c : Bool) → ltb low high ≡ c → (t : Bool) → test (low + (high - low) / 2) ≡ t →
        (low < high → place_by_halving m test ((low + (high - low) / 2) + 1) high ≡ place_by_halving n test ((low + (high - low) / 2) + 1) high) → (low < high → place_by_halving m test low (low + (high - low) / 2) ≡ place_by_halving n test low (low + (high - low) / 2)) →
        place_by_halving (suc m) test low high ≡ place_by_halving (suc n) test low high
    go false e t f above below = rw e refl
    go true e true f above below = rw (e, f) (above (ltb-true low high e))
    go true e false f above below = rw (e, f) (below (ltb-true low high e))

-- a turn that goes up, and one that goes down
halved_up : (n : ℕ) (test : ℕ → Bool) (low high : ℕ) → low < high → high - low ≤ n → test (low + (high - low) / 2) ≡ true →
    place_by_halving n test low high ≡ place_by_halving n test (low + (high - low) / 2 + 1) high
unfolding place_by_halving
halved_up zero test low high lt few e = absurd (omega arith)
halved_up (suc n) test low high lt few e = rw (lt-ltb low high lt, e) (halved_turns n (suc n) test (low + (high - low) / 2 + 1) high (omega arith) (omega arith))

halved_down : (n : ℕ) (test : ℕ → Bool) (low high : ℕ) → low < high → high - low ≤ n → test (low + (high - low) / 2) ≡ false →
    place_by_halving n test low high ≡ place_by_halving n test low (low + (high - low) / 2)
unfolding place_by_halving
halved_down zero test low high lt few e = absurd (omega arith)
halved_down (suc n) test low high lt few e = rw (lt-ltb low high lt, e) (halved_turns n (suc n) test low (low + (high - low) / 2) (omega arith) (omega arith))

-- ---- the place that is answered

-- The test holds just before the place, unless it is where the search began, and not at it, unless it is where the search ended.
pub record IsTurn (test : ℕ → Bool) (low high place : ℕ) : Type 0 where
  pub from : low ≤ place
  pub to : place ≤ high
  pub before : low < place → test (place - 1) ≡ true
  pub at : place < high → test place ≡ false

pub halved_is_turn : (n : ℕ) (test : ℕ → Bool) (low high : ℕ) → low ≤ high → high - low ≤ n → IsTurn test low high (place_by_halving n test low high)
unfolding place_by_halving
halved_is_turn zero test low high le few = record { from = omega arith; to = omega arith; before = λ lt. absurd (omega arith); at = λ lt. absurd (omega arith) }
halved_is_turn (suc n) test low high le few = go (ltb low high) refl (test (low + (high - low) / 2)) refl (λ lt. halved_is_turn n test ((low + (high - low) / 2) + 1) high (omega arith) (omega arith)) (λ lt. halved_is_turn n test low (low + (high - low) / 2) (omega arith) (omega arith))
  where
    go : (c : Bool) → ltb low high ≡ c → (t : Bool) → test (low + (high - low) / 2) ≡ t →
        (low < high → IsTurn test ((low + (high - low) / 2) + 1) high (place_by_halving n test ((low + (high - low) / 2) + 1) high)) → (low < high → IsTurn test low (low + (high - low) / 2) (place_by_halving n test low (low + (high - low) / 2))) →
        IsTurn test low high (place_by_halving (suc n) test low high)
    go false e t f above below =
        let same : low ≡ high = let h = ltb-false low high e in omega arith in
        rw e (record { from = omega arith; to = omega arith; before = λ lt. absurd (omega arith); at = λ lt. absurd (omega arith) })
    go true e true f above below =
        let lt = ltb-true low high e in
        let is = above lt in
        rw (e, f) (record { from = (let h = is.from in omega arith); to = is.to; before = λ h. up (place_by_halving n test ((low + (high - low) / 2) + 1) high) is.from is.before; at = is.at })
      where
        up : (place : ℕ) → (low + (high - low) / 2) + 1 ≤ place → ((low + (high - low) / 2) + 1 < place → test (place - 1) ≡ true) → test (place - 1) ≡ true
        up place from before = split (ltb ((low + (high - low) / 2) + 1) place) refl
          where
            split : (b : Bool) → ltb ((low + (high - low) / 2) + 1) place ≡ b → test (place - 1) ≡ true
            split true h = before (ltb-true ((low + (high - low) / 2) + 1) place h)
            split false h = let k = ltb-false ((low + (high - low) / 2) + 1) place h in let same : place - 1 ≡ (low + (high - low) / 2) = omega arith in ap test same ∙ f
    go true e false f above below =
        let lt = ltb-true low high e in
        let is = below lt in
        rw (e, f) (record { from = is.from; to = (let h = is.to in omega arith); before = is.before; at = λ h. down (place_by_halving n test low (low + (high - low) / 2)) is.to is.at })
      where
        down : (place : ℕ) → place ≤ (low + (high - low) / 2) → (place < (low + (high - low) / 2) → test place ≡ false) → test place ≡ false
        down place to at = split (ltb place (low + (high - low) / 2)) refl
          where
            split : (b : Bool) → ltb place (low + (high - low) / 2) ≡ b → test place ≡ false
            split true h = at (ltb-true place (low + (high - low) / 2) h)
            split false h = let k = ltb-false place (low + (high - low) / 2) h in let same : place ≡ (low + (high - low) / 2) = omega arith in ap test same ∙ f

-- ---- boundaries

-- The key at the place is at or before p, and the next one, if there is one, after it.
pub record IsBoundary (keys : List ℕ) (p i : ℕ) : Type 0 where
  pub within : i < length keys
  pub at_or_before : slice_index keys i ≤ p
  pub next_after : i + 1 < length keys → p < slice_index keys (i + 1)

-- a boundary, and none only where there are no keys or the first one is after p
abbrev pub Finds : List ℕ → ℕ → Option ℕ → Type 0
Finds keys p (Some i) = IsBoundary keys p i
Finds keys p None = 0 < length keys → p < slice_index keys 0

finds_before : (keys : List ℕ) (p place : ℕ) → IsTurn (is_at_or_before keys p) 0 (length keys) place → Finds keys p (place_before place)
finds_before keys p zero is = λ some. leb-false (slice_index keys 0) p (is.at some)
finds_before keys p (suc i) is = record {
  within = (let h = is.to in omega arith);
  at_or_before = (let here : suc i - 1 ≡ i = omega arith in leb-true (slice_index keys i) p (sym (ap (is_at_or_before keys p) here) ∙ is.before (omega arith)));
  next_after = λ more. (let next : suc i ≡ i + 1 = omega arith in subst (λ (k : ℕ). p < slice_index keys k) next (leb-false (slice_index keys (suc i)) p (is.at (omega arith))));
}

pub boundary_of-finds : (keys : List ℕ) (p : ℕ) → Finds keys p (boundary_of keys p)
unfolding boundary_of
boundary_of-finds keys p = finds_before keys p _ (halved_is_turn (length keys) (is_at_or_before keys p) 0 (length keys) (omega arith) (omega arith))

-- ---- a search that goes on as the halving from here on does

-- where the key in the middle is at or before p, and where it is after p
pub goes_up : (keys : List ℕ) (n p low high place : ℕ) → low < high → high ≤ n → slice_index keys (low + (high - low) / 2) ≤ p →
    place_by_halving n (is_at_or_before keys p) low high ≡ place → place_by_halving n (is_at_or_before keys p) (low + (high - low) / 2 + 1) high ≡ place
goes_up keys n p low high place lt within le is = sym (halved_up n (is_at_or_before keys p) low high lt (omega arith) (le-leb (slice_index keys (low + (high - low) / 2)) p le)) ∙ is

pub goes_down : (keys : List ℕ) (n p low high place : ℕ) → low < high → high ≤ n → p < slice_index keys (low + (high - low) / 2) →
    place_by_halving n (is_at_or_before keys p) low high ≡ place → place_by_halving n (is_at_or_before keys p) low (low + (high - low) / 2) ≡ place
goes_down keys n p low high place lt within above is = sym (halved_down n (is_at_or_before keys p) low high lt (omega arith) (lt-leb (slice_index keys (low + (high - low) / 2)) p above)) ∙ is

-- where no place is left
pub is_answered : (keys : List ℕ) (n p low high : ℕ) → length keys ≡ n → high ≤ low → place_by_halving n (is_at_or_before keys p) low high ≡ place_by_halving n (is_at_or_before keys p) 0 n → place_before low ≡ boundary_of keys p
unfolding boundary_of
is_answered keys n p low high len done is =
    let test : ℕ → Bool = is_at_or_before keys p in
    let place : low ≡ place_by_halving n test 0 n = sym (halved_at_end n test low high done) ∙ is in
    ap place_before (place ∙ ap (λ (m : ℕ). place_by_halving m test 0 m) (sym len))
