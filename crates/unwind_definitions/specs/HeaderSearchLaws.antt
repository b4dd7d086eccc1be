-- Laws of the search of a header's table by halving: what it answers is a boundary, and where all pairs can be read it is
-- the search by halving of their starts.
use Rattle.std.proofs.Common.{◌≡◌, ℕ, zero, suc, ◌+◌, ◌-◌, ◌/◌, ◌<◌, ◌≤◌, Bool, true, false, ltb, leb, List, length, Option, Some, Result, Ok, Err, refl, sym, ap, subst, ◌∙◌, arith}
use Rattle.std.specs.Prelude.{slice_index}
use Rattle.std.proofs.lemmas.Bool.{ltb-true, ltb-false, leb-true, leb-false, lt-ltb, le-ltb, le-leb, lt-leb}
use Rattle.memory_image.specs.Halving.{place_by_halving, place_before, is_at_or_before, boundary_of}
use Rattle.unwind_definitions.specs.Faults.{Fault, ◌>>=◌}
use Rattle.unwind_definitions.specs.Input.{Input}
use Rattle.unwind_definitions.specs.Pointers.{Bases}
use Rattle.unwind_definitions.specs.Header.{PairTable, pair_at}
use Rattle.unwind_definitions.specs.HeaderSearch.{StartsAfter, Finds, halved_or, starts_by, pair_of_place, boundary_in, table_answer, IsTableAnswer}

-- ---- turns

halved_or_at_end : (turns : ℕ) (test : ℕ → Result Bool Fault) (low high : ℕ) → high ≤ low → halved_or turns test low high ≡ Ok low
unfolding halved_or
halved_or_at_end zero test low high h = refl
halved_or_at_end (suc turns) test low high h = rw (le-ltb low high h) refl

-- as many turns as there are places are enough
halved_or_turns : (m n : ℕ) (test : ℕ → Result Bool Fault) (low high : ℕ) → high - low ≤ m → high - low ≤ n → halved_or m test low high ≡ halved_or n test low high
unfolding halved_or
halved_or_turns zero n test low high a b = sym (halved_or_at_end n test low high (omega arith))
halved_or_turns (suc m) zero test low high a b = halved_or_at_end (suc m) test low high (omega arith)
halved_or_turns (suc m) (suc n) test low high a b = go (ltb low high) refl (test (low + (high - low) / 2)) refl (λ lt. halved_or_turns m n test ((low + (high - low) / 2) + 1) high (omega arith) (omega arith)) (λ lt. halved_or_turns m n test low (low + (high - low) / 2) (omega arith) (omega arith))
  where
    go : (c : Bool) → ltb low high ≡ c → (t : Result Bool Fault) → test (low + (high - low) / 2) ≡ t →
        (low < high → halved_or m test ((low + (high - low) / 2) + 1) high ≡ halved_or n test ((low + (high - low) / 2) + 1) high) → (low < high → halved_or m test low (low + (high - low) / 2) ≡ halved_or n test low (low + (high - low) / 2)) →
        halved_or (suc m) test low high ≡ halved_or (suc n) test low high
    go false e t f above below = rw e refl
    go true e (Err x) f above below = rw (e, f) refl
    go true e (Ok true) f above below = rw (e, f) (above (ltb-true low high e))
    go true e (Ok false) f above below = rw (e, f) (below (ltb-true low high e))

-- a turn that goes up, one that goes down, and one that faults
pub halved_or_up : (n : ℕ) (test : ℕ → Result Bool Fault) (low high : ℕ) → low < high → high - low ≤ n → test (low + (high - low) / 2) ≡ Ok true →
    halved_or n test low high ≡ halved_or n test (low + (high - low) / 2 + 1) high
unfolding halved_or
halved_or_up zero test low high lt few e = absurd (omega arith)
halved_or_up (suc n) test low high lt few e = rw (lt-ltb low high lt, e) (halved_or_turns n (suc n) test (low + (high - low) / 2 + 1) high (omega arith) (omega arith))

pub halved_or_down : (n : ℕ) (test : ℕ → Result Bool Fault) (low high : ℕ) → low < high → high - low ≤ n → test (low + (high - low) / 2) ≡ Ok false →
    halved_or n test low high ≡ halved_or n test low (low + (high - low) / 2)
unfolding halved_or
halved_or_down zero test low high lt few e = absurd (omega arith)
halved_or_down (suc n) test low high lt few e = rw (lt-ltb low high lt, e) (halved_or_turns n (suc n) test low (low + (high - low) / 2) (omega arith) (omega arith))

pub halved_or_faults : (n : ℕ) (test : ℕ → Result Bool Fault) (low high : ℕ) (x : Fault) → low < high → high - low ≤ n → test (low + (high - low) / 2) ≡ Err x →
    halved_or n test low high ≡ Err x
unfolding halved_or
halved_or_faults zero test low high x lt few e = absurd (omega arith)
halved_or_faults (suc n) test low high x lt few e = rw (lt-ltb low high lt, e) refl

pub halved_or_ends : (n : ℕ) (test : ℕ → Result Bool Fault) (low high : ℕ) → high ≤ low → halved_or n test low high ≡ Ok low
halved_or_ends n test low high le = halved_or_at_end n test low high le

-- ---- a search that goes on as the halving from here on does

module _ (t : PairTable) (pc : ℕ) where
  starts_at : (i : ℕ) (p : ℕ × ℕ) → pair_at t i ≡ Ok p → (b : Bool) → leb p.0 pc ≡ b → starts_by t pc i ≡ Ok b
  starts_at i p at b is = rw (at, is) refl

  starts_at_fault : (i : ℕ) (e : Fault) → pair_at t i ≡ Err e → starts_by t pc i ≡ Err e
  starts_at_fault i e at = rw at refl

  -- what the halving from low to high comes to is what the whole one does
  abbrev pub GoesOn : ℕ → ℕ → Type 0
  GoesOn low high = halved_or t.count (starts_by t pc) low high ≡ halved_or t.count (starts_by t pc) 0 t.count

  pub goes_up : (low high : ℕ) (p : ℕ × ℕ) → low < high → high ≤ t.count → pair_at t (low + (high - low) / 2) ≡ Ok p → p.0 ≤ pc → GoesOn low high → GoesOn (low + (high - low) / 2 + 1) high
  goes_up low high p lt within at le is =
      sym (halved_or_up t.count (starts_by t pc) low high lt (omega arith) (starts_at (low + (high - low) / 2) p at true (le-leb p.0 pc le))) ∙ is

  pub goes_down : (low high : ℕ) (p : ℕ × ℕ) → low < high → high ≤ t.count → pair_at t (low + (high - low) / 2) ≡ Ok p → pc < p.0 → GoesOn low high → GoesOn low (low + (high - low) / 2)
  goes_down low high p lt within at above is =
      sym (halved_or_down t.count (starts_by t pc) low high lt (omega arith) (starts_at (low + (high - low) / 2) p at false (lt-leb p.0 pc above))) ∙ is

  pub faults : (low high : ℕ) (e : Fault) → low < high → high ≤ t.count → pair_at t (low + (high - low) / 2) ≡ Err e → GoesOn low high → boundary_in t pc ≡ Err e
  unfolding boundary_in
  faults low high e lt within at is =
      let whole : halved_or t.count (starts_by t pc) 0 t.count ≡ Err e = sym is ∙ halved_or_faults t.count (starts_by t pc) low high e lt (omega arith) (starts_at_fault (low + (high - low) / 2) e at) in
      ap (λ (r : Result ℕ Fault). r >>= λ place. pair_of_place t (place_before place)) whole

  pub answers : (low high : ℕ) (found : Option (ℕ × ℕ)) → high ≤ low → GoesOn low high → pair_of_place t (place_before low) ≡ Ok found → boundary_in t pc ≡ Ok found
  unfolding boundary_in
  answers low high found le is at =
      let whole : halved_or t.count (starts_by t pc) 0 t.count ≡ Ok low = sym is ∙ halved_or_at_end t.count (starts_by t pc) low high le in
      ap (λ (r : Result ℕ Fault). r >>= λ place. pair_of_place t (place_before place)) whole ∙ at

  -- ---- what is answered

  -- the pair just below a place is at or before the address, unless the search began there, and that at it after, unless the
  -- search ended there
  abbrev IsPlace : ℕ → ℕ → Result ℕ Fault → Type 0
  IsPlace low high (Err e) = (i : ℕ) × (i < high) × (pair_at t i ≡ Err e)
  IsPlace low high (Ok place) = (low ≤ place) × (place ≤ high) × (low < place → (p : ℕ × ℕ) × (pair_at t (place - 1) ≡ Ok p) × (p.0 ≤ pc)) × (place < high → StartsAfter t pc place)

  placed : (n low high : ℕ) → low ≤ high → high - low ≤ n → IsPlace low high (halved_or n (starts_by t pc) low high)
  unfolding halved_or
  placed zero low high le few = (omega arith, omega arith, λ lt. absurd (omega arith), λ lt. absurd (omega arith))
  placed (suc n) low high le few = go (ltb low high) refl (pair_at t (low + (high - low) / 2)) refl (λ lt. placed n ((low + (high - low) / 2) + 1) high (omega arith) (omega arith)) (λ lt. placed n low (low + (high - low) / 2) (omega arith) (omega arith))
    where
      above : (p : ℕ × ℕ) → low < high → pair_at t (low + (high - low) / 2) ≡ Ok p → p.0 ≤ pc → (r : Result ℕ Fault) → IsPlace ((low + (high - low) / 2) + 1) high r → IsPlace low high r
      above p lt at le (Err e) is = is
      above p lt at le (Ok place) is =
          let from = is.0 in
          (omega arith, is.1, λ h. under (ltb ((low + (high - low) / 2) + 1) place) refl, is.3)
        where
          under : (b : Bool) → ltb ((low + (high - low) / 2) + 1) place ≡ b → (q : ℕ × ℕ) × (pair_at t (place - 1) ≡ Ok q) × (q.0 ≤ pc)
          under true h = is.2 (ltb-true ((low + (high - low) / 2) + 1) place h)
          under false h =
              let k = ltb-false ((low + (high - low) / 2) + 1) place h in
              let from = is.0 in
              let same : place - 1 ≡ low + (high - low) / 2 = omega arith in
              (p, ap (pair_at t) same ∙ at, le)

      below : (p : ℕ × ℕ) → low < high → pair_at t (low + (high - low) / 2) ≡ Ok p → pc < p.0 → (r : Result ℕ Fault) → IsPlace low (low + (high - low) / 2) r → IsPlace low high r
      below p lt at gt (Err e) is = let k = is.1 in (is.0, omega arith, is.2)
      below p lt at gt (Ok place) is =
          let to = is.1 in
          (is.0, omega arith, is.2, λ h. under (ltb place (low + (high - low) / 2)) refl)
        where
          under : (b : Bool) → ltb place (low + (high - low) / 2) ≡ b → StartsAfter t pc place
          under true h = is.3 (ltb-true place (low + (high - low) / 2) h)
          under false h =
              let k = ltb-false place (low + (high - low) / 2) h in
              let to = is.1 in
              let same : place ≡ low + (high - low) / 2 = omega arith in
              (p, ap (pair_at t) same ∙ at, gt)

      turned : (p : ℕ × ℕ) → low < high → pair_at t (low + (high - low) / 2) ≡ Ok p → (b : Bool) → leb p.0 pc ≡ b →
          IsPlace ((low + (high - low) / 2) + 1) high (halved_or n (starts_by t pc) ((low + (high - low) / 2) + 1) high) → IsPlace low (low + (high - low) / 2) (halved_or n (starts_by t pc) low (low + (high - low) / 2)) →
          IsPlace low high (halved_or (suc n) (starts_by t pc) low high)
      turned p lt at true is up down = rw (lt-ltb low high lt, at, is) (above p lt at (leb-true p.0 pc is) _ up)
      turned p lt at false is up down = rw (lt-ltb low high lt, at, is) (below p lt at (leb-false p.0 pc is) _ down)

      go : (c : Bool) → ltb low high ≡ c → (r : Result (ℕ × ℕ) Fault) → pair_at t (low + (high - low) / 2) ≡ r →
          (low < high → IsPlace ((low + (high - low) / 2) + 1) high (halved_or n (starts_by t pc) ((low + (high - low) / 2) + 1) high)) → (low < high → IsPlace low (low + (high - low) / 2) (halved_or n (starts_by t pc) low (low + (high - low) / 2))) →
          IsPlace low high (halved_or (suc n) (starts_by t pc) low high)
      go false e r at up down =
          let ends = ltb-false low high e in
          rw e (omega arith, omega arith, λ lt. absurd (omega arith), λ lt. absurd (omega arith))
      go true e (Err x) at up down = let lt = ltb-true low high e in rw (e, at) (low + (high - low) / 2, omega arith, at)
      go true e (Ok p) at up down = let lt = ltb-true low high e in turned p lt at (leb p.0 pc) refl (up lt) (down lt)

  finds_of : (r : Result ℕ Fault) → IsPlace 0 t.count r → Finds t pc (r >>= λ place. pair_of_place t (place_before place))
  finds_of (Err e) is = is
  finds_of (Ok zero) is = λ some. is.3 some
  finds_of (Ok (suc i)) is = found (is.2 (omega arith))
    where
      found : (p : ℕ × ℕ) × (pair_at t (suc i - 1) ≡ Ok p) × (p.0 ≤ pc) → Finds t pc (pair_of_place t (Some i))
      found (p, at, le) =
          let to = is.1 in
          let one : suc i - 1 ≡ i = omega arith in
          let here : pair_at t i ≡ Ok p = sym (ap (pair_at t) one) ∙ at in
          let next : suc i ≡ i + 1 = omega arith in
          rw here (record { index = i; within = omega arith; reads = here; at_or_before = le; next_after = λ lt. subst (StartsAfter t pc) next (is.3 (omega arith)) })

  -- what halving answers is a boundary, none only where the table starts above the address, or the fault of a pair
  pub boundary_in-finds : Finds t pc (boundary_in t pc)
  unfolding boundary_in
  boundary_in-finds = finds_of (halved_or t.count (starts_by t pc) 0 t.count) (placed t.count 0 t.count (omega arith) (omega arith))

  -- what the table answers it may answer
  pub table_answer-is : (bases : Bases) (frame : Input) → IsTableAnswer bases frame t pc (table_answer bases frame t pc)
  table_answer-is bases frame = record { place = boundary_in t pc; finds = boundary_in-finds; is = refl }

-- ---- where all pairs can be read

-- these are the starts of a table's pairs, each of which can be read
pub record AreStarts (t : PairTable) (keys : List ℕ) : Type 0 where
  pub all : length keys ≡ t.count
  pub each : (i : ℕ) → i < t.count → (p : ℕ × ℕ) × (pair_at t i ≡ Ok p) × (p.0 ≡ slice_index keys i)

module _ (t : PairTable) (pc : ℕ) (keys : List ℕ) (are : AreStarts t keys) where
  test_is : (i : ℕ) → i < t.count → starts_by t pc i ≡ Ok (is_at_or_before keys pc i)
  test_is i lt = let p = are.each i lt in rw (p.1, p.2) refl

  halved_is : (n low high : ℕ) → high ≤ t.count → halved_or n (starts_by t pc) low high ≡ Ok (place_by_halving n (is_at_or_before keys pc) low high)
  unfolding halved_or place_by_halving
  halved_is zero low high within = refl
  halved_is (suc n) low high within = go (ltb low high) refl (is_at_or_before keys pc (low + (high - low) / 2)) refl (halved_is n ((low + (high - low) / 2) + 1) high within) (λ lt. halved_is n low (low + (high - low) / 2) (omega arith))
    where
      go : (c : Bool) → ltb low high ≡ c → (b : Bool) → is_at_or_before keys pc (low + (high - low) / 2) ≡ b →
          halved_or n (starts_by t pc) ((low + (high - low) / 2) + 1) high ≡ Ok (place_by_halving n (is_at_or_before keys pc) ((low + (high - low) / 2) + 1) high) →
          (low < high → halved_or n (starts_by t pc) low (low + (high - low) / 2) ≡ Ok (place_by_halving n (is_at_or_before keys pc) low (low + (high - low) / 2))) →
          halved_or (suc n) (starts_by t pc) low high ≡ Ok (place_by_halving (suc n) (is_at_or_before keys pc) low high)
      go false e b is up down = rw e refl
      go true e true is up down = let lt = ltb-true low high e in rw (e, test_is (low + (high - low) / 2) (omega arith), is) up
      go true e false is up down = let lt = ltb-true low high e in rw (e, test_is (low + (high - low) / 2) (omega arith), is) (down lt)

  -- the search is that of the starts
  pub boundary_in-is : boundary_in t pc ≡ pair_of_place t (boundary_of keys pc)
  unfolding boundary_in boundary_of
  boundary_in-is =
      ap (λ (r : Result ℕ Fault). r >>= λ place. pair_of_place t (place_before place)) (halved_is t.count 0 t.count (omega arith))
      ∙ ap (λ (n : ℕ). pair_of_place t (place_before (place_by_halving n (is_at_or_before keys pc) 0 n))) (sym are.all)
