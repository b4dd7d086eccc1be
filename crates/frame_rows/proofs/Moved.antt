-- What a program that sets no location says from one start, it says from another, by the distances from them.
use Rattle.std.proofs.Common.{◌≡◌, ◌⊎◌, ℕ, ◌+◌, ◌-◌, ◌^◌, ◌<◌, ◌≤◌, Bool, true, false, cond, ◌&&◌, List, [], ◌∷◌, length, map, Option, Some, None, Result, Ok, Err, refl, sym, ap, ◌∙◌, subst, inl, inr, arith}
use Rattle.std.specs.Prelude.{nat_lt, ◌==◌, is_some}
use Rattle.std.specs.List.{AllByRecursion}
use Rattle.std.specs.Option.{option_or}
use Rattle.std.proofs.lemmas.Bool.{le-ltb, lt-ltb, lt-leb, ltb-true, ltb-false}
use Rattle.unwind_definitions.specs.declared.error.Error.{Error as Fault}
use Rattle.unwind_definitions.specs.declared.error.Error.TheVariants.{AddressOverflow, NoCfaRegister}
use Rattle.unwind_definitions.specs.Instructions.{Instruction, Nop, Remember, Restore, Advance, SetLocation, Write, Reset, Cfa, CfaColumn, CfaOffset, CfaExpression, Arguments, Program}
use Rattle.unwind_definitions.specs.Row.{RowInstructions, fault_of, fault_where, first_fault, location, up_to, or_else, common_fault, from_common, cfa_rule, row, row_of}
use Rattle.frame_rows.specs.Movable.{IsRelative, IsMovable}
use Rattle.frame_rows.specs.KeptRows.{Kept, AreRows, first_location, location_of, locations_after, kept_at_distance, then_location, reached_locations, rule_count_at, rule_count_of}
use Rattle.frame_rows.specs.Rows.{GivesRow}
use Rattle.frame_rows.specs.Running.{push, stops}
use Rattle.frame_rows.proofs.Pushed.{lead, location_one, location-push}
use Rattle.frame_rows.proofs.Reading.{up_to_is}

-- an instruction that stays at its location, wherever that is
record Stays (i : Instruction) : Type 0 where
  at : (here : ℕ) → lead here i ≡ here
  goes : (here pc : ℕ) → stops here (Some pc) i ≡ false
  faults : (s t : ℕ) (run : RowInstructions) → fault_of s run i ≡ fault_of t run i
  leads : (here : ℕ) (is : List Instruction) → location here (i ∷ is) ≡ location here is

-- an instruction raises the location, or stays
abbrev Kind : Instruction → Type 0
Kind i = ((n : ℕ) × (i ≡ Advance n)) ⊎ Stays i

kind_of : (i : Instruction) → IsRelative i → Kind i
kind_of (Advance n) relative = inl (n, refl)
kind_of (SetLocation a) relative = absurd relative
kind_of Nop relative = inr (record { at = λ h. refl; goes = λ h pc. refl; faults = λ s t run. refl; leads = λ h is. refl })
kind_of Remember relative = inr (record { at = λ h. refl; goes = λ h pc. refl; faults = λ s t run. refl; leads = λ h is. refl })
kind_of Restore relative = inr (record { at = λ h. refl; goes = λ h pc. refl; faults = λ s t run. refl; leads = λ h is. refl })
kind_of (Write q r) relative = inr (record { at = λ h. refl; goes = λ h pc. refl; faults = λ s t run. refl; leads = λ h is. refl })
kind_of (Reset q) relative = inr (record { at = λ h. refl; goes = λ h pc. refl; faults = λ s t run. refl; leads = λ h is. refl })
kind_of (Cfa q n) relative = inr (record { at = λ h. refl; goes = λ h pc. refl; faults = λ s t run. refl; leads = λ h is. refl })
kind_of (CfaColumn q) relative = inr (record { at = λ h. refl; goes = λ h pc. refl; faults = λ s t run. refl; leads = λ h is. refl })
kind_of (CfaOffset n) relative = inr (record { at = λ h. refl; goes = λ h pc. refl; faults = λ s t run. refl; leads = λ h is. refl })
kind_of (CfaExpression b) relative = inr (record { at = λ h. refl; goes = λ h pc. refl; faults = λ s t run. refl; leads = λ h is. refl })
kind_of (Arguments n) relative = inr (record { at = λ h. refl; goes = λ h pc. refl; faults = λ s t run. refl; leads = λ h is. refl })

location_cons : (at : ℕ) (i : Instruction) (is : List Instruction) → location at (i ∷ is) ≡ location (lead at i) is
location_cons at (Advance n) is = refl
location_cons at (SetLocation a) is = refl
location_cons at Nop is = refl
location_cons at Remember is = refl
location_cons at Restore is = refl
location_cons at (Write q r) is = refl
location_cons at (Reset q) is = refl
location_cons at (Cfa q n) is = refl
location_cons at (CfaColumn q) is = refl
location_cons at (CfaOffset n) is = refl
location_cons at (CfaExpression b) is = refl
location_cons at (Arguments n) is = refl

-- ---- locations only rise, by as much from everywhere

pub rises : (at : ℕ) (is : List Instruction) → AllByRecursion IsRelative is → location at is ≡ at + location 0 is
rises at [] all = omega arith
rises at (i ∷ is) all = elim (kind_of i all.0) [
  | inl raised ↦
      let here = rises (at + raised.0) is all.1 in
      let there = rises (0 + raised.0) is all.1 in
      subst (λ i. location at (i ∷ is) ≡ at + location 0 (i ∷ is)) (sym raised.1) (omega arith)
  | inr stays ↦ stays.leads at is ∙ rises at is all.1 ∙ ap (λ n. at + n) (sym (stays.leads 0 is))
]

-- ---- the instructions up to an address

-- the same comparison from two starts
same_side : (a b c d : ℕ) → a + d ≡ c + b → nat_lt a b ≡ nat_lt c d
same_side a b c d apart = go (nat_lt a b) refl
  where
    go : (t : Bool) → nat_lt a b ≡ t → t ≡ nat_lt c d
    go true e = let h = ltb-true a b e in sym (lt-ltb c d (omega arith))
    go false e = let h = ltb-false a b e in sym (le-ltb c d (omega arith))

-- an advance within the addresses stops where it leads past the one asked
advance_stops : (at pc n : ℕ) → at + n < 2 ^ 64 → stops at (Some pc) (Advance n) ≡ nat_lt pc (at + n)
advance_stops at pc n fits = rw (lt-ltb (at + n) (2 ^ 64) fits) (and_true (nat_lt pc (at + n)))
  where
    and_true : (b : Bool) → (b && true) ≡ b
    and_true true = refl
    and_true false = refl

pub same_part : (at at' pc pc' : ℕ) (is : List Instruction) → AllByRecursion IsRelative is → at + pc' ≡ at' + pc → location at is < 2 ^ 64 → location at' is < 2 ^ 64 → up_to at pc is ≡ up_to at' pc' is
same_part at at' pc pc' [] all apart fits fits' = refl
same_part at at' pc pc' (i ∷ is) all apart fits fits' = up_to_is at pc i is ∙ elim (kind_of i all.0) [
  | inl raised ↦
      let n = raised.0 in
      let inside : location (at + n) is < 2 ^ 64 = subst (λ i. location at (i ∷ is) < 2 ^ 64) raised.1 fits in
      let inside' : location (at' + n) is < 2 ^ 64 = subst (λ i. location at' (i ∷ is) < 2 ^ 64) raised.1 fits' in
      let up = rises (at + n) is all.1 in
      let up' = rises (at' + n) is all.1 in
      let rest = same_part (at + n) (at' + n) pc pc' is all.1 (omega arith) inside inside' in
      let first : stops at (Some pc) (Advance n) ≡ stops at' (Some pc') (Advance n) =
      advance_stops at pc n (omega arith) ∙ same_side pc (at + n) pc' (at' + n) (omega arith) ∙ sym (advance_stops at' pc' n (omega arith)) in
      subst (λ i. cond (stops at (Some pc) i) [] (i ∷ up_to (lead at i) pc is) ≡ cond (stops at' (Some pc') i) [] (i ∷ up_to (lead at' i) pc' is)) (sym raised.1)
      (ap (λ b. cond b [] (Advance n ∷ up_to (at + n) pc is)) first ∙ ap (λ l. cond (stops at' (Some pc') (Advance n)) [] (Advance n ∷ l)) rest)
  | inr stays ↦
      let inside : location at is < 2 ^ 64 = subst (λ l. l < 2 ^ 64) (stays.leads at is) fits in
      let inside' : location at' is < 2 ^ 64 = subst (λ l. l < 2 ^ 64) (stays.leads at' is) fits' in
      let rest = same_part at at' pc pc' is all.1 apart inside inside' in
      rw (stays.goes at pc, stays.goes at' pc', stays.at at, stays.at at') (ap (λ l. i ∷ l) rest)
] ∙ sym (up_to_is at' pc' i is)

-- where the last location is at or before an address, all are before it
pub whole_part : (at pc : ℕ) (is : List Instruction) → AllByRecursion IsRelative is → location at is ≤ pc → up_to at pc is ≡ is
whole_part at pc [] all past = refl
whole_part at pc (i ∷ is) all past = up_to_is at pc i is ∙ elim (kind_of i all.0) [
  | inl raised ↦
      let n = raised.0 in
      let inside : location (at + n) is ≤ pc = subst (λ i. location at (i ∷ is) ≤ pc) raised.1 past in
      let up = rises (at + n) is all.1 in
      let rest = whole_part (at + n) pc is all.1 inside in
      subst (λ i. cond (stops at (Some pc) i) [] (i ∷ up_to (lead at i) pc is) ≡ i ∷ is) (sym raised.1)
      (rw (le-ltb pc (at + n) (omega arith)) (ap (λ l. Advance n ∷ l) rest))
  | inr stays ↦
      let inside : location at is ≤ pc = subst (λ l. l ≤ pc) (stays.leads at is) past in
      rw (stays.goes at pc, stays.at at) (ap (λ l. i ∷ l) (whole_part at pc is all.1 inside))
]

-- a part of a program sets no location either, and leads no further
record IsPart (at : ℕ) (part is : List Instruction) : Type 0 where
  relative : AllByRecursion IsRelative part
  before : location at part ≤ location at is

part_of : (at at' pc : ℕ) (is : List Instruction) → AllByRecursion IsRelative is → IsPart at (up_to at' pc is) is
part_of at at' pc [] all = record { relative = tt; before = omega arith }
part_of at at' pc (i ∷ is) all = subst (λ l. IsPart at l (i ∷ is)) (sym (up_to_is at' pc i is)) (go (stops at' (Some pc) i) (part_of (lead at i) (lead at' i) pc is all.1))
  where
    go : (b : Bool) → IsPart (lead at i) (up_to (lead at' i) pc is) is → IsPart at (cond b [] (i ∷ up_to (lead at' i) pc is)) (i ∷ is)
    go true rest = record { relative = tt; before = let h = rises at (i ∷ is) all in omega arith }
    go false rest = record {
      relative = (all.0, rest.relative);
      before = rw (location_cons at i (up_to (lead at' i) pc is), location_cons at i is) rest.before;
    }

-- ---- faults

fault_moved : (s t : ℕ) (run : RowInstructions) (i : Instruction) → IsRelative i → lead (location s run.own) i < 2 ^ 64 → lead (location t run.own) i < 2 ^ 64 → fault_of s run i ≡ fault_of t run i
fault_moved s t run i relative fits fits' = elim (kind_of i relative) [
  | inl raised ↦
      let n = raised.0 in
      let below : location s run.own + n < 2 ^ 64 = subst (λ i. lead (location s run.own) i < 2 ^ 64) raised.1 fits in
      let below' : location t run.own + n < 2 ^ 64 = subst (λ i. lead (location t run.own) i < 2 ^ 64) raised.1 fits' in
      subst (λ i. fault_of s run i ≡ fault_of t run i) (sym raised.1)
      (rw (lt-leb (2 ^ 64) (location s run.own + n) below, lt-leb (2 ^ 64) (location t run.own + n) below') refl)
  | inr stays ↦ stays.faults s t run
]

pub same_fault : (s t : ℕ) (run : RowInstructions) (is : List Instruction) → AllByRecursion IsRelative is → location (location s run.own) is < 2 ^ 64 → location (location t run.own) is < 2 ^ 64 → first_fault s run is ≡ first_fault t run is
same_fault s t run [] all fits fits' = refl
same_fault s t run (i ∷ is) all fits fits' =
    let on = location_cons (location s run.own) i is in
    let on' = location_cons (location t run.own) i is in
    let up = rises (lead (location s run.own) i) is all.1 in
    let up' = rises (lead (location t run.own) i) is all.1 in
    let here = location-push s run.own i in
    let here' = location-push t run.own i in
    let inside : location (location s (push run i).own) is < 2 ^ 64 = subst (λ l. location l is < 2 ^ 64) (sym here) (omega arith) in
    let inside' : location (location t (push run i).own) is < 2 ^ 64 = subst (λ l. location l is < 2 ^ 64) (sym here') (omega arith) in
    ap (λ o. option_or o (first_fault s (push run i) is)) (fault_moved s t run i all.0 (omega arith) (omega arith))
    ∙ ap (λ o. option_or (fault_of t run i) o) (same_fault s t (push run i) is all.1 inside inside')

-- ---- rows and locations

module _ (common own : Program) (movable : IsMovable own) where
  -- the row of one start is that of another, as far from it
  pub row_moved : (s t pc pc' : ℕ) → s + pc' ≡ t + pc → location s own.instructions < 2 ^ 64 → location t own.instructions < 2 ^ 64 → row s pc common own ≡ row t pc' common own
  row_moved s t pc pc' apart fits fits' =
      let same = same_part s t pc pc' own.instructions movable.each apart fits fits' in
      let p = part_of s t pc' own.instructions movable.each in
      let p' = part_of t t pc' own.instructions movable.each in
      let b = p.before in
      let b' = p'.before in
      let faults = same_fault s t (from_common common.instructions) (up_to t pc' own.instructions) p.relative (omega arith) (omega arith) in
      ap (row_of s common own) same
      ∙ ap (λ o. row_with o (up_to t pc' own.instructions)) faults
    where
      row_with : Option Fault → List Instruction → Result RowInstructions Fault
      row_with o reached = let run : RowInstructions = record { common = common.instructions; own = reached } in
          or_else (common_fault common) (or_else (option_or o (cond (length reached == length own.instructions) own.fault None))
          (cond (is_some (cfa_rule run)) (Ok run) (Err NoCfaRegister)))

  -- it stays the same from the last location on
  pub row_stays : (s pc pc' : ℕ) → location s own.instructions ≤ pc → location s own.instructions ≤ pc' → row s pc common own ≡ row s pc' common own
  row_stays s pc pc' past past' = ap (row_of s common own) (whole_part s pc own.instructions movable.each past ∙ sym (whole_part s pc' own.instructions movable.each past'))

-- from a start
abbrev pub from : ℕ → ℕ → ℕ
from start distance = start + distance

then_same : (end here next : ℕ) (rest : List ℕ) → here < next → next < end → then_location end here next rest ≡ next ∷ rest
then_same end here next rest ahead inside = rw (lt-ltb here next ahead, lt-ltb next end inside) refl

then_none : (end here : ℕ) (rest : List ℕ) → then_location end here here rest ≡ rest
then_none end here rest = rw (le-ltb here here (omega arith)) refl

listed : (s end : ℕ) (run : RowInstructions) (i : Instruction) (is : List Instruction) (next : ℕ) → fault_of s run i ≡ None → location (location s run.own) (i ∷ []) ≡ next →
    locations_after s end run (i ∷ is) ≡ then_location end (location s run.own) next (locations_after s end (push run i) is)
listed s end run i is next fine leads = rw (fine, leads) refl

advance_fine : (s : ℕ) (run : RowInstructions) (i : Instruction) (n : ℕ) → i ≡ Advance n → location s run.own + n < 2 ^ 64 → fault_of s run i ≡ None
advance_fine s run i n same fits = ap (fault_of s run) same ∙ ap (λ b. fault_where b AddressOverflow) (lt-leb (2 ^ 64) (location s run.own + n) fits)

pub locations_moved : (s end : ℕ) (run : RowInstructions) (is : List Instruction) → AllByRecursion IsRelative is → location s run.own ≡ s + location 0 run.own → location (location s run.own) is < end → end ≤ 2 ^ 64 →
    locations_after s end run is ≡ map (from s) (locations_after 0 (2 ^ 64) run is)
locations_moved s end run [] all stands inside fits = refl
locations_moved s end run (i ∷ is) all stands inside fits =
    let here = location s run.own in
    let origin = location 0 run.own in
    let on = location_cons here i is in
    let on' = location_cons origin i is in
    let up = rises (lead here i) is all.1 in
    let up' = rises (lead origin i) is all.1 in
    let pushed = location-push s run.own i in
    let pushed' = location-push 0 run.own i in
    elim (kind_of i all.0) [
      | inl raised ↦
          let n = raised.0 in
          let leads : lead here i ≡ here + n = ap (lead here) raised.1 in
          let leads' : lead origin i ≡ origin + n = ap (lead origin) raised.1 in
          let next : location s (push run i).own ≡ s + location 0 (push run i).own = pushed ∙ leads ∙ omega arith ∙ sym (ap (λ l. s + l) (pushed' ∙ leads')) in
          let below : location (location s (push run i).own) is < end = subst (λ l. location l is < end) (sym pushed) (omega arith) in
          let rest = locations_moved s end (push run i) is all.1 next below fits in
          raises i n raised.1 leads leads' (omega arith) (omega arith) rest (nat_lt 0 n) refl
      | inr stays ↦
          let leads = stays.at here in
          let leads' = stays.at origin in
          let next : location s (push run i).own ≡ s + location 0 (push run i).own = pushed ∙ leads ∙ stands ∙ sym (ap (λ l. s + l) (pushed' ∙ leads')) in
          let below : location (location s (push run i).own) is < end = subst (λ l. location l is < end) (sym pushed) (omega arith) in
          let rest = locations_moved s end (push run i) is all.1 next below fits in
          stay (fault_of 0 run i) (stays.faults s 0 run) (location_one here i ∙ leads) (location_one origin i ∙ leads') rest
    ]
  where
    stay : (o : Option Fault) → fault_of s run i ≡ o → location (location s run.own) (i ∷ []) ≡ location s run.own → location (location 0 run.own) (i ∷ []) ≡ location 0 run.own →
        locations_after s end (push run i) is ≡ map (from s) (locations_after 0 (2 ^ 64) (push run i) is) →
        cond (is_some (fault_of s run i)) [] (then_location end (location s run.own) (location (location s run.own) (i ∷ [])) (locations_after s end (push run i) is))
        ≡ map (from s) (cond (is_some o) [] (then_location (2 ^ 64) (location 0 run.own) (location (location 0 run.own) (i ∷ [])) (locations_after 0 (2 ^ 64) (push run i) is)))
    stay (Some e) bad leads leads' rest = rw bad refl
    stay None fine leads leads' rest = rw (fine, leads, leads', then_none end (location s run.own) (locations_after s end (push run i) is), then_none (2 ^ 64) (location 0 run.own) (locations_after 0 (2 ^ 64) (push run i) is)) rest

    raises : (i : Instruction) (n : ℕ) → i ≡ Advance n → lead (location s run.own) i ≡ location s run.own + n → lead (location 0 run.own) i ≡ location 0 run.own + n → location s run.own + n < end → location 0 run.own + n < 2 ^ 64 →
        locations_after s end (push run i) is ≡ map (from s) (locations_after 0 (2 ^ 64) (push run i) is) → (b : Bool) → nat_lt 0 n ≡ b →
        locations_after s end run (i ∷ is) ≡ map (from s) (locations_after 0 (2 ^ 64) run (i ∷ is))
    raises i n same leads leads' inside inside' rest true is_ahead =
        let ahead = ltb-true 0 n is_ahead in
        listed s end run i is (location s run.own + n) (advance_fine s run i n same (omega arith)) (location_one (location s run.own) i ∙ leads)
        ∙ then_same end (location s run.own) (location s run.own + n) (locations_after s end (push run i) is) (omega arith) inside
        ∙ ap (λ l. (location s run.own + n) ∷ l) rest
        ∙ ap (λ l. l ∷ map (from s) (locations_after 0 (2 ^ 64) (push run i) is)) (omega arith)
        ∙ ap (map (from s)) (sym (listed 0 (2 ^ 64) run i is (location 0 run.own + n) (advance_fine 0 run i n same inside') (location_one (location 0 run.own) i ∙ leads')
        ∙ then_same (2 ^ 64) (location 0 run.own) (location 0 run.own + n) (locations_after 0 (2 ^ 64) (push run i) is) (omega arith) inside'))
    raises i n same leads leads' inside inside' rest false is_none =
        let none = ltb-false 0 n is_none in
        listed s end run i is (location s run.own) (advance_fine s run i n same (omega arith)) (location_one (location s run.own) i ∙ leads ∙ omega arith)
        ∙ then_none end (location s run.own) (locations_after s end (push run i) is)
        ∙ rest
        ∙ ap (map (from s)) (sym (listed 0 (2 ^ 64) run i is (location 0 run.own) (advance_fine 0 run i n same inside') (location_one (location 0 run.own) i ∙ leads' ∙ omega arith)
        ∙ then_none (2 ^ 64) (location 0 run.own) (locations_after 0 (2 ^ 64) (push run i) is)))

-- the distances of the locations that a program reaches
abbrev pub distances : Program → Program → List ℕ
distances common own = reached_locations 0 (2 ^ 64) common own

pub reached_moved : (s end : ℕ) (common own : Program) → IsMovable own → location s own.instructions < end → end ≤ 2 ^ 64 → reached_locations s end common own ≡ map (from s) (distances common own)
reached_moved s end common own movable inside fits =
    ap (λ l. s ∷ cond (is_some (common_fault common)) [] l) (locations_moved s end (from_common common.instructions) own.instructions movable.each (omega arith) inside fits)
    ∙ go (is_some (common_fault common)) (locations_after 0 (2 ^ 64) (from_common common.instructions) own.instructions)
  where
    go : (b : Bool) (ls : List ℕ) → s ∷ cond b [] (map (from s) ls) ≡ map (from s) (0 ∷ cond b [] ls)
    go true ls = ap (λ n. n ∷ []) (omega arith)
    go false ls = ap (λ n. n ∷ map (from s) ls) (omega arith)

-- as many rules are due from either start
pub count_moved : (due due' : ℕ → Result RowInstructions Fault) (s t : ℕ) (ds : List ℕ) → ((d : ℕ) → due (s + d) ≡ due' (t + d)) → rule_count_at due (map (from s) ds) ≡ rule_count_at due' (map (from t) ds)
count_moved due due' s t [] same = refl
count_moved due due' s t (d ∷ ds) same =
    let one = ap rule_count_of (same d) in
    let rest = count_moved due due' s t ds same in
    omega arith

-- ---- what is kept

pub placed_locations : (s : ℕ) (by : List Kept) → map location_of (map (kept_at_distance s) by) ≡ map (from s) (map location_of by)
placed_locations s [] = refl
placed_locations s (k ∷ ks) = ap (λ l. (s + k.location) ∷ l) (placed_locations s ks)

pub from_injective : (s : ℕ) (ds es : List ℕ) → map (from s) ds ≡ map (from s) es → ds ≡ es
from_injective s [] [] same = refl
from_injective s [] (e ∷ es) same = absurd cc
from_injective s (d ∷ ds) [] same = absurd cc
from_injective s (d ∷ ds) (e ∷ es) same =
    let sums : s + d ≡ s + e = cc in
    let first : d ≡ e = omega arith in
    let later : map (from s) ds ≡ map (from s) es = cc in
    ap (λ n. n ∷ ds) first ∙ ap (λ l. e ∷ l) (from_injective s ds es later)

first_placed : (s d : ℕ) (by : List Kept) → first_location (s + d) (map (kept_at_distance s) by) ≡ s + first_location d by
first_placed s d [] = refl
first_placed s d (k ∷ ks) = refl

pub rows_moved : (due due' : ℕ → Result RowInstructions Fault) (s t size : ℕ) (by : List Kept) → ((d : ℕ) → due (s + d) ≡ due' (t + d)) → AreRows due (s + size) (map (kept_at_distance s) by) → AreRows due' (t + size) (map (kept_at_distance t) by)
rows_moved due due' s t size [] same rows = tt
rows_moved due due' s t size (k ∷ ks) same rows = (
  λ pc from_here below.
      let next = first_placed s size ks in
      let next' = first_placed t size ks in
      let d : ℕ = pc - t in
      let there : t + d ≡ pc = omega arith in
      let gives = rows.0 (s + d) (omega arith) (omega arith) in
      subst (λ r. GivesRow k.answer r) (same d ∙ ap due' there) gives,
  rows_moved due due' s t size ks same rows.1,
)
