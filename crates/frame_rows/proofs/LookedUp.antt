-- What a search of a table's rows finds holds at the address.
use Rattle.std.proofs.Common.{◌≡◌, ℕ, zero, suc, ◌+◌, ◌-◌, ◌<◌, ◌≤◌, List, [], ◌∷◌, ◌++◌, length, map, take, drop, get_or, Result, refl, sym, ap, ◌∙◌, subst, arith}
use Rattle.std.specs.Prelude.{slice_range}
use Rattle.std.proofs.lemmas.List.{take-map, drop-map, get_or-take, get_or-drop, map-append}
use Rattle.std.proofs.Math.ListN.{get_or-map}
use Rattle.unwind_definitions.specs.declared.error.Error.{Error as Fault}
use Rattle.unwind_definitions.specs.Row.{RowInstructions}
use Rattle.frame_rows.specs.RowValue.{RowValue}
use Rattle.frame_rows.specs.Rows.{GivesRow}
use Rattle.frame_rows.specs.KeptRows.{Kept, AreRows, first_location, location_of, kept_at_distance}
use Rattle.frame_rows.specs.TableRows.{HoldsAt, IsLastAt, kept_in}
use Rattle.frame_rows.specs.declared.row_table.TableRow.{TableRow}

module _ (bodies : List (Result RowValue Fault)) where
  pub part_of : (items : List TableRow) (first end : ℕ) → slice_range (map (kept_in bodies) items) first end ≡ map (kept_in bodies) (slice_range items first end)
  part_of items first end = ap (take (end - first)) (drop-map (kept_in bodies) first items) ∙ take-map (kept_in bodies) (end - first) (drop first items)

  pub first_begun : (items : List TableRow) (first end pc : ℕ) → first < end → ((d : Kept) → location_of (get_or (map (kept_in bodies) items) first d) ≤ pc) → (d : TableRow) → (get_or (take (end - first) (drop first items)) 0 d).distance ≤ pc
  first_begun items first end pc some begun d =
      let one : get_or (take (end - first) (drop first items)) 0 d ≡ get_or items first d =
      get_or-take (end - first) (drop first items) 0 d (omega arith) ∙ get_or-drop first items 0 d ∙ ap (λ i. get_or items i d) (omega arith) in
      let same = get_or-map (kept_in bodies) items first d in
      let le = begun (kept_in bodies d) in
      subst (λ (r : TableRow). r.distance ≤ pc) (sym one) (subst (λ (k : Kept). k.location ≤ pc) same le)

  pub holds : (xs : List TableRow) (pc i : ℕ) (d : TableRow) (answer : Result RowValue Fault) → IsLastAt xs pc i → answer ≡ (kept_in bodies (get_or xs i d)).answer → HoldsAt (map (kept_in bodies) xs) pc answer
  holds [] pc i d answer last is = let w = last.within in absurd (omega arith)
  holds (x ∷ xs) pc zero d answer last is = record {
    before = [];
    here = kept_in bodies x;
    later = map (kept_in bodies) xs;
    all = refl;
    at_or_before = last.before d;
    after = λ end below. go xs end below last.after;
    answers = is;
  }
    where
      go : (xs : List TableRow) (end : ℕ) → pc < end → ((d : TableRow) → 0 + 1 < length (x ∷ xs) → pc < (get_or (x ∷ xs) (0 + 1) d).distance) → pc < first_location end (map (kept_in bodies) xs)
      go [] end below after = below
      go (y ∷ ys) end below after = after d (omega arith)
  holds (x ∷ xs) pc (suc i) d answer last is =
      let h = holds xs pc i d answer (record { within = let w = last.within in omega arith; before = last.before; after = λ e lt. let more : suc i + 1 ≡ suc (i + 1) = omega arith in subst (λ n. pc < (get_or (x ∷ xs) n e).distance) more (last.after e (omega arith)) }) is in
      record { before = kept_in bodies x ∷ h.before; here = h.here; later = h.later; all = ap (λ l. kept_in bodies x ∷ l) h.all; at_or_before = h.at_or_before; after = h.after; answers = h.answers }

-- what holds at a distance holds at the address that is so far after a start
pub holds_placed : (start distance : ℕ) (kept : List Kept) (answer : Result RowValue Fault) → HoldsAt kept distance answer → HoldsAt (map (kept_at_distance start) kept) (start + distance) answer
holds_placed start distance kept answer h = record {
  before = map (kept_at_distance start) h.before;
  here = kept_at_distance start h.here;
  later = map (kept_at_distance start) h.later;
  all = ap (map (kept_at_distance start)) h.all ∙ map-append (kept_at_distance start) h.before (h.here ∷ h.later);
  at_or_before = let a = h.at_or_before in omega arith;
  after = λ end below. go h.later end below (h.after (end - start) (omega arith));
  answers = h.answers;
}
  where
    go : (later : List Kept) (end : ℕ) → start + distance < end → distance < first_location (end - start) later → start + distance < first_location end (map (kept_at_distance start) later)
    go [] end below lt = below
    go (k ∷ ks) end below lt = omega arith

-- what holds at an address is what is due there
pub due_there : (due : ℕ → Result RowInstructions Fault) (end pc : ℕ) (kept : List Kept) (answer : Result RowValue Fault) → AreRows due end kept → pc < end → HoldsAt kept pc answer → GivesRow answer (due pc)
due_there due end pc kept answer rows below h =
    let all = subst (AreRows due end) h.all rows in
    subst (λ a. GivesRow a (due pc)) (sym h.answers) (go h.before all)
  where
    go : (before : List Kept) → AreRows due end (before ++ h.here ∷ h.later) → GivesRow h.here.answer (due pc)
    go [] rows = rows.0 pc h.at_or_before (h.after end below)
    go (k ∷ ks) rows = go ks rows.1
