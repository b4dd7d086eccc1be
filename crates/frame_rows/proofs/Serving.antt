-- The rows of a program that was run to its end serve other descriptions whose programs have the same bytes.
use Rattle.std.proofs.Common.{◌≡◌, ℕ, zero, suc, ◌+◌, ◌-◌, ◌^◌, ◌<◌, ◌≤◌, ◌⊎◌, Bool, true, false, List, [], ◌∷◌, length, map, get_or, set, Option, Some, None, Result, Ok, refl, sym, ap, ◌∙◌, subst, inl, inr, arith, length-append}
use Rattle.std.specs.Prelude.{slice_range}
use Rattle.std.specs.List.{AllByRecursion}
use Rattle.std.proofs.lemmas.List.{length-map}
use Rattle.unwind_definitions.specs.declared.error.Error.{Error as Fault}
use Rattle.unwind_definitions.specs.Input.{Input}
use Rattle.unwind_definitions.specs.Instructions.{Coding, Program, program}
use Rattle.unwind_definitions.specs.Row.{RowInstructions, location, row}
use Rattle.frame_rows.specs.KeptRows.{Adds, Kept, KeptRows, AreKeptOf, AreRows, IsLonger, kept_rule_count, location_of, kept_at_distance, reached_locations, rows_from, rule_count_at}
use Rattle.frame_rows.specs.Movable.{IsMovable}
use Rattle.frame_rows.specs.KnownRows.{Serves, IsKnown, IsKnownSlot, AreKnown, AreBlank, StayOrGo, Notes, NotesUnless, Finds}
use Rattle.frame_rows.specs.Again.{CountsAgain}
use Rattle.frame_rows.specs.BegunPrograms.{before_last, last}
use Rattle.frame_rows.specs.declared.begun.BegunProgram.{BegunProgram}
use Rattle.frame_rows.specs.declared.begun.BegunPrograms.{BegunPrograms}
use Rattle.frame_rows.specs.declared.row_table.RowLimits.{RowLimits}
use Rattle.frame_rows.specs.declared.row_table.RowRange.{RowRange}
use Rattle.frame_rows.specs.declared.row_table_builder.RowTableBuilder.{RowTableBuilder}
use Rattle.frame_rows.specs.declared.known_programs.KnownProgram.{KnownProgram}
use Rattle.frame_rows.specs.Adding.{IsKeptWhole}
use Rattle.frame_rows.proofs.ByBytes.{program_by_bytes}
use Rattle.frame_rows.proofs.Moved.{count_moved, distances, from, from_injective, placed_locations, reached_moved, rises, row_moved, rows_moved}
use Rattle.frame_rows.proofs.Parts.{as_long, length-part, part_added, part_stays}

-- ---- from one start to another

-- what is kept at distances of a program that was run to its end, where no location is set
pub record IsWhole (start end : ℕ) (common own : Program) (reach : ℕ) (by : List Kept) : Type 0 where
  pub locations : map location_of (map (kept_at_distance start) by) ≡ reached_locations start end common own
  pub rows : (bound : ℕ) → start + reach < bound → AreRows (λ pc. row start pc common own) bound (map (kept_at_distance start) by)
  pub last : location start own.instructions ≡ start + reach

module _ (s e : ℕ) (common own : Program) (reach : ℕ) (by : List Kept) (movable : IsMovable own) (inside : s + reach < e) (fits : e ≤ 2 ^ 64) (whole : IsWhole s e common own reach by) where
  abbrev due : ℕ → ℕ → Result RowInstructions Fault
  due start pc = row start pc common own

  reached_here : reached_locations s e common own ≡ map (from s) (distances common own)
  reached_here = let l = whole.last in reached_moved s e common own movable (omega arith) fits

  at : map location_of by ≡ distances common own
  at = from_injective s (map location_of by) (distances common own) (sym (placed_locations s by) ∙ whole.locations ∙ reached_here)

  module _ (t f : ℕ) (within : t + reach < f) (below : f ≤ 2 ^ 64) where
    last_there : location t own.instructions ≡ t + reach
    last_there =
        let a = rises s own.instructions movable.each in
        let b = rises t own.instructions movable.each in
        let l = whole.last in
        omega arith

    same_due : (d : ℕ) → due s (s + d) ≡ due t (t + d)
    same_due d = let l = whole.last in let m = last_there in row_moved common own movable s t (s + d) (t + d) (omega arith) (omega arith) (omega arith)

    reached_there : reached_locations t f common own ≡ map (from t) (distances common own)
    reached_there = let l = last_there in reached_moved t f common own movable (omega arith) below

    pub kept_there : AreKeptOf t f common own (map (kept_at_distance t) by)
    kept_there = record {
      locations = placed_locations t by ∙ ap (map (from t)) at ∙ sym reached_there;
      rows =
          let size : ℕ = f - t in
          let there : t + size ≡ f = omega arith in
          subst (λ n. AreRows (due t) n (map (kept_at_distance t) by)) there
          (rows_moved (due s) (due t) s t size by same_due (whole.rows (s + size) (omega arith)));
    }

    pub counted_there : kept_rule_count t f common own ≡ kept_rule_count s e common own
    counted_there =
        ap (rule_count_at (due t)) reached_there
        ∙ sym (count_moved (due s) (due t) s t (distances common own) same_due)
        ∙ sym (ap (rule_count_at (due s)) reached_here)

pub serves : (s e : ℕ) (common : Program) (k : Coding) (c : Input) (reach : ℕ) (by : List Kept) (movable : IsMovable (program k c)) (inside : s + reach < e) (fits : e ≤ 2 ^ 64) (whole : IsWhole s e common (program k c) reach by) →
    Serves common k.code_factor k.data_factor c.bytes reach (kept_rule_count s e common (program k c)) by
serves s e common k c reach by movable inside fits whole = record {
  kept = λ j d code units same t f within below.
      subst (λ (p : Program). AreKeptOf t f common p (map (kept_at_distance t) by))
      (sym (program_by_bytes k j (sym code) (sym units) c d (sym same) movable))
      (kept_there s e common (program k c) reach by movable inside fits whole t f within below);
  counted = λ j d code units same t f within below.
      ap (λ (p : Program). kept_rule_count t f common p) (program_by_bytes k j (sym code) (sym units) c d (sym same) movable)
      ∙ counted_there s e common (program k c) reach by movable inside fits whole t f within below;
}

-- ---- what is known stays known

module _ (common : Program) (old new : List Kept) (longer : IsLonger old new) where
  known_on : (known : KnownProgram) → IsKnown common old known → IsKnown common new known
  known_on known k =
      let n = ap length longer.grown in
      let m = length-append old longer.more in
      let w = k.within in
      let stays : slice_range new known.rows.first known.rows.end ≡ slice_range old known.rows.first known.rows.end =
      ap (λ (l : List Kept). slice_range l known.rows.first known.rows.end) longer.grown ∙ part_stays old longer.more known.rows.first known.rows.end k.ordered k.within in
      record {
        ordered = k.ordered;
        within = omega arith;
        serves = subst (Serves common known.code_factor known.data_factor known.bytes.now known.reach known.rule_count) (sym stays) k.serves;
      }

  slot_on : (slot : Option KnownProgram) → IsKnownSlot common old slot → IsKnownSlot common new slot
  slot_on None k = tt
  slot_on (Some known) k = known_on known k

  pub slots_on : (slots : List (Option KnownProgram)) → AllByRecursion (IsKnownSlot common old) slots → AllByRecursion (IsKnownSlot common new) slots
  slots_on [] all = tt
  slots_on (s ∷ ss) all = (slot_on s all.0, slots_on ss all.1)

module _ (common : Program) (rows : List Kept) where
  none_known : (slot : Option KnownProgram) → slot ≡ None → IsKnownSlot common rows slot
  none_known None is = tt
  none_known (Some k) is = absurd cc

  pub blank_known : (slots : List (Option KnownProgram)) → AreBlank slots → AllByRecursion (IsKnownSlot common rows) slots
  blank_known [] all = tt
  blank_known (s ∷ ss) all = (none_known s all.0, blank_known ss all.1)

  set_known : (slots : List (Option KnownProgram)) (i : ℕ) (known : KnownProgram) → AllByRecursion (IsKnownSlot common rows) slots → IsKnown common rows known → AllByRecursion (IsKnownSlot common rows) (set slots i (Some known))
  set_known [] zero known all one = tt
  set_known [] (suc i) known all one = tt
  set_known (s ∷ ss) zero known all one = (one, all.1)
  set_known (s ∷ ss) (suc i) known all one = (all.0, set_known ss i known all.1 one)

  stayed_known : (old new : List (Option KnownProgram)) → StayOrGo old new → AllByRecursion (IsKnownSlot common rows) old → AllByRecursion (IsKnownSlot common rows) new
  stayed_known old new (inl same) all = subst (AllByRecursion (IsKnownSlot common rows)) (sym same) all
  stayed_known old new (inr blank) all = blank_known new blank

  noted_beside : (old new : List (Option KnownProgram)) (i : ℕ) (known : KnownProgram) → (new ≡ old) ⊎ (new ≡ set old i (Some known)) → AllByRecursion (IsKnownSlot common rows) old → IsKnown common rows known → AllByRecursion (IsKnownSlot common rows) new
  noted_beside old new i known (inl same) all one = subst (AllByRecursion (IsKnownSlot common rows)) (sym same) all
  noted_beside old new i known (inr set) all one = subst (AllByRecursion (IsKnownSlot common rows)) (sym set) (set_known old i known all one)

  pub noted_known : (old new : List (Option KnownProgram)) (known : KnownProgram) → Notes old known new → AllByRecursion (IsKnownSlot common rows) old → IsKnown common rows known → AllByRecursion (IsKnownSlot common rows) new
  noted_known old new known n all one = noted_beside n.beside new n.index known n.noted (stayed_known old n.beside n.stays all) one

  pub noted_unless : (old new : List (Option KnownProgram)) (known : KnownProgram) (flag : Bool) → NotesUnless flag old known new → AllByRecursion (IsKnownSlot common rows) old → (flag ≡ false → IsKnown common rows known) → AllByRecursion (IsKnownSlot common rows) new
  noted_unless old new known true n all one = subst (AllByRecursion (IsKnownSlot common rows)) (sym n) all
  noted_unless old new known false n all one = noted_known old new known n all (one refl)

  at_slot : (slots : List (Option KnownProgram)) (i : ℕ) (known : KnownProgram) → i < length slots → get_or slots i None ≡ Some known → AllByRecursion (IsKnownSlot common rows) slots → IsKnown common rows known
  at_slot [] i known lt is all = absurd (omega arith)
  at_slot (s ∷ ss) zero known lt is all = subst (IsKnownSlot common rows) is all.0
  at_slot (s ∷ ss) (suc i) known lt is all = at_slot ss i known (omega arith) is all.1

  pub found_known : (slots : List (Option KnownProgram)) (bytes : List ℕ) (coding : Coding) (size : ℕ) (known : KnownProgram) → Finds slots bytes coding size known → AllByRecursion (IsKnownSlot common rows) slots → IsKnown common rows known
  found_known slots bytes coding size known f all = at_slot slots f.index known f.within f.there all

-- ---- a program that was run is known

module _ (s e : ℕ) (common : Program) (k : Coding) (c : Input) (old new : KeptRows) (here : ℕ) (whole : IsKeptWhole s e common (program k c) old here new) (movable : IsMovable (program k c)) (below : here < e) (fits : e ≤ 2 ^ 64) where
  start_first : here ≡ s + (here - s)
  start_first =
      let l = whole.last movable in
      let r = rises s (program k c).instructions movable.each in
      omega arith

  is_whole : IsWhole s e common (program k c) (here - s) whole.by
  is_whole = let h = start_first in record {
    locations = whole.locations;
    rows = λ bound past. whole.rows bound (omega arith);
    last = whole.last movable ∙ start_first;
  }

  inside : s + (here - s) < e
  inside = let h = start_first in omega arith

  count_is : new.rule_count - old.rule_count ≡ kept_rule_count s e common (program k c)
  count_is = let h = whole.counted in omega arith

  pub is_known : (known : KnownProgram) → known.bytes.now ≡ c.bytes → known.code_factor ≡ k.code_factor → known.data_factor ≡ k.data_factor → known.reach ≡ here - s → known.rows.first ≡ length old.rows → known.rows.end ≡ length new.rows →
      known.rule_count ≡ new.rule_count - old.rule_count → IsKnown common new.rows known
  is_known known bytes code units reach first last count =
      let n = ap length whole.stand in
      let m = length-append old.rows whole.by in
      let part : slice_range new.rows known.rows.first known.rows.end ≡ whole.by =
      ap (λ a. slice_range new.rows a known.rows.end) first ∙ ap (λ b. slice_range new.rows (length old.rows) b) last
      ∙ ap (λ (l : List Kept). slice_range l (length old.rows) (length l)) whole.stand ∙ part_added old.rows whole.by in
      record {
        ordered = omega arith;
        within = omega arith;
        serves = rw (bytes, code, units, reach, count, count_is, part) (serves s e common k c (here - s) whole.by movable inside fits is_whole);
      }

-- ---- what a description's rows are added to stays known

module _ (common : Program) (old new : RowTableBuilder) (longer : IsLonger old.table.rows new.table.rows) where
  pub still_known : new.begun ≡ old.begun → AreKnown common old.table.rows (last old.begun).known → AreKnown common new.table.rows (last new.begun).known
  still_known same known = subst (λ (b : BegunPrograms). AreKnown common new.table.rows (last b).known) (sym same) (slots_on common old.table.rows new.table.rows longer (last old.begun).known known)

  pub still_known_before : before_last new.begun ≡ before_last old.begun → AreKnown common old.table.rows (before_last old.begun).known → AreKnown common new.table.rows (before_last new.begun).known
  still_known_before same known = subst (λ (b : BegunProgram). AreKnown common new.table.rows b.known) (sym same) (slots_on common old.table.rows new.table.rows longer (before_last old.begun).known known)

-- ---- a program that is known serves

module _ (limits : RowLimits) (common : Program) (k : Coding) (c : Input) (known : KnownProgram) (slots : List (Option KnownProgram)) (start end : ℕ) (old new : KeptRows) (some : start < end) (fits : end < 2 ^ 64) (is : IsKnown common old.rows known) (f : Finds slots c.bytes k (end - start) known) where
  within_range : start + known.reach < end
  within_range = let h = f.inside in omega arith

  are_kept : AreKeptOf start end common (program k c) (rows_from start old.rows known.rows)
  are_kept = is.serves.kept k c (sym f.code) (sym f.units) (sym f.bytes_same) start end within_range (omega arith)

  counted_again : kept_rule_count start end common (program k c) ≡ known.rule_count
  counted_again = is.serves.counted k c (sym f.code) (sym f.units) (sym f.bytes_same) start end within_range (omega arith)

  as_many : known.rows.end - known.rows.first ≡ length (reached_locations start end common (program k c))
  as_many =
      let n = ap length are_kept.locations in
      let a = length-map (rows_from start old.rows known.rows) location_of in
      let b = length-map (slice_range old.rows known.rows.first known.rows.end) (kept_at_distance start) in
      let p = length-part old.rows known.rows.first known.rows.end is.ordered is.within in
      omega arith

  pub adds_again : (r : Option RowRange) → CountsAgain limits known old r new → new.rows ≡ old.rows → Adds limits start end common (program k c) old (Ok r) new
  adds_again (Some range) a same =
      let n = as_many in
      let m = a.row_count in
      let w = is.within in
      let at_first = ap (λ (q : RowRange). q.first) a.range_is in
      let at_end = ap (λ (q : RowRange). q.end) a.range_is in
      let stand : rows_from start new.rows range ≡ rows_from start old.rows known.rows =
      ap (λ (q : RowRange). rows_from start new.rows q) a.range_is ∙ ap (λ (l : List Kept). rows_from start l known.rows) same in
      let size = ap length same in
      record {
        of = subst (AreKeptOf start end common (program k c)) (sym stand) are_kept;
        some = omega arith;
        within = omega arith;
        longer = subst (IsLonger old.rows) (sym same) (as_long old.rows);
        row_count = omega arith;
        rule_count = a.rule_count ∙ ap (λ n. old.rule_count + n) (sym counted_again);
        rows_fit = a.rows_fit;
        rules_fit = a.rules_fit;
      }
  adds_again None a same = let n = as_many in let m = counted_again in elim a [ inl rows ↦ inl (omega arith) | inr rules ↦ inr (omega arith) ]
