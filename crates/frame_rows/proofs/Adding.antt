-- A description's rows are added to a table, one location after another.
use Rattle.std.proofs.Common.{◌≡◌, ℕ, ◌+◌, ◌-◌, ◌<◌, ◌≤◌, cond, true, false, List, [], ◌∷◌, ◌++◌, length, map, Option, Some, None, Result, Ok, Err, refl, sym, ap, ◌∙◌, subst, inl, inr, arith, append_assoc, length-append}
use Rattle.std.specs.Prelude.{is_some, slice_range}
use Rattle.std.specs.List.{AllByRecursion}
use Rattle.std.proofs.lemmas.Bool.{lt-ltb, le-ltb}
use Rattle.std.proofs.lemmas.List.{append-nil, map-append, length-map}
use Rattle.unwind_definitions.specs.declared.error.Error.{Error as Fault}
use Rattle.unwind_definitions.specs.Instructions.{Program}
use Rattle.unwind_definitions.specs.Row.{RowInstructions, location, from_common, up_to}
use Rattle.frame_rows.specs.Adding.{IsAdding, IsAppended, IsKeptWhole, done, due_at}
use Rattle.frame_rows.specs.RowValue.{RowValue}
use Rattle.frame_rows.specs.Rows.{GivesRow, IsLast}
use Rattle.frame_rows.specs.Movable.{IsRelative}
use Rattle.frame_rows.specs.Running.{push, outcome}
use Rattle.frame_rows.specs.KeptRows.{Kept, KeptRows, AreKeptOf, AreRows, AreTooMany, IsAdded, Ascends, answer_rule_count, kept_rule_count, location_of, locations_after, kept_at_distance, reached_locations, rule_count_at, rule_count_of, then_location}
use Rattle.frame_rows.specs.Stretches.{EndsStretch, IsLastStretch, IsStretch, IsFaultyStretch}
use Rattle.frame_rows.specs.TableRows.{IsPushed, Keeps}
use Rattle.frame_rows.specs.declared.machine.Machine.{Machine}
use Rattle.frame_rows.specs.declared.row_table.RowLimits.{RowLimits}
use Rattle.frame_rows.specs.declared.row_table.RowRange.{RowRange}
use Rattle.frame_rows.proofs.Columns.{count_ruled}
use Rattle.frame_rows.proofs.Moved.{whole_part}
use Rattle.frame_rows.proofs.Parts.{part_added}
use Rattle.frame_rows.proofs.StretchSteps.{location_pushed}
use Rattle.frame_rows.proofs.Together.{common_fine, common_bad, common_stops, own_run, own_stops, row_made}

-- a row has as many rules as are due
pub as_many_rules : (answer : Result RowValue Fault) (due : Result RowInstructions Fault) → GivesRow answer due → Ascends answer → answer_rule_count answer ≡ rule_count_of due
as_many_rules (Ok r) due gives asc = count_ruled gives.0 r.rules asc gives.2.rules ∙ ap rule_count_of (sym gives.1)
as_many_rules (Err e) due gives asc = ap rule_count_of (sym gives)

abbrev keeps : ℕ → Result RowValue Fault → Kept
keeps location answer = record { location = location; answer = answer }

module _ (due : ℕ → Result RowInstructions Fault) where
  rows_push : (done : List Kept) (here end : ℕ) (answer : Result RowValue Fault) → AreRows due here done → ((pc : ℕ) → here ≤ pc → pc < end → GivesRow answer (due pc)) → AreRows due end (done ++ record { location = here; answer = answer } ∷ [])
  rows_push [] here end answer rows gives = (gives, tt)
  rows_push (k ∷ []) here end answer rows gives = (rows.0, rows_push [] here end answer tt gives)
  rows_push (k ∷ l ∷ ks) here end answer rows gives = (rows.0, rows_push (l ∷ ks) here end answer rows.1 gives)

  count_append : (ls ms : List ℕ) → rule_count_at due (ls ++ ms) ≡ rule_count_at due ls + rule_count_at due ms
  count_append [] ms = omega arith
  count_append (l ∷ ls) ms = let h = count_append ls ms in omega arith

  count_one : (l : ℕ) → rule_count_at due (l ∷ []) ≡ rule_count_of (due l)
  count_one l = omega arith

module _ (start end : ℕ) (common own : Program) (old : KeptRows) where
  as_many_kept : (by : List Kept) → map location_of (done start end common own old by) ≡ reached_locations start end common own → length by ≡ length (reached_locations start end common own)
  as_many_kept by all =
      let n = ap length all in
      let m = length-map (done start end common own old by) location_of in
      let k = length-map by (kept_at_distance start) in
      omega arith

  -- it is added: from the first index after the rest on
  pub ranged : (limits : RowLimits) (range : RowRange) (new : KeptRows) → range.first ≡ length old.rows → range.end ≡ length new.rows → IsAppended start end common own old limits new → IsAdded limits start end common own old range new
  ranged limits range new first last a =
      let part : slice_range new.rows range.first range.end ≡ a.by =
      ap (λ i. slice_range new.rows i range.end) first ∙ ap (λ j. slice_range new.rows (length old.rows) j) last
      ∙ ap (λ (l : List Kept). slice_range l (length old.rows) (length l)) a.rows ∙ part_added old.rows a.by in
      let many = as_many_kept a.by a.of.locations in
      let n = ap length a.rows in
      let m = length-append old.rows a.by in
      record {
        of = subst (λ (ks : List Kept). AreKeptOf start end common own (done start end common own old ks)) (sym part) a.of;
        some = omega arith;
        within = omega arith;
        longer = record { more = a.by; grown = a.rows };
        row_count = a.row_count ∙ ap (λ n. old.row_count + n) many;
        rule_count = a.rule_count;
        rows_fit = a.rows_fit;
        rules_fit = a.rules_fit;
      }

  pub begin : (run : RowInstructions) → start < end → outcome 0 None (from_common []) common ≡ Ok run → IsAdding start end common own old start (from_common common.instructions) own old
  begin run some ran = record {
    by = [];
    stands = refl;
    ahead = omega arith;
    below = some;
    listed = ap (λ o. start ∷ cond (is_some o) [] (locations_after start end (from_common common.instructions) own.instructions)) (sym (common_fine common run ran));
    stays = λ pc le. refl;
    rows = tt;
    kept = sym (append-nil old.rows);
    row_count = omega arith;
    counted = omega arith;
  }

  -- ---- what is due on a stretch

  module _ (run : RowInstructions) (ran : outcome 0 None (from_common []) common ≡ Ok run) (here : ℕ) (now : RowInstructions) (q : Program) (table : KeptRows) (a : IsAdding start end common own old here now q table) where
    given : (pc : ℕ) (last : RowInstructions) (answer : Result RowValue Fault) → here ≤ pc → outcome start (Some pc) now q ≡ Ok last → IsLast last answer → GivesRow answer ((due_at start end common own old) pc)
    given pc last answer le is ends =
        let whole = a.stays pc le ∙ is in
        row_made start pc common own run last answer ran whole (subst (λ r. IsLast r answer) (sym (own_run start pc common own last whole)) ends)

    pub due_last : (new : Machine) (answer : Result RowValue Fault) (st : IsLastStretch start now q new) → IsLast st.now answer → (pc : ℕ) → here ≤ pc → pc < end → GivesRow answer ((due_at start end common own old) pc)
    due_last new answer st ends pc le lt = let h = a.stands in given pc st.now answer le (st.stays pc (omega arith)) ends

    pub due_up_to : (next : ℕ) (new : Machine) (rest : Program) (answer : Result RowValue Fault) (st : IsStretch start now q next new rest) → IsLast st.now answer → (pc : ℕ) → here ≤ pc → pc < next → GivesRow answer ((due_at start end common own old) pc)
    due_up_to next new rest answer st ends pc le lt = let h = a.stands in given pc st.now answer le (st.stays pc (omega arith) lt) ends

    pub due_fault : (e : Fault) → IsFaultyStretch start now q e → (pc : ℕ) → here ≤ pc → pc < end → (due_at start end common own old) pc ≡ Err e
    due_fault e st pc le lt = let h = a.stands in own_stops start pc common own run e ran (a.stays pc le ∙ st.stays pc (omega arith))

  -- ---- one more row

  module _ (here : ℕ) (now : RowInstructions) (q : Program) (table : KeptRows) (a : IsAdding start end common own old here now q table) (limits : RowLimits) (answer : Result RowValue Fault) (many : answer_rule_count answer ≡ rule_count_of ((due_at start end common own old) here)) where
    abbrev one : List Kept
    one = keeps (here - start) answer ∷ []

    placed_one : done start end common own old (a.by ++ one) ≡ done start end common own old a.by ++ keeps here answer ∷ []
    placed_one =
        let there : start + (here - start) ≡ here = let h = a.ahead in omega arith in
        map-append (kept_at_distance start) a.by one ∙ ap (λ n. done start end common own old a.by ++ keeps n answer ∷ []) there

    locations_one : map location_of (done start end common own old (a.by ++ one)) ≡ map location_of (done start end common own old a.by) ++ here ∷ []
    locations_one = ap (map location_of) placed_one ∙ map-append location_of (done start end common own old a.by) (keeps here answer ∷ [])

    rows_one : (bound : ℕ) → ((pc : ℕ) → here ≤ pc → pc < bound → GivesRow answer ((due_at start end common own old) pc)) → AreRows (due_at start end common own old) bound (done start end common own old (a.by ++ one))
    rows_one bound gives = subst (AreRows (due_at start end common own old) bound) (sym placed_one) (rows_push (due_at start end common own old) (done start end common own old a.by) here bound answer a.rows gives)

    counted_one : (new : KeptRows) → IsPushed limits (here - start) answer (answer_rule_count answer) table new → new.rule_count ≡ old.rule_count + rule_count_at (due_at start end common own old) (map location_of (done start end common own old (a.by ++ one)))
    counted_one new p =
        let before = a.counted in
        let now = p.rule_count in
        let more = count_append (due_at start end common own old) (map location_of (done start end common own old a.by)) (here ∷ []) in
        let same = ap (rule_count_at (due_at start end common own old)) locations_one in
        let one = count_one (due_at start end common own old) here in
        omega arith

    kept_one : (new : KeptRows) → IsPushed limits (here - start) answer (answer_rule_count answer) table new → new.rows ≡ old.rows ++ (a.by ++ one)
    kept_one new p = p.rows ∙ ap (λ l. l ++ one) a.kept ∙ append_assoc old.rows a.by one

    row_count_one : (new : KeptRows) → IsPushed limits (here - start) answer (answer_rule_count answer) table new → new.row_count ≡ old.row_count + length (a.by ++ one)
    row_count_one new p =
        let before = a.row_count in
        let now = p.row_count in
        let n = length-append a.by one in
        omega arith

    -- it is the last
    pub added : (new : KeptRows) → ((pc : ℕ) → here ≤ pc → pc < end → GivesRow answer ((due_at start end common own old) pc)) → locations_after start end now q.instructions ≡ [] → IsPushed limits (here - start) answer (answer_rule_count answer) table new → IsAppended start end common own old limits new
    added new gives none p =
        let all : map location_of (done start end common own old (a.by ++ one)) ≡ reached_locations start end common own =
        locations_one ∙ ap (λ ls. map location_of (done start end common own old a.by) ++ here ∷ ls) (sym none) ∙ a.listed in
        record {
          by = a.by ++ one;
          of = record { locations = all; rows = rows_one end gives };
          rows = kept_one new p;
          row_count = row_count_one new p;
          rule_count = counted_one new p ∙ ap (λ ls. old.rule_count + rule_count_at (due_at start end common own old) ls) all;
          rows_fit = p.rows_fit;
          rules_fit = p.rules_fit;
        }

    none_left : (next here' : ℕ) (ls : List ℕ) → here' < next → end ≤ next → then_location end here' next ls ≡ []
    none_left next here' ls ahead past = rw (lt-ltb here' next ahead, le-ltb next end past) refl

    -- an instruction leads out of the range
    pub added_past : (next : ℕ) (new : KeptRows) (m : Machine) (rest : Program) → IsStretch start now q next m rest → end ≤ next → ((pc : ℕ) → here ≤ pc → pc < end → GivesRow answer ((due_at start end common own old) pc)) → IsPushed limits (here - start) answer (answer_rule_count answer) table new → IsAppended start end common own old limits new
    added_past next new m rest st past gives p = added new gives (st.more end ∙ none_left next (location start now.own) _ st.ahead past) p

    -- an instruction leads on
    pub goes_on : (next : ℕ) (new : KeptRows) (m : Machine) (rest : Program) (st : IsStretch start now q next m rest) → next < end → ((pc : ℕ) → here ≤ pc → pc < next → GivesRow answer ((due_at start end common own old) pc)) → IsPushed limits (here - start) answer (answer_rule_count answer) table new → IsAdding start end common own old next (push st.now st.by) rest new
    goes_on next new m rest st inside gives p =
        let h = a.stands in
        let ahead = st.ahead in
        let first = a.ahead in
        record {
          by = a.by ++ one;
          stands = sym st.leads ∙ sym (location_pushed start st.now st.by);
          ahead = omega arith;
          below = inside;
          listed = ap (λ ls. ls ++ next ∷ locations_after start end (push st.now st.by) rest.instructions) locations_one
              ∙ append_assoc (map location_of (done start end common own old a.by)) (here ∷ []) (next ∷ locations_after start end (push st.now st.by) rest.instructions)
              ∙ ap (λ ls. map location_of (done start end common own old a.by) ++ here ∷ ls) (sym (st.more end ∙ one_left)) ∙ a.listed;
          stays = λ pc le. a.stays pc (omega arith) ∙ st.goes_on pc le;
          rows = rows_one next gives;
          kept = kept_one new p;
          row_count = row_count_one new p;
          counted = counted_one new p;
        }
      where
        one_left : then_location end (location start now.own) next (locations_after start end (push st.now st.by) rest.instructions) ≡ next ∷ locations_after start end (push st.now st.by) rest.instructions
        one_left = rw (lt-ltb (location start now.own) next st.ahead, lt-ltb next end inside) refl

    -- it would be too much
    pub too_many : AreTooMany limits table 1 (answer_rule_count answer) → AreTooMany limits old (length (reached_locations start end common own)) (kept_rule_count start end common own)
    too_many more =
        let all = ap length a.listed in
        let n = length-append (map location_of (done start end common own old a.by)) (here ∷ locations_after start end now q.instructions) in
        let m = length-map (done start end common own old a.by) location_of in
        let l = length-map a.by (kept_at_distance start) in
        let k = a.row_count in
        let rules = ap (rule_count_at (due_at start end common own old)) a.listed in
        let r = count_append (due_at start end common own old) (map location_of (done start end common own old a.by)) (here ∷ locations_after start end now q.instructions) in
        let c = a.counted in
        elim more [ inl rows ↦ inl (omega arith) | inr more_rules ↦ inr (omega arith) ]

  -- ---- what a stretch ends with is kept

  module _ (run : RowInstructions) (ran : outcome 0 None (from_common []) common ≡ Ok run) (here : ℕ) (now : RowInstructions) (q : Program) (table : KeptRows) (a : IsAdding start end common own old here now q table) (limits : RowLimits) (m : Machine) (rest : Program) (new : KeptRows) where
    here_at : (answer : Result RowValue Fault) (bound : ℕ) → here < bound → ((pc : ℕ) → here ≤ pc → pc < bound → GivesRow answer ((due_at start end common own old) pc)) → Ascends answer → answer_rule_count answer ≡ rule_count_of ((due_at start end common own old) here)
    here_at answer bound below gives asc = as_many_rules answer ((due_at start end common own old) here) (gives here (omega arith) below) asc

    pub kept_too_many : (next : Result (Option ℕ) Fault) → EndsStretch start now q next m rest → Keeps limits (here - start) next m table (Ok false) new → AreTooMany limits old (length (reached_locations start end common own)) (kept_rule_count start end common own)
    kept_too_many (Ok None) st k =
        let gives = due_last run ran here now q table a m k.0 st (k.1 start st.now st.represents) in
        too_many here now q table a limits k.0 (here_at k.0 end a.below gives k.2.ascends) k.2.pushes
    kept_too_many (Ok (Some next)) st k =
        let gives = due_up_to run ran here now q table a next m rest k.0 st (k.1 start st.now st.represents) in
        let h = a.stands in let ahead = st.ahead in
        too_many here now q table a limits k.0 (here_at k.0 next (omega arith) gives k.2.ascends) k.2.pushes
    kept_too_many (Err e) st k =
        let gives = due_fault run ran here now q table a e st in
        too_many here now q table a limits (Err e) (here_at (Err e) end a.below gives tt) k.pushes

    pub kept_at_end : EndsStretch start now q (Ok None) m rest → Keeps limits (here - start) (Ok None) m table (Ok true) new → IsAppended start end common own old limits new
    kept_at_end st k =
        let gives = due_last run ran here now q table a m k.0 st (k.1 start st.now st.represents) in
        added here now q table a limits k.0 (here_at k.0 end a.below gives k.2.ascends) new gives (st.no_more end) k.2.pushes

    pub kept_fault : (e : Fault) → EndsStretch start now q (Err e) m rest → Keeps limits (here - start) (Err e) m table (Ok true) new → IsAppended start end common own old limits new
    kept_fault e st k =
        let gives = due_fault run ran here now q table a e st in
        added here now q table a limits (Err e) (here_at (Err e) end a.below gives tt) new gives (st.no_more end) k.pushes

    module _ (next : ℕ) (st : IsStretch start now q next m rest) (k : Keeps limits (here - start) (Ok (Some next)) m table (Ok true) new) where
      abbrev gives_up_to : (pc : ℕ) → here ≤ pc → pc < next → GivesRow k.0 ((due_at start end common own old) pc)
      gives_up_to = due_up_to run ran here now q table a next m rest k.0 st (k.1 start st.now st.represents)

      as_many : answer_rule_count k.0 ≡ rule_count_of ((due_at start end common own old) here)
      as_many = let h = a.stands in let ahead = st.ahead in here_at k.0 next (omega arith) gives_up_to k.2.ascends

      pub kept_past : end ≤ next → IsAppended start end common own old limits new
      kept_past past = added_past here now q table a limits k.0 as_many next new m rest st past (λ pc le lt. gives_up_to pc le (omega arith)) k.2.pushes

      pub kept_on : next < end → IsAdding start end common own old next (push st.now st.by) rest new
      kept_on inside = goes_on here now q table a limits k.0 as_many next new m rest st inside gives_up_to k.2.pushes

    -- the program was run to its end: what is kept stays for locations after the range
    pub kept_whole : (st : IsLastStretch start now q m) → Keeps limits (here - start) (Ok None) m table (Ok true) new → IsKeptWhole start end common own old here new
    kept_whole st k =
        let h = a.stands in
        let gives = due_last run ran here now q table a m k.0 st (k.1 start st.now st.represents) in
        let many = here_at k.0 end a.below gives k.2.ascends in
        let all = locations_one here now q table a limits k.0 many ∙ ap (λ ls. map location_of (done start end common own old a.by) ++ here ∷ ls) (sym (st.no_more end)) ∙ a.listed in
        record {
          by = a.by ++ keeps (here - start) k.0 ∷ [];
          locations = all;
          rows = λ bound past. rows_one here now q table a limits k.0 many bound (λ pc le lt. given run ran here now q table a pc st.now k.0 le (st.stays pc (omega arith)) (k.1 start st.now st.represents));
          stand = kept_one here now q table a limits k.0 many new k.2.pushes;
          counted = counted_one here now q table a limits k.0 many new k.2.pushes ∙ ap (λ ls. old.rule_count + rule_count_at (due_at start end common own old) ls) all;
          last = λ movable. last_location st movable.each;
        }
      where
        last_location : (st : IsLastStretch start now q m) → AllByRecursion IsRelative own.instructions → location start own.instructions ≡ here
        last_location st relative =
            let h = a.stands in
            let pc : ℕ = here + location start own.instructions in
            let ran_all = a.stays pc (omega arith) ∙ st.stays pc (omega arith) in
            let is : up_to start pc own.instructions ≡ st.now.own = ap (λ (r : RowInstructions). r.own) (own_run start pc common own st.now ran_all) in
            ap (location start) (sym (whole_part start pc own.instructions relative (omega arith)) ∙ is) ∙ st.stands ∙ sym a.stands

  -- ---- a description whose common program can't be run

  module _ (limits : RowLimits) (e : Fault) (bad : outcome 0 None (from_common []) common ≡ Err e) where
    only_start : reached_locations start end common own ≡ start ∷ []
    only_start = ap (λ o. start ∷ cond (is_some o) [] (locations_after start end (from_common common.instructions) own.instructions)) (common_bad common e bad)

    none_due : kept_rule_count start end common own ≡ 0
    none_due = ap (rule_count_at (due_at start end common own old)) only_start ∙ ap (λ d. rule_count_of d + 0) (common_stops start start common own e bad)

    pub added_fault : (new : KeptRows) → IsPushed limits 0 (Err e) 0 old new → IsAppended start end common own old limits new
    added_fault new p =
        let n = none_due in let c = p.rule_count in let r = p.row_count in
        let there : start + 0 ≡ start = omega arith in
        record {
          by = keeps 0 (Err e) ∷ [];
          of = record { locations = ap (λ n. n ∷ []) there ∙ sym only_start; rows = (λ pc le lt. common_stops start pc common own e bad, tt) };
          rows = p.rows;
          row_count = omega arith;
          rule_count = omega arith;
          rows_fit = p.rows_fit;
          rules_fit = p.rules_fit;
        }

    pub too_many_fault : AreTooMany limits old 1 0 → AreTooMany limits old (length (reached_locations start end common own)) (kept_rule_count start end common own)
    too_many_fault more =
        let n = none_due in let l = ap length only_start in
        elim more [ inl rows ↦ inl (omega arith) | inr rules ↦ inr (omega arith) ]
