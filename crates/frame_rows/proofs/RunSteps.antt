-- What turns make of a description's program that runs from body to body.
use Rattle.std.proofs.Common.{◌≡◌, ℕ, ◌+◌, ◌-◌, ◌%◌, ◌^◌, ◌<◌, ◌≤◌, true, List, [], ◌∷◌, ◌++◌, length, map, get_or, Option, Some, None, Result, Ok, Err, refl, sym, ap, ◌∙◌, subst, arith, append_assoc, length-append}
use Rattle.std.specs.Prelude.{IfSome}
use Rattle.std.specs.Option.{option_map}
use Rattle.std.proofs.lemmas.List.{length-map, map-append}
use Rattle.unwind_definitions.specs.declared.error.Error.{Error as Fault}
use Rattle.unwind_definitions.specs.declared.error.Error.TheVariants.{NoCfaRegister}
use Rattle.unwind_definitions.specs.Instructions.{Coding, Instruction, Program}
use Rattle.unwind_definitions.specs.Row.{RowInstructions, fault_of, from_common, location}
use Rattle.frame_rows.specs.Adding.{IsAdding, IsAppended, done}
use Rattle.frame_rows.specs.Bodies.{kept_answer}
use Rattle.frame_rows.specs.BodyRuns.{IsRunning, limits_of, table_with}
use Rattle.frame_rows.specs.BodySteps.{HasInitial, IsMemoryAt, IsStateAt}
use Rattle.frame_rows.specs.KeptRows.{Ascends, Kept, KeptRows, answer_rule_count, location_of}
use Rattle.frame_rows.specs.RowValue.{RowValue}
use Rattle.frame_rows.specs.Rows.{IsLast}
use Rattle.frame_rows.specs.Rules.{cfa_meaning}
use Rattle.frame_rows.specs.Running.{Represents, outcome, push}
use Rattle.frame_rows.specs.Stepping.{IsLeft, IsWithin, TakesTurn}
use Rattle.frame_rows.specs.Stretches.{BeginsWith, IsStill, IsStretch}
use Rattle.frame_rows.specs.TableRows.{IsPushed, Keeps, kept_in}
use Rattle.frame_rows.specs.declared.body_run.BodyRun.{BodyRun as Walker}
use Rattle.frame_rows.specs.declared.machine.Machine.{Machine}
use Rattle.frame_rows.specs.declared.row_table.TableRow.{TableRow}
use Rattle.frame_rows.specs.declared.stretch.Turn.TheVariants as turn
use Rattle.std.specs.List.{AllByRecursion}
use Rattle.frame_rows.specs.Adding.{IsKeptWhole}
use Rattle.frame_rows.specs.Bodies.{Grows}
use Rattle.frame_rows.specs.Movable.{IsMovable}
use Rattle.frame_rows.specs.Stretches.{IsLastStretch}
use Rattle.frame_rows.specs.TableRows.{HasBody}
use Rattle.frame_rows.specs.declared.machine.RowState.{RowState}
use Rattle.frame_rows.proofs.Adding.{kept_at_end, kept_on, kept_past, kept_whole}
use Rattle.frame_rows.proofs.BodySteps.{at_longer, initial_longer, state_longer, within_longer}
use Rattle.frame_rows.proofs.Moving.{movable_none}
use Rattle.frame_rows.proofs.SliceReading.{none_left}
use Rattle.frame_rows.proofs.StretchSteps.{begun, ends, further, leads_further, led_on}

-- instructions don't change what the initial rules are, nor does it matter which stand for a machine
module _ (bodies : List (Result RowValue Fault)) (place : ℕ) where
  initial_push : (run : RowInstructions) (i : Instruction) → HasInitial bodies place run → HasInitial bodies place (push run i)
  initial_push run i h = record { row = h.row; says = h.says; rules = h.rules }

  initial_same : (start : ℕ) (m : Machine) (run other : RowInstructions) → Represents start m run → Represents start m other → HasInitial bodies place run → HasInitial bodies place other
  initial_same start m run other one rep h = record { row = h.row; says = h.says; rules = λ c. h.rules c ∙ sym (one.initial c) ∙ rep.initial c }

-- how far a location is from a start, by words
pub far_from : (start there here : ℕ) → there ≡ here → start ≤ here → here < 2 ^ 64 → (there + (2 ^ 64 - start)) % 2 ^ 64 ≡ here - start
far_from start there here same ahead below = ap (λ (n : ℕ). (n + (2 ^ 64 - start)) % 2 ^ 64) same ∙ omega arith

-- the body at a place where a machine's row stands is what it ends with
pub last_there : (bodies : List (Result RowValue Fault)) (place : ℕ) (m : Machine) (at : IsStateAt bodies place m.state) (start : ℕ) (run : RowInstructions) → Represents start m run → IsLast run (kept_answer (Ok at.cfa) m.state.rules m.state.saved_args_size)
last_there bodies place m at start run rep = record {
  cfa = sym rep.state.cfa ∙ ap (option_map cfa_meaning) at.has;
  rules = rep.state.rules;
  arguments = rep.state.arguments;
}

module _ (start end : ℕ) (common own : Program) (old : KeptRows) where
  -- an instruction that doesn't lead on leaves the rows as they are
  pub adding_still : (here : ℕ) (now : RowInstructions) (q r : Program) (i : Instruction) (table : KeptRows) → IsAdding start end common own old here now q table → BeginsWith q i r → IsStill (location start now.own) i → fault_of start now i ≡ None → IsAdding start end common own old here (push now i) r table
  adding_still here now q r i table a begins still fine =
      let u = further start now q now q (begun start now q) i r begins still fine in
      let at = a.stands in
      record {
        by = a.by;
        stands = a.stands ∙ sym u.here;
        ahead = a.ahead;
        below = a.below;
        listed = ap (λ ls. map location_of (done start end common own old a.by) ++ here ∷ ls) (sym (u.same end)) ∙ a.listed;
        stays = λ pc le. a.stays pc le ∙ u.stays pc (omega arith);
        rows = a.rows;
        kept = a.kept;
        row_count = a.row_count;
        counted = a.counted;
      }

  module _ (k : Coding) (bodies : List (Result RowValue Fault)) (rows : List TableRow) where
    pub ran_on : (s new : Walker) (r : IsRunning start end common own old k bodies rows s) → TakesTurn bodies k start r.now r.left turn.Ran new → new.location ≡ s.location → new.first ≡ s.first → new.rule_count ≡ s.rule_count → IsRunning start end common own old k bodies rows new
    ran_on s new r t here same rules = record {
      now = push r.now t.takes.by;
      left = t.rest;
      machine = t.machine;
      adding = subst (λ (l : ℕ). IsAdding start end common own old l (push r.now t.takes.by) t.rest (table_with old bodies rows new.rule_count)) (sym here)
          (subst (λ (n : ℕ). IsAdding start end common own old s.location (push r.now t.takes.by) t.rest (table_with old bodies rows n)) (sym rules)
          (adding_still s.location r.now r.left t.rest t.takes.by _ r.adding t.takes.first t.takes.moves.0 t.takes.moves.1));
      represents = t.takes.moves.2;
      stands = t.stands;
      initial = subst (λ (p : ℕ). HasInitial bodies p (push r.now t.takes.by)) (sym same) (initial_push bodies s.first r.now t.takes.by r.initial);
      bytes = t.left;
      movable = λ m. r.movable (t.movable m);
    }

    -- a row is added
    module _ (row : TableRow) (s new : Walker) (next n : ℕ) (first : RowInstructions) (ran : outcome 0 None (from_common []) common ≡ Ok first) (r : IsRunning start end common own old k bodies rows s) (t : TakesTurn bodies k start r.now r.left (turn.LeadsOn next) new)
        (here : new.location ≡ s.location) (far : row.distance ≡ s.location - start) (body : row.body ≡ new.place) (count : n ≡ answer_rule_count (get_or bodies new.place (Err NoCfaRegister))) (ascends : Ascends (get_or bodies new.place (Err NoCfaRegister))) where
      abbrev answer : Result RowValue Fault
      answer = kept_answer (Ok t.stands.state.cfa) t.machine.state.rules t.machine.state.saved_args_size

      abbrev table : KeptRows
      table = table_with old bodies rows s.rule_count

      abbrev pub more : KeptRows
      more = table_with old bodies (rows ++ row ∷ []) (s.rule_count + n)

      said : get_or bodies new.place (Err NoCfaRegister) ≡ answer
      said = t.stands.state.says.there (Err NoCfaRegister)

      kept_row : kept_in bodies row ≡ record { location = s.location - start; answer = answer }
      kept_row =
          ap (λ (d : ℕ). let kept : Kept = record { location = d; answer = get_or bodies row.body (Err NoCfaRegister) } in kept) far
          ∙ ap (λ (b : ℕ). let kept : Kept = record { location = s.location - start; answer = get_or bodies b (Err NoCfaRegister) } in kept) body
          ∙ ap (λ (a : Result RowValue Fault). let kept : Kept = record { location = s.location - start; answer = a } in kept) said

      pushed_row : IsPushed (limits_of more) (s.location - start) answer (answer_rule_count answer) table more
      pushed_row =
          let stand = ap length r.adding.kept in
          let m = length-append old.rows r.adding.by in
          let l = length-map rows (kept_in bodies) in
          let o = length-append rows (row ∷ []) in
          let c = count ∙ ap answer_rule_count said in
          record {
            rows = map-append (kept_in bodies) rows (row ∷ []) ∙ ap (λ (x : Kept). map (kept_in bodies) rows ++ x ∷ []) kept_row;
            row_count = omega arith;
            rule_count = omega arith;
            rows_fit = omega arith;
            rules_fit = omega arith;
          }

      keeps : Keeps (limits_of more) (s.location - start) (Ok (Some next)) t.machine table (Ok true) more
      keeps = (answer, λ start run rep. last_there bodies new.place t.machine t.stands.state start run rep, record { pushes = pushed_row; ascends = subst Ascends said ascends })

      stretch : IsStretch start r.now r.left next t.machine t.rest
      stretch = leads_further start r.now r.left r.now r.left (begun start r.now r.left) t.takes.by next t.rest t.machine t.takes.first t.takes.moves.3 t.takes.moves.0 t.takes.moves.1 t.takes.moves.2

      pub led_past : end ≤ next → IsAppended start end common own old (limits_of more) more
      led_past past = kept_past start end common own old first ran s.location r.now r.left table r.adding (limits_of more) t.machine t.rest more next stretch keeps past

      pub led_further : (then : Walker) → next < end → then.location ≡ next → then.place ≡ new.place → then.remembered ≡ new.remembered → then.first ≡ s.first → then.rule_count ≡ s.rule_count + n → then.rest.now ≡ new.rest.now → IsRunning start end common own old k bodies (rows ++ row ∷ []) then
      led_further then inside there place memory same rules bytes = record {
        now = push stretch.now stretch.by;
        left = t.rest;
        machine = record t.machine { location = next };
        adding = subst (λ (l : ℕ). IsAdding start end common own old l (push stretch.now stretch.by) t.rest (table_with old bodies (rows ++ row ∷ []) then.rule_count)) (sym there)
            (subst (λ (n : ℕ). IsAdding start end common own old next (push stretch.now stretch.by) t.rest (table_with old bodies (rows ++ row ∷ []) n)) (sym rules)
            (kept_on start end common own old first ran s.location r.now r.left table r.adding (limits_of more) t.machine t.rest more next stretch keeps inside));
        represents = led_on start next t.machine (record t.machine { location = next }) stretch.now stretch.by stretch.represents stretch.leads (let same = stretch.stands in let ahead = stretch.ahead in omega arith) refl refl refl refl;
        stands = record {
          here = sym there;
          state = subst (λ p. IsStateAt bodies p t.machine.state) (sym place) t.stands.state;
          remembered = subst (λ p. IsMemoryAt bodies p t.machine.remembered) (sym memory) t.stands.remembered;
        };
        initial = subst (λ (p : ℕ). HasInitial bodies p (push stretch.now stretch.by)) (sym same)
            (initial_push bodies s.first stretch.now stretch.by (initial_same bodies s.first start t.machine r.now stretch.now t.takes.moves.3 stretch.represents r.initial));
        bytes = subst (λ (b : List ℕ). IsLeft k b t.rest) (sym bytes) t.left;
        movable = λ m. r.movable (t.movable m);
      }

    -- no bytes are left: the last row is added
    module _ (row : TableRow) (s : Walker) (n : ℕ) (first : RowInstructions) (ran : outcome 0 None (from_common []) common ≡ Ok first) (r : IsRunning start end common own old k bodies rows s) (none : s.rest.now ≡ [])
        (far : row.distance ≡ s.location - start) (body : row.body ≡ s.place) (count : n ≡ answer_rule_count (get_or bodies s.place (Err NoCfaRegister))) (ascends : Ascends (get_or bodies s.place (Err NoCfaRegister))) where
      abbrev last_answer : Result RowValue Fault
      last_answer = kept_answer (Ok r.stands.state.cfa) r.machine.state.rules r.machine.state.saved_args_size

      abbrev so_far : KeptRows
      so_far = table_with old bodies rows s.rule_count

      abbrev pub whole_table : KeptRows
      whole_table = table_with old bodies (rows ++ row ∷ []) (s.rule_count + n)

      last_said : get_or bodies s.place (Err NoCfaRegister) ≡ last_answer
      last_said = r.stands.state.says.there (Err NoCfaRegister)

      last_row : kept_in bodies row ≡ record { location = s.location - start; answer = last_answer }
      last_row =
          ap (λ (d : ℕ). let kept : Kept = record { location = d; answer = get_or bodies row.body (Err NoCfaRegister) } in kept) far
          ∙ ap (λ (b : ℕ). let kept : Kept = record { location = s.location - start; answer = get_or bodies b (Err NoCfaRegister) } in kept) body
          ∙ ap (λ (a : Result RowValue Fault). let kept : Kept = record { location = s.location - start; answer = a } in kept) last_said

      pushed_last : IsPushed (limits_of whole_table) (s.location - start) last_answer (answer_rule_count last_answer) so_far whole_table
      pushed_last =
          let stand = ap length r.adding.kept in
          let m = length-append old.rows r.adding.by in
          let l = length-map rows (kept_in bodies) in
          let o = length-append rows (row ∷ []) in
          let c = count ∙ ap answer_rule_count last_said in
          record {
            rows = map-append (kept_in bodies) rows (row ∷ []) ∙ ap (λ (x : Kept). map (kept_in bodies) rows ++ x ∷ []) last_row;
            row_count = omega arith;
            rule_count = omega arith;
            rows_fit = omega arith;
            rules_fit = omega arith;
          }

      keeps_last : Keeps (limits_of whole_table) (s.location - start) (Ok None) r.machine so_far (Ok true) whole_table
      keeps_last = (last_answer, λ start run rep. last_there bodies s.place r.machine r.stands.state start run rep, record { pushes = pushed_last; ascends = subst Ascends last_said ascends })

      nothing : r.left ≡ record { instructions = []; fault = None }
      nothing = none_left k r.left (subst (λ (b : List ℕ). IsLeft k b r.left) none r.bytes)

      last_stretch : IsLastStretch start r.now r.left r.machine
      last_stretch = ends start r.now r.left r.now r.left (begun start r.now r.left) r.machine nothing r.represents

      pub ended_appended : IsAppended start end common own old (limits_of whole_table) whole_table
      ended_appended = kept_at_end start end common own old first ran s.location r.now r.left so_far r.adding (limits_of whole_table) r.machine r.left whole_table last_stretch keeps_last

      pub ended_whole : IsKeptWhole start end common own old s.location whole_table
      ended_whole = kept_whole start end common own old first ran s.location r.now r.left so_far r.adding (limits_of whole_table) r.machine r.left whole_table last_stretch keeps_last

      pub ended_movable : IsMovable own
      ended_movable = r.movable (movable_none r.left nothing)

-- ---- bodies grow

module _ (old new : List (Result RowValue Fault)) (g : Grows old new) where
  pub bodied_longer : (rows : List TableRow) → AllByRecursion (HasBody old) rows → AllByRecursion (HasBody new) rows
  bodied_longer [] all = tt
  bodied_longer (k ∷ ks) all = (within_longer old new g k.body all.0, bodied_longer ks all.1)

  pub kept_same : (rows : List TableRow) → AllByRecursion (HasBody old) rows → map (kept_in old) rows ≡ map (kept_in new) rows
  kept_same [] all = refl
  kept_same (k ∷ ks) all =
      ap (λ (a : Result RowValue Fault). let kept : Kept = record { location = k.distance; answer = a } in kept ∷ map (kept_in old) ks) (sym (at_longer old new g k.body (Err NoCfaRegister) all.0))
      ∙ ap (λ l. kept_in new k ∷ l) (kept_same ks all.1)

  memory_longer : (o : Option ℕ) (r : Option RowState) → IsMemoryAt old o r → IsMemoryAt new o r
  memory_longer None None is = tt
  memory_longer (Some p) (Some s) is = state_longer old new g p s is
  memory_longer None (Some s) is = absurd is
  memory_longer (Some p) None is = absurd is

  pub running_longer : (start end : ℕ) (common own : Program) (table : KeptRows) (k : Coding) (rows : List TableRow) (s : Walker) → AllByRecursion (HasBody old) rows → IsRunning start end common own table k old rows s → IsRunning start end common own table k new rows s
  running_longer start end common own table k rows s all r = record {
    now = r.now;
    left = r.left;
    machine = r.machine;
    adding = subst (λ (l : List Kept). IsAdding start end common own table s.location r.now r.left (record { rows = l; row_count = table.row_count + (length rows - length table.rows); rule_count = s.rule_count })) (kept_same rows all) r.adding;
    represents = r.represents;
    stands = record { here = r.stands.here; state = state_longer old new g s.place r.machine.state r.stands.state; remembered = memory_longer s.remembered r.machine.remembered r.stands.remembered };
    initial = initial_longer old new g s.first r.now r.initial;
    bytes = r.bytes;
    movable = r.movable;
  }

  within_some : (o : Option ℕ) → IfSome o (λ place. place < length old) → IfSome o (λ place. place < length new)
  within_some None w = tt
  within_some (Some p) w = within_longer old new g p w

  pub within_on : (s : Walker) → IsWithin old s → IsWithin new s
  within_on s w = (within_longer old new g s.place w.0, within_longer old new g s.first w.1, within_some s.remembered w.2)

pub grows_on : (a b c : List (Result RowValue Fault)) → Grows a b → Grows b c → Grows a c
grows_on a b c first second = record {
  more = first.more ++ second.more;
  grown = second.grown ∙ ap (λ l. l ++ second.more) first.grown ∙ append_assoc a first.more second.more;
}
