-- What a table has once a program has run from body to body.
use Rattle.std.proofs.Common.{◌≡◌, ℕ, ◌+◌, ◌-◌, ◌<◌, ◌≤◌, List, [], ◌++◌, length, map, take, drop, Option, Some, None, Result, Ok, refl, sym, ap, ◌∙◌, subst, arith}
use Rattle.std.specs.Option.{option_map}
use Rattle.std.specs.List.{AllByRecursion}
use Rattle.std.specs.Option.{unwrap_or}
use Rattle.std.proofs.lemmas.List.{append-nil, length-map, map-append, take-append-drop}
use Rattle.std.proofs.Math.Seq.{take-length}
use Rattle.unwind_definitions.specs.declared.error.Error.{Error as Fault}
use Rattle.unwind_definitions.specs.Input.{Input}
use Rattle.unwind_definitions.specs.Instructions.{Coding, Instruction, Program, Rule, program}
use Rattle.unwind_definitions.specs.Row.{CfaRule, RowInstructions, argument_size, arguments, cfa_of, cfa_rule, from_common, kept_instructions, last_said}
use Rattle.frame_rows.specs.Adding.{IsAdding, IsAppended, IsKeptWhole}
use Rattle.frame_rows.specs.Bodies.{Grows, Says}
use Rattle.frame_rows.specs.BodyRuns.{IsRunning, limits_of, table_with}
use Rattle.frame_rows.specs.BodySteps.{HasInitial, IsStateAt}
use Rattle.frame_rows.specs.KeptRows.{IsLonger, Kept, KeptRows}
use Rattle.frame_rows.specs.RowValue.{RowValue}
use Rattle.frame_rows.specs.Rows.{IsRowOf}
use Rattle.frame_rows.specs.Rules.{cfa_meaning, rule_in}
use Rattle.frame_rows.specs.Running.{IsStateOf, Represents, outcome, whole}
use Rattle.frame_rows.specs.TableRows.{HasBody, kept_in}
use Rattle.frame_rows.specs.declared.body_run.BodyRun.{BodyRun as Walker}
use Rattle.frame_rows.specs.declared.machine.Machine.{Machine}
use Rattle.frame_rows.specs.declared.machine.RowState.{RowState}
use Rattle.frame_rows.specs.declared.row_table.RowLimits.{RowLimits}
use Rattle.frame_rows.specs.declared.row_table.TableRow.{TableRow}
use Rattle.frame_rows.specs.declared.rule.CfaRule.{CfaRule as CodedCfa}
use Rattle.frame_rows.proofs.Adding.{begin}
use Rattle.frame_rows.proofs.Pushed.{closed_at_start}
use Rattle.frame_rows.proofs.RunSteps.{kept_same}
use Rattle.frame_rows.proofs.SliceReading.{all_left}

coded : (o : Option CodedCfa) (r : CfaRule) → option_map cfa_meaning o ≡ Some r → (c : CodedCfa) × (o ≡ Some c) × (cfa_meaning c ≡ r)
coded None r is = absurd cc
coded (Some c) r is = (c, refl, some_same (cfa_meaning c) r is)
  where
    or_this : Option CfaRule → CfaRule
    or_this None = r
    or_this (Some x) = x

    some_same : (a b : CfaRule) → (let o : Option CfaRule = Some a in o) ≡ Some b → a ≡ b
    some_same a b same = cc

-- a machine that begins a description's program where a common information entry's ended
abbrev pub standing : ℕ → RowState → Machine
standing start state = record { remembered = None; location = start; state = state; initial = state.rules; rules_of = None; remembered_rules_of = None }

module _ (state : RowState) (common : Program) (is : IsStateOf state (whole common.instructions)) where
  cfa_alone : cfa_rule (whole common.instructions) ≡ cfa_rule (from_common common.instructions)
  cfa_alone = ap cfa_of (sym (append-nil (kept_instructions common.instructions)))

  size_alone : argument_size (whole common.instructions) ≡ argument_size (from_common common.instructions)
  size_alone = ap (λ (is : List Instruction). unwrap_or (last_said arguments is) 0) (sym (append-nil (kept_instructions common.instructions)))

  pub stands_begun : (start : ℕ) → Represents start (standing start state) (from_common common.instructions)
  stands_begun start = record {
    here = refl;
    state = record { cfa = is.cfa ∙ cfa_alone; rules = is.rules; arguments = is.arguments ∙ size_alone };
    opened = refl;
    remembered = closed_at_start;
    initial = is.rules;
  }

  -- a row that says what the state does is what the entry's program ended with
  pub row_begun : (row : RowValue) → option_map cfa_meaning state.cfa ≡ Some row.cfa → row.rules ≡ state.rules → row.saved_args_size ≡ state.saved_args_size → IsRowOf row (from_common common.instructions)
  row_begun row cfa rules size = record {
    cfa = sym cfa_alone ∙ sym is.cfa ∙ cfa;
    rules = λ c. ap (λ (es : List (ℕ × Rule)). rule_in es c) rules ∙ is.rules c;
    arguments = size ∙ is.arguments ∙ size_alone;
  }

module _ (old new : List (Result RowValue Fault)) (g : Grows old new) (rows : List TableRow) (all : AllByRecursion (HasBody old) rows) (row_count rule_count : ℕ) where
  abbrev pub before : KeptRows
  before = record { rows = map (kept_in old) rows; row_count = row_count; rule_count = rule_count }

  -- nothing is added yet
  pub table_same : table_with before new rows rule_count ≡ before
  table_same =
      let n = length-map rows (kept_in old) in
      let same : row_count + (length rows - length (map (kept_in old) rows)) ≡ row_count = omega arith in
      ap (λ (l : List Kept). let t : KeptRows = record { rows = l; row_count = row_count + (length rows - length (map (kept_in old) rows)); rule_count = rule_count } in t) (sym (kept_same old new g rows all))
      ∙ ap (λ (c : ℕ). let t : KeptRows = record { rows = map (kept_in old) rows; row_count = c; rule_count = rule_count } in t) same

  module _ (start end : ℕ) (common : Program) (k : Coding) (own : Input) (first : RowInstructions) (ran : outcome 0 None (from_common []) common ≡ Ok first) (some : start < end) (m : Machine) (rep : Represents start m (from_common common.instructions))
      (row : RowValue) (is : IsRowOf row (from_common common.instructions)) (s : Walker) (there : Says new s.place (Ok row)) (begun : s.first ≡ s.place) (here : s.location ≡ start) (free : s.remembered ≡ None) (rest : s.rest.now ≡ own.bytes) (rules : s.rule_count ≡ rule_count) where
    -- a machine whose row is the one that is given
    stood : Machine
    stood = record m { state = record { cfa = m.state.cfa; rules = row.rules; saved_args_size = row.saved_args_size }; remembered = None }

    pub begins_run : IsRunning start end common (program k own) before k new rows s
    unfolding stood
    begins_run =
        let c = coded m.state.cfa row.cfa (rep.state.cfa ∙ is.cfa) in
        record {
          now = from_common common.instructions;
          left = program k own;
          machine = stood;
          adding = subst (λ (l : ℕ). IsAdding start end common (program k own) before l (from_common common.instructions) (program k own) (table_with before new rows s.rule_count)) (sym here)
              (subst (λ (n : ℕ). IsAdding start end common (program k own) before start (from_common common.instructions) (program k own) (table_with before new rows n)) (sym rules)
              (subst (λ (t : KeptRows). IsAdding start end common (program k own) before start (from_common common.instructions) (program k own) t) (sym table_same) (begin start end common (program k own) before first some ran)));
          represents = record {
            here = rep.here;
            state = record { cfa = rep.state.cfa; rules = is.rules; arguments = is.arguments };
            opened = refl;
            remembered = closed_at_start;
            initial = rep.initial;
          };
          stands = record {
            here = rep.here ∙ sym here;
            state = record {
              cfa = c.0;
              has = c.1;
              says = subst (λ (r : CfaRule). Says new s.place (Ok (record { cfa = r; rules = row.rules; saved_args_size = row.saved_args_size }))) (sym c.2) there;
            };
            remembered = subst (λ (o : Option ℕ). Rattle.frame_rows.specs.BodySteps.IsMemoryAt new o None) (sym free) tt;
          };
          initial = subst (λ (p : ℕ). HasInitial new p (from_common common.instructions)) (sym begun) (record { row = row; says = there; rules = is.rules });
          bytes = subst (λ (b : List ℕ). Rattle.frame_rows.specs.Stepping.IsLeft k b (program k own)) (sym rest) (all_left k own);
          movable = λ m. m;
        }

  -- rows were added
  pub fits_in : (start end : ℕ) (common own : Program) (limits : RowLimits) (now : List TableRow) (count rules : ℕ) → IsAppended start end common own before (limits_of (table_with before new now rules)) (table_with before new now rules) → count ≡ row_count + (length now - length rows) → count ≤ limits.rows → rules ≤ limits.rules →
      IsAppended start end common own before limits (record { rows = map (kept_in new) now; row_count = count; rule_count = rules })
  fits_in start end common own limits now count rules a is rows_fit rules_fit =
      let n = length-map rows (kept_in old) in
      let c = a.row_count in
      record {
        by = a.by;
        of = a.of;
        rows = a.rows;
        row_count = omega arith;
        rule_count = a.rule_count;
        rows_fit = rows_fit;
        rules_fit = rules_fit;
      }

  pub whole_in : (start end : ℕ) (common own : Program) (here : ℕ) (now : List TableRow) (count rules : ℕ) → IsKeptWhole start end common own before here (table_with before new now rules) → IsKeptWhole start end common own before here (record { rows = map (kept_in new) now; row_count = count; rule_count = rules })
  whole_in start end common own here now count rules w = record { by = w.by; locations = w.locations; rows = w.rows; stand = w.stand; counted = w.counted; last = w.last }

  -- what was added is taken away again
  pub none_added : (now : List TableRow) → now ≡ take (length rows) rows → (record { rows = map (kept_in new) now; row_count = row_count; rule_count = rule_count }) ≡ before
  none_added now is =
      ap (λ (l : List TableRow). let t : KeptRows = record { rows = map (kept_in new) l; row_count = row_count; rule_count = rule_count } in t) (is ∙ take-length rows)
      ∙ ap (λ (l : List Kept). let t : KeptRows = record { rows = l; row_count = row_count; rule_count = rule_count } in t) (sym (kept_same old new g rows all))

  pub longer_by : (now : List TableRow) → take (length rows) now ≡ take (length rows) rows → IsLonger (map (kept_in old) rows) (map (kept_in new) now)
  longer_by now is = record {
    more = map (kept_in new) (drop (length rows) now);
    grown = ap (map (kept_in new)) (sym (take-append-drop (length rows) now)) ∙ map-append (kept_in new) (take (length rows) now) (drop (length rows) now)
        ∙ ap (λ l. map (kept_in new) l ++ map (kept_in new) (drop (length rows) now)) (is ∙ take-length rows)
        ∙ ap (λ l. l ++ map (kept_in new) (drop (length rows) now)) (sym (kept_same old new g rows all));
  }
