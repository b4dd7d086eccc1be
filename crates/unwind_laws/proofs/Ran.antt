-- Running a program says what the row says, where no fault is met.
use Rattle.std.proofs.Common.{◌≡◌, ℕ, Bool, true, false, cond, List, [], ◌∷◌, ◌++◌, Option, Some, None, refl, sym, ap, subst, ◌∙◌, append_assoc}
use Rattle.std.specs.Prelude.{◌==◌, MatchOption, not}
use Rattle.std.specs.Option.{option_or, unwrap_or}
use Rattle.std.proofs.lemmas.List.{append-nil}
use Rattle.std.proofs.lemmas.Bool.{eqb-true}
use Rattle.unwind_definitions.specs.declared.error.Error.{Error as Fault}
use Rattle.unwind_definitions.specs.declared.error.Error.TheVariants.{NoCfaRegister, StackFull, PopWithEmptyStack}
use Rattle.unwind_definitions.specs.Instructions.{Rule, Instruction, Nop, Remember, Restore, Advance, SetLocation, Write, Reset, Cfa, CfaColumn, CfaOffset, CfaExpression, Arguments}
use Rattle.unwind_definitions.specs.Row.{RowInstructions, CfaRule, ColumnAndOffset, ByExpression, rule_of, initial_rule, cfa_rule, cfa_of, arguments, says_of, remembers, is_open, has_column, fault_of, fault_where, first_fault, from_common, kept_instructions, last_said}
use Rattle.unwind_laws.specs.Reached.{push}
use Rattle.unwind_laws.specs.Running.{Running, Memory, nothing, with_cfa_column, with_cfa_offset, row_after, restored_from, run_one, run_all, fresh, after_common, after_both, SaysRow, HasNoFault}
use Rattle.unwind_laws.proofs.Push.{IsPlain, rule_push, cfa_whole, cfa_partial, cfa_same, cfa_by_column, cfa_by_expression, arguments_push}
use Rattle.unwind_laws.proofs.Remember.{SaysSame, remember_same, remember_restores, plain_restores, open_push}

-- ---- one instruction
chosen : (b : Bool) (x y : Option Rule) → cond b x y ≡ unwrap_or (cond b (Some x) None) y
chosen true x y = refl
chosen false x y = refl

rules_after : (initial : ℕ → Option Rule) (i : Instruction) (now : Running) (c : ℕ) → (row_after initial i now).rules c ≡ unwrap_or (says_of (initial c) c i) (now.rules c)
rules_after initial Nop now c = refl
rules_after initial Remember now c = refl
rules_after initial Restore now c = refl
rules_after initial (Advance n) now c = refl
rules_after initial (SetLocation n) now c = refl
rules_after initial (Write k r) now c = chosen (k == c) (Some r) (now.rules c)
rules_after initial (Reset k) now c = at_column k c
  where
    at_column : (k c : ℕ) → cond (k == c) (initial k) (now.rules c) ≡ unwrap_or (cond (k == c) (Some (initial c)) None) (now.rules c)
    at_column k c = go (k == c) refl
      where
        go : (b : Bool) → (k == c) ≡ b → cond b (initial k) (now.rules c) ≡ unwrap_or (cond b (Some (initial c)) None) (now.rules c)
        go true e = ap initial (eqb-true k c e)
        go false e = refl
rules_after initial (Cfa k n) now c = refl
rules_after initial (CfaColumn k) now c = refl
rules_after initial (CfaOffset n) now c = refl
rules_after initial (CfaExpression b) now c = refl
rules_after initial (Arguments n) now c = refl

-- the CFA has a column, where no fault says that it hasn't
pub record AtColumn (o : Option CfaRule) : Type 0 where
  pub column : ℕ
  pub offset : ℕ
  pub is : o ≡ Some (ColumnAndOffset column offset)

with_column : (o : Option CfaRule) → fault_where (not (has_column o)) NoCfaRegister ≡ None → AtColumn o
with_column None e = absurd cc
with_column (Some (ColumnAndOffset c n)) e = record { column = c; offset = n; is = refl }
with_column (Some (ByExpression b)) e = absurd cc

-- what is known of a row, before an instruction that meets no fault
module _ (start : ℕ) (initial : ℕ → Option Rule) (run : RowInstructions) (same : (c : ℕ) → initial c ≡ initial_rule run c) (now : Running) (says : SaysRow now run) where
  rules_are : (i : Instruction) → IsPlain i → (c : ℕ) → (row_after initial i now).rules c ≡ rule_of (push run i) c
  rules_are i plain c =
      rules_after initial i now c
      ∙ ap (λ o. unwrap_or (says_of o c i) (now.rules c)) (same c)
      ∙ ap (λ o. unwrap_or (says_of (initial_rule run c) c i) o) (says.rules c)
      ∙ sym (rule_push run i c plain)

  quiet : (i : Instruction) → IsPlain i → SaysRow (row_after initial i now) (push run i) → SaysRow (row_after initial i now) (push run i)
  quiet i plain h = h

  -- an instruction that says nothing of the CFA
  no_cfa : (i : Instruction) (plain : IsPlain i) → (row_after initial i now).cfa ≡ now.cfa → cfa_rule (push run i) ≡ cfa_rule run → (row_after initial i now).arguments ≡ unwrap_or (arguments i) now.arguments → SaysRow (row_after initial i now) (push run i)
  no_cfa i plain keeps cfa size = record {
    rules = rules_are i plain;
    cfa = keeps ∙ says.cfa ∙ sym cfa;
    size = size ∙ ap (unwrap_or (arguments i)) says.size ∙ sym (arguments_push run i plain);
  }

  -- one that says nothing of the arguments
  new_cfa : (i : Instruction) (plain : IsPlain i) → (row_after initial i now).cfa ≡ cfa_rule (push run i) → (row_after initial i now).arguments ≡ unwrap_or (arguments i) now.arguments → SaysRow (row_after initial i now) (push run i)
  new_cfa i plain cfa size = record { rules = rules_are i plain; cfa = cfa; size = size ∙ ap (unwrap_or (arguments i)) says.size ∙ sym (arguments_push run i plain) }

  by_column : (c : ℕ) → AtColumn (cfa_rule run) → with_cfa_column c now.cfa ≡ cfa_rule (push run (CfaColumn c))
  by_column c at = ap (with_cfa_column c) (says.cfa ∙ at.is) ∙ sym (cfa_by_column run c at.column at.offset at.is)

  by_offset : (n : ℕ) → AtColumn (cfa_rule run) → with_cfa_offset n now.cfa ≡ cfa_rule (push run (CfaOffset n))
  by_offset n at = ap (with_cfa_offset n) (says.cfa ∙ at.is) ∙ sym (cfa_partial run at.column at.offset n at.is)

  -- what an instruction makes of the row that says what the run says
  says_after : (i : Instruction) → IsPlain i → remembers i ≡ None → fault_of start run i ≡ None → SaysRow (row_after initial i now) (push run i)
  says_after Remember plain other fine = absurd cc
  says_after Restore plain other fine = absurd cc
  says_after Nop plain other fine = no_cfa Nop plain refl (cfa_same run Nop plain refl refl refl) refl
  says_after (Advance n) plain other fine = no_cfa (Advance n) plain refl (cfa_same run (Advance n) plain refl refl refl) refl
  says_after (SetLocation n) plain other fine = no_cfa (SetLocation n) plain refl (cfa_same run (SetLocation n) plain refl refl refl) refl
  says_after (Write c r) plain other fine = no_cfa (Write c r) plain refl (cfa_same run (Write c r) plain refl refl refl) refl
  says_after (Reset c) plain other fine = no_cfa (Reset c) plain refl (cfa_same run (Reset c) plain refl refl refl) refl
  says_after (Cfa c n) plain other fine = new_cfa (Cfa c n) plain (sym (cfa_whole run c n)) refl
  says_after (CfaColumn c) plain other fine = new_cfa (CfaColumn c) plain (by_column c (with_column (cfa_rule run) fine)) refl
  says_after (CfaOffset n) plain other fine = new_cfa (CfaOffset n) plain (by_offset n (with_column (cfa_rule run) fine)) refl
  says_after (CfaExpression b) plain other fine = new_cfa (CfaExpression b) plain (sym (cfa_by_expression run b)) refl
  says_after (Arguments n) plain other fine = no_cfa (Arguments n) plain refl (cfa_same run (Arguments n) plain refl refl refl) refl

-- ---- with the remembered row
abbrev SavedSays : Option Running → RowInstructions → Type 0
SavedSays saved run = MatchOption saved (is_open run.own ≡ false) (λ r. (is_open run.own ≡ true) × SaysRow r (push run Restore))

pub record Stands (m : Memory) (run : RowInstructions) : Type 0 where
  pub now : SaysRow m.now run
  pub saved : SavedSays m.saved run

moved : (r : Running) (a b : RowInstructions) → SaysRow r a → SaysSame b a → SaysRow r b
moved r a b says same = record { rules = λ c. says.rules c ∙ sym (same.rules c); cfa = says.cfa ∙ sym same.cfa; size = says.size ∙ sym same.arguments_are }

saved_after : (saved : Option Running) (run : RowInstructions) (i : Instruction) → remembers i ≡ None → SavedSays saved run → SavedSays saved (push run i)
saved_after None run i other says = open_push run.own i ∙ ap (λ o. unwrap_or o (is_open run.own)) other ∙ says
saved_after (Some r) run i other says = (open_push run.own i ∙ ap (λ o. unwrap_or o (is_open run.own)) other ∙ says.0, moved r (push run Restore) (push (push run i) Restore) says.1 (plain_restores run i other says.0))

closed_of : (b : Bool) → fault_where b StackFull ≡ None → b ≡ false
closed_of true e = absurd cc
closed_of false e = refl

opened_of : (b : Bool) → fault_where (not b) PopWithEmptyStack ≡ None → b ≡ true
opened_of true e = refl
opened_of false e = absurd cc

module _ (start : ℕ) (initial : ℕ → Option Rule) where
  plain_step : (run : RowInstructions) (m : Memory) (i : Instruction) → IsPlain i → remembers i ≡ None → fault_of start run i ≡ None → ((c : ℕ) → initial c ≡ initial_rule run c) → Stands m run → Stands (record m { now = row_after initial i m.now }) (push run i)
  plain_step run m i plain other fine same st = record { now = says_after start initial run same m.now st.now i plain other fine; saved = saved_after m.saved run i other st.saved }

  remember_step : (run : RowInstructions) (m : Memory) → fault_of start run Remember ≡ None → Stands m run → Stands (record { now = m.now; saved = Some m.now }) (push run Remember)
  remember_step run m fine st =
      let closed = closed_of (is_open run.own) fine in
      record { now = moved m.now run (push run Remember) st.now (remember_same run); saved = (open_push run.own Remember, moved m.now run (push (push run Remember) Restore) st.now (remember_restores run closed)) }

  restore_step : (run : RowInstructions) (now : Running) (saved : Option Running) → fault_of start run Restore ≡ None → SavedSays saved run → Stands (record { now = restored_from now saved; saved = None }) (push run Restore)
  restore_step run now None fine says = let opened = opened_of (is_open run.own) fine in absurd cc
  restore_step run now (Some r) fine says = record { now = says.1; saved = open_push run.own Restore }

  one_step : (run : RowInstructions) (m : Memory) (i : Instruction) → fault_of start run i ≡ None → ((c : ℕ) → initial c ≡ initial_rule run c) → Stands m run → Stands (run_one initial i m) (push run i)
  one_step run m Remember fine same st = remember_step run m fine st
  one_step run m Restore fine same st = restore_step run m.now m.saved fine st.saved
  one_step run m Nop fine same st = plain_step run m Nop (record { alone = refl }) refl fine same st
  one_step run m (Advance n) fine same st = plain_step run m (Advance n) (record { alone = refl }) refl fine same st
  one_step run m (SetLocation n) fine same st = plain_step run m (SetLocation n) (record { alone = refl }) refl fine same st
  one_step run m (Write c r) fine same st = plain_step run m (Write c r) (record { alone = refl }) refl fine same st
  one_step run m (Reset c) fine same st = plain_step run m (Reset c) (record { alone = refl }) refl fine same st
  one_step run m (Cfa c n) fine same st = plain_step run m (Cfa c n) (record { alone = refl }) refl fine same st
  one_step run m (CfaColumn c) fine same st = plain_step run m (CfaColumn c) (record { alone = refl }) refl fine same st
  one_step run m (CfaOffset n) fine same st = plain_step run m (CfaOffset n) (record { alone = refl }) refl fine same st
  one_step run m (CfaExpression b) fine same st = plain_step run m (CfaExpression b) (record { alone = refl }) refl fine same st
  one_step run m (Arguments n) fine same st = plain_step run m (Arguments n) (record { alone = refl }) refl fine same st

  neither : (a b : Option Fault) → option_or a b ≡ None → (a ≡ None) × (b ≡ None)
  neither None b e = (refl, e)
  neither (Some x) b e = absurd cc

  all_steps : (is : List Instruction) (run : RowInstructions) (m : Memory) → first_fault start run is ≡ None → ((c : ℕ) → initial c ≡ initial_rule run c) → Stands m run → Stands (run_all initial is m) (record run { own = run.own ++ is })
  all_steps [] run m fine same st = subst (λ (o : List Instruction). Stands m (record run { own = o })) (sym (append-nil run.own)) st
  all_steps (i ∷ is) run m fine same st =
      let both = neither (fault_of start run i) (first_fault start (push run i) is) fine in
      subst (λ (o : List Instruction). Stands (run_all initial (i ∷ is) m) (record run { own = o })) (append_assoc run.own (i ∷ []) is) (all_steps is (push run i) (run_one initial i m) both.1 same (one_step run m i both.0 same st))

-- ---- both programs
common_says : (common : List Instruction) → first_fault 0 (from_common []) common ≡ None → SaysRow (after_common common) (record { common = []; own = common })
common_says common fine = (all_steps 0 (λ c. None) common (from_common []) (fresh nothing) fine (λ c. refl) (record { now = record { rules = λ c. refl; cfa = refl; size = refl }; saved = refl })).now

-- the common program's rules are the initial ones
begins : (common : List Instruction) → SaysRow (after_common common) (record { common = []; own = common }) → SaysRow (after_common common) (from_common common)
begins common says = record {
  rules = says.rules;
  cfa = says.cfa ∙ sym (ap cfa_of (append-nil (kept_instructions common)));
  size = says.size ∙ sym (ap (λ (is : List Instruction). unwrap_or (last_said arguments is) 0) (append-nil (kept_instructions common)));
}

-- Running both programs says what the row says.
pub running_says : (start : ℕ) (common own : List Instruction) → HasNoFault start common own → SaysRow (after_both common own) (record { common = common; own = own })
running_says start common own fine =
    let first = begins common (common_says common fine.common_runs) in
    (all_steps start (after_common common).rules own (from_common common) (fresh (after_common common)) fine.own_runs first.rules (record { now = first; saved = refl })).now
