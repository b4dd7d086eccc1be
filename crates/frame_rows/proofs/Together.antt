-- The program of a common information entry and a description's own make the row.
use Rattle.std.proofs.Common.{◌≡◌, ℕ, cond, List, [], length, Option, Some, None, Result, Ok, Err, refl, sym, ap, subst, ◌∙◌}
use Rattle.std.specs.Prelude.{is_some}
use Rattle.std.specs.Option.{option_or}
use Rattle.std.specs.Result.{result_err}
use Rattle.std.proofs.lemmas.Bool.{eq-eqb}
use Rattle.unwind_definitions.specs.declared.error.Error.{Error as Fault}
use Rattle.unwind_definitions.specs.declared.error.Error.TheVariants.{NoCfaRegister}
use Rattle.unwind_definitions.specs.Instructions.{Instruction, Program}
use Rattle.unwind_definitions.specs.Row.{RowInstructions, first_fault, up_to, or_else, common_fault, own_fault, from_common, row, cfa_rule}
use Rattle.frame_rows.specs.declared.machine.Machine.{Machine}
use Rattle.frame_rows.specs.Running.{Represents, outcome, Ends, MakesRow, RunsCommon, IsEndOf, whole}
use Rattle.frame_rows.specs.RowValue.{RowValue}
use Rattle.frame_rows.specs.Rows.{GivesRow, IsLast}

module _ {A B : Type 0} where
  stops_at : (o : Option Fault) (a : A) (e : Fault) (x : Result B Fault) → or_else o (Ok a) ≡ Err e → or_else o x ≡ Err e
  stops_at None a e x is = absurd cc
  stops_at (Some d) a e x is = let same : d ≡ e = cc in ap (λ d. let r : Result B Fault = Err d in r) same

  goes_on : (o : Option Fault) (a b : A) (x : Result B Fault) → or_else o (Ok a) ≡ Ok b → or_else o x ≡ x
  goes_on None a b x is = refl
  goes_on (Some d) a b x is = absurd cc

value_is : {A : Type 0} (o : Option Fault) (a b : A) → or_else o (Ok a) ≡ Ok b → a ≡ b
value_is None a b is = cc
value_is (Some d) a b is = absurd cc

-- what the first program ends with
common_is : (common : Program) → outcome 0 None (from_common []) common ≡ or_else (common_fault common) (Ok (whole common.instructions))
unfolding outcome
common_is common = ap (λ b. or_else (option_or (first_fault 0 (from_common []) common.instructions) (cond b common.fault None)) (Ok (whole common.instructions))) (eq-eqb (length common.instructions) (length common.instructions) refl)

pub common_run : (common : Program) (run : RowInstructions) → outcome 0 None (from_common []) common ≡ Ok run → whole common.instructions ≡ run
common_run common run is = value_is (common_fault common) (whole common.instructions) run (sym (common_is common) ∙ is)

-- what the first program leaves
pub common_ran : (common : Program) (r : Result (Unit {0}) Fault) (m : Machine) → Ends 0 r m (outcome 0 None (from_common []) common) → RunsCommon r m common
common_ran common (Ok done) m ends = (ends.0, ends.1, subst (λ run. Represents 0 m run) (sym (common_run common ends.0 ends.1)) ends.2)
common_ran common (Err e) m ends = ends

pub common_ended : (common : Program) (r : Result (Unit {0}) Fault) (m : Machine) → RunsCommon r m common → IsEndOf m.state (result_err r) common
common_ended common (Ok done) m ran = (ran.0, ran.1, ran.2.state)
common_ended common (Err e) m ran = ran

no_fault : {A : Type 0} (o : Option Fault) (a b : A) → or_else o (Ok a) ≡ Ok b → o ≡ None
no_fault None a b is = refl
no_fault (Some d) a b is = absurd cc

that_fault : {A : Type 0} (o : Option Fault) (a : A) (e : Fault) → or_else o (Ok a) ≡ Err e → o ≡ Some e
that_fault None a e is = absurd cc
that_fault (Some d) a e is = cc

pub common_fine : (common : Program) (run : RowInstructions) → outcome 0 None (from_common []) common ≡ Ok run → common_fault common ≡ None
common_fine common run is = no_fault (common_fault common) (whole common.instructions) run (sym (common_is common) ∙ is)

pub common_bad : (common : Program) (e : Fault) → outcome 0 None (from_common []) common ≡ Err e → common_fault common ≡ Some e
common_bad common e is = that_fault (common_fault common) (whole common.instructions) e (sym (common_is common) ∙ is)

module _ (start pc : ℕ) (common own : Program) where
  abbrev reached : List Instruction
  reached = up_to start pc own.instructions

  abbrev pub last : RowInstructions
  last = record { common = common.instructions; own = up_to start pc own.instructions }

  own_is : outcome start (Some pc) (from_common common.instructions) own ≡ or_else (own_fault start common.instructions own reached) (Ok last)
  unfolding outcome
  own_is = refl

  abbrev ending : Result RowInstructions Fault
  ending = cond (is_some (cfa_rule last)) (Ok last) (Err NoCfaRegister)

  pub common_stops : (e : Fault) → outcome 0 None (from_common []) common ≡ Err e → row start pc common own ≡ Err e
  common_stops e is = stops_at (common_fault common) (whole common.instructions) e (or_else (own_fault start common.instructions own reached) ending) (sym (common_is common) ∙ is)

  pub own_run : (run : RowInstructions) → outcome start (Some pc) (from_common common.instructions) own ≡ Ok run → last ≡ run
  own_run run is = value_is (own_fault start common.instructions own reached) last run (sym own_is ∙ is)

  past_common : (run : RowInstructions) → outcome 0 None (from_common []) common ≡ Ok run → row start pc common own ≡ or_else (own_fault start common.instructions own reached) ending
  past_common run is = goes_on (common_fault common) (whole common.instructions) run (or_else (own_fault start common.instructions own reached) ending) (sym (common_is common) ∙ is)

  pub own_stops : (run : RowInstructions) (e : Fault) → outcome 0 None (from_common []) common ≡ Ok run → outcome start (Some pc) (from_common common.instructions) own ≡ Err e → row start pc common own ≡ Err e
  own_stops run e first is = past_common run first ∙ stops_at (own_fault start common.instructions own reached) last e ending (sym own_is ∙ is)

  past_own : (run run' : RowInstructions) → outcome 0 None (from_common []) common ≡ Ok run → outcome start (Some pc) (from_common common.instructions) own ≡ Ok run' → row start pc common own ≡ ending
  past_own run run' first second = past_common run first ∙ goes_on (own_fault start common.instructions own reached) last run' ending (sym own_is ∙ second)

  pub row_made : (run run' : RowInstructions) (result : Result RowValue Fault) → outcome 0 None (from_common []) common ≡ Ok run → outcome start (Some pc) (from_common common.instructions) own ≡ Ok run' → IsLast last result → GivesRow result (row start pc common own)
  row_made run run' (Ok r) first second is =
      (last, past_own run run' first second ∙ ap (λ o. cond (is_some o) (Ok last) (Err NoCfaRegister)) is.cfa, is)
  row_made run run' (Err e) first second is =
      past_own run run' first second ∙ ap (λ o. cond (is_some o) (Ok last) (Err NoCfaRegister)) is.1 ∙ ap (λ d. let r : Result RowInstructions Fault = Err d in r) (sym is.0)

  -- both programs have run, or the second can't
  pub ran_both : (run : RowInstructions) (r : Result (Unit {0}) Fault) (new : Machine) → outcome 0 None (from_common []) common ≡ Ok run → Ends start r new (outcome start (Some pc) (from_common common.instructions) own) → MakesRow start r new (row start pc common own)
  ran_both run (Ok done) new first ends = (last, subst (λ run. Represents start new run) (sym (own_run ends.0 ends.1)) ends.2, λ r is. row_made run ends.0 r first ends.1 is)
  ran_both run (Err e) new first ends = own_stops run e first ends
