-- What another CFA, or another offset of it, makes of a body, and what a register makes of it that is saved or has its initial rule again.
use Rattle.std.proofs.Common.{◌≡◌, ℕ, ◌<◌, true, List, length, get_or, Option, Some, None, Result, Ok, Err, refl, sym, ap, ◌∙◌, subst}
use Rattle.std.specs.Prelude.{IfSome}
use Rattle.std.specs.Option.{option_map}
use Rattle.unwind_definitions.specs.declared.error.Error.{Error as Fault}
use Rattle.unwind_definitions.specs.declared.error.Error.TheVariants.{NoCfaRegister, TooManyRegisterRules}
use Rattle.unwind_definitions.specs.Instructions.{Rule, Write, Cfa, CfaColumn, CfaOffset}
use Rattle.unwind_definitions.specs.Row.{RowInstructions, CfaRule, ColumnAndOffset, cfa_rule, fault_where, has_too_many_rules, initial_rule}
use Rattle.unwind_arch.specs.declared.register.Register.{Register as Column}
use Rattle.frame_rows.specs.Bodies.{Grows, Says}
use Rattle.frame_rows.specs.BodySteps.{HasInitial, IsStateAt, MakesBody, RestoresBody}
use Rattle.frame_rows.specs.RowValue.{RowValue}
use Rattle.frame_rows.specs.Rules.{AscendsFrom, cfa_meaning, is_room, rule_in, with_rule}
use Rattle.frame_rows.specs.Running.{Represents}
use Rattle.frame_rows.specs.declared.machine.Machine.{Machine}
use Rattle.frame_rows.specs.declared.machine.RowState.{RowState}
use Rattle.frame_rows.specs.declared.rule.CfaRule.TheVariants as cfa
use Rattle.frame_rows.proofs.BodySteps.{at_longer, within_longer}
use Rattle.frame_rows.proofs.CannotFollow.{crowd_fault, offset_fits, register_fits, reset_fault}
use Rattle.frame_rows.proofs.Pushed.{cfa_new_column, cfa_new_offset, cfa_whole}
use Rattle.frame_rows.proofs.Steps.{step_cfa, step_reset, step_write}

abbrev row_of : RowValue → Result RowValue Fault → RowValue
row_of d (Ok row) = row
row_of d (Err e) = d

pub same_row_of : (a b : RowValue) → (let r : Result RowValue Fault = Ok a in r) ≡ Ok b → a ≡ b
same_row_of a b is = ap (row_of a) is

module _ (old new : List (Result RowValue Fault)) (g : Grows old new) (place to : ℕ) (row : RowValue) (within : place < length old) (is : (d : Result RowValue Fault) → get_or old place d ≡ Ok row) where
  -- a state at the place has the parts of the row
  same_row : (s : RowState) (at : IsStateAt new place s) → row ≡ record { cfa = cfa_meaning at.cfa; rules = s.rules; saved_args_size = s.saved_args_size }
  same_row s at =
      let d : Result RowValue Fault = Err NoCfaRegister in
      ap (row_of row) (sym (is d) ∙ sym (at_longer old new g place d within) ∙ at.says.there d)

  module _ (register : Column) (before offset : ℕ) (shape : row.cfa ≡ ColumnAndOffset register.0 before) (says : Says new to (Ok (record { cfa = ColumnAndOffset register.0 offset; rules = row.rules; saved_args_size = row.saved_args_size }))) where
    with_offset : (start : ℕ) (m : Machine) (run : RowInstructions) → Represents start m run → (at : IsStateAt new place m.state) → cfa_rule run ≡ Some (ColumnAndOffset register.0 before)
    with_offset start m run rep at =
        sym rep.state.cfa ∙ ap (option_map cfa_meaning) at.has
        ∙ ap (λ (r : RowValue). let o : Option CfaRule = Some r.cfa in o) (sym (same_row m.state at)) ∙ ap (λ (r : CfaRule). let o : Option CfaRule = Some r in o) shape

    pub offset_makes : MakesBody new (CfaOffset offset) place to
    offset_makes = record {
      within = within_longer old new g place within;
      there = says.within;
      makes = λ start m run rep at.
          let t : RowState = record m.state { cfa = Some (cfa.RegisterAndOffset register offset) } in
          let same = same_row m.state at in
          let ran = with_offset start m run rep at in (
            t,
            record {
              cfa = cfa.RegisterAndOffset register offset;
              has = refl;
              says = subst (λ (r : RowValue). Says new to (Ok (record { cfa = ColumnAndOffset register.0 offset; rules = r.rules; saved_args_size = r.saved_args_size }))) same says;
            },
            offset_fits start run register.0 before offset ran,
            step_cfa start m run rep (record m { state = t }) (CfaOffset offset) (record { alone = λ is. refl; still = refl }) (λ k. refl) refl refl
                (sym (cfa_new_offset run register.0 before offset ran)) refl refl refl refl refl,
          );
    }

  module _ (column : ℕ) (rule : Rule) (rules : List (ℕ × Rule)) (ascends : AscendsFrom 0 row.rules) (room : is_room column row.rules ≡ true)
      (sets : (c : ℕ) → rule_in rules c ≡ with_rule column (Some rule) row.rules c) (says : Says new to (Ok (record { cfa = row.cfa; rules = rules; saved_args_size = row.saved_args_size }))) where
    pub save_makes : MakesBody new (Write column rule) place to
    save_makes = record {
      within = within_longer old new g place within;
      there = says.within;
      makes = λ start m run rep at.
          let t : RowState = record m.state { rules = rules } in
          let same = same_row m.state at in
          let own = ap (λ (r : RowValue). r.rules) same in (
            t,
            record {
              cfa = at.cfa;
              has = at.has;
              says = subst (λ (r : RowValue). Says new to (Ok (record { cfa = r.cfa; rules = rules; saved_args_size = r.saved_args_size }))) same says;
            },
            crowd_fault start m run rep column rule true (subst (AscendsFrom 0) own ascends) (subst (λ (es : List (ℕ × Rule)). is_room column es ≡ true) own room),
            step_write start m run rep (record m { state = t }) column rule (λ c. sets c ∙ ap (λ (es : List (ℕ × Rule)). with_rule column (Some rule) es c) own) refl refl refl refl refl,
          );
    }

  module _ (column first : ℕ) (initial : RowValue) (first_within : first < length old) (first_is : (d : Result RowValue Fault) → get_or old first d ≡ Ok initial) (rule : Option Rule) (has : rule ≡ rule_in initial.rules column) (rules : List (ℕ × Rule))
      (ascends : AscendsFrom 0 row.rules) (room : IfSome rule (λ _. is_room column row.rules ≡ true)) (sets : (c : ℕ) → rule_in rules c ≡ with_rule column rule row.rules c) (says : Says new to (Ok (record { cfa = row.cfa; rules = rules; saved_args_size = row.saved_args_size }))) where
    -- the rule is the column's initial one
    is_initial : (run : RowInstructions) → HasInitial new first run → rule ≡ initial_rule run column
    is_initial run h =
        let d : Result RowValue Fault = Err NoCfaRegister in
        let same = same_row_of initial h.row (sym (first_is d) ∙ sym (at_longer old new g first d first_within) ∙ h.says.there d) in
        has ∙ ap (λ (r : RowValue). rule_in r.rules column) same ∙ h.rules column

    fits_again : (start : ℕ) (m : Machine) (run : RowInstructions) → Represents start m run → (r : Option Rule) → IfSome r (λ _. is_room column m.state.rules ≡ true) → AscendsFrom 0 m.state.rules → fault_where (has_too_many_rules run column r) TooManyRegisterRules ≡ None
    fits_again start m run rep None room asc = refl
    fits_again start m run rep (Some r) room asc = crowd_fault start m run rep column r true asc room

    pub restore_makes : RestoresBody new column first place to
    restore_makes = record {
      there = says.within;
      makes = λ start m run h rep at.
          let t : RowState = record m.state { rules = rules } in
          let same = same_row m.state at in
          let own = ap (λ (r : RowValue). r.rules) same in
          let known = is_initial run h in (
            t,
            record {
              cfa = at.cfa;
              has = at.has;
              says = subst (λ (r : RowValue). Says new to (Ok (record { cfa = r.cfa; rules = rules; saved_args_size = r.saved_args_size }))) same says;
            },
            reset_fault start run column rule (sym known)
                ∙ fits_again start m run rep rule (subst (λ (es : List (ℕ × Rule)). IfSome rule (λ _. is_room column es ≡ true)) own room) (subst (AscendsFrom 0) own ascends),
            step_reset start m run rep (record m { state = t }) column
                (λ c. sets c ∙ ap (λ (es : List (ℕ × Rule)). with_rule column rule es c) own ∙ ap (λ (o : Option Rule). with_rule column o m.state.rules c) known) refl refl refl refl refl,
          );
    }

  module _ (register : Column) (offset : ℕ) (says : Says new to (Ok (record { cfa = ColumnAndOffset register.0 offset; rules = row.rules; saved_args_size = row.saved_args_size }))) where
    at_cfa : (s : RowState) → IsStateAt new place s → IsStateAt new to (record s { cfa = Some (cfa.RegisterAndOffset register offset) })
    at_cfa s at = record {
      cfa = cfa.RegisterAndOffset register offset;
      has = refl;
      says = subst (λ (r : RowValue). Says new to (Ok (record { cfa = ColumnAndOffset register.0 offset; rules = r.rules; saved_args_size = r.saved_args_size }))) (same_row s at) says;
    }

    pub cfa_makes : MakesBody new (Cfa register.0 offset) place to
    cfa_makes = record {
      within = within_longer old new g place within;
      there = says.within;
      makes = λ start m run rep at.
          let t : RowState = record m.state { cfa = Some (cfa.RegisterAndOffset register offset) } in (
            t,
            at_cfa m.state at,
            refl,
            step_cfa start m run rep (record m { state = t }) (Cfa register.0 offset) (record { alone = λ is. refl; still = refl }) (λ k. refl) refl refl
                (sym (cfa_whole run register.0 offset)) refl refl refl refl refl,
          );
    }

    module _ (before : Column) (shape : row.cfa ≡ ColumnAndOffset before.0 offset) where
      had : (start : ℕ) (m : Machine) (run : RowInstructions) → Represents start m run → (at : IsStateAt new place m.state) → cfa_rule run ≡ Some (ColumnAndOffset before.0 offset)
      had start m run rep at =
          sym rep.state.cfa ∙ ap (option_map cfa_meaning) at.has
          ∙ ap (λ (r : RowValue). let o : Option CfaRule = Some r.cfa in o) (sym (same_row m.state at)) ∙ ap (λ (r : CfaRule). let o : Option CfaRule = Some r in o) shape

      pub column_makes : MakesBody new (CfaColumn register.0) place to
      column_makes = record {
        within = within_longer old new g place within;
        there = says.within;
        makes = λ start m run rep at.
            let t : RowState = record m.state { cfa = Some (cfa.RegisterAndOffset register offset) } in
            let ran = had start m run rep at in (
              t,
              at_cfa m.state at,
              register_fits start run before.0 offset register.0 ran,
              step_cfa start m run rep (record m { state = t }) (CfaColumn register.0) (record { alone = λ is. refl; still = refl }) (λ k. refl) refl refl
                  (sym (cfa_new_column run before.0 offset register.0 ran)) refl refl refl refl refl,
            );
      }
