-- The machine after an instruction has run one instruction more.
use Rattle.std.proofs.Common.{◌≡◌, ℕ, ◌+◌, Bool, true, false, cond, ◌++◌, Option, Some, None, refl, sym, ap, subst, ◌∙◌}
use Rattle.std.specs.Prelude.{is_some, ◌==◌}
use Rattle.std.specs.Option.{option_map, unwrap_or}
use Rattle.std.proofs.lemmas.Bool.{eqb-true}
use Rattle.unwind_definitions.specs.Instructions.{Rule, Instruction, Nop, Remember, Restore, Advance, SetLocation, Write, Reset, Arguments}
use Rattle.unwind_definitions.specs.Row.{RowInstructions, rule_of, cfa_rule, cfa_of, arguments, kept_instructions, says_of, initial_rule, last_said, is_open}
use Rattle.frame_rows.specs.Rules.{rule_in, cfa_meaning, with_rule}
use Rattle.frame_rows.specs.Running.{push, IsStateOf, IsClosed, IsRemembered, Represents}
use Rattle.frame_rows.specs.declared.machine.RowState.{RowState}
use Rattle.frame_rows.specs.declared.machine.Machine.{Machine}
use Rattle.frame_rows.proofs.Pushed.{IsPlain, rule_push, cfa_same, arguments_same, arguments_new, lead, location-push, open-push, closed_plain, open_plain, open_remember, cut_remember, cut_restore, closed_restore}

-- what is remembered stays
kept_memory : (run : RowInstructions) (i : Instruction) → IsPlain i → (r : Option RowState) → IsRemembered r run → IsRemembered r (push run i)
kept_memory run i plain None closed = closed_plain run.own i plain closed
kept_memory run i plain (Some s) (before, opened, state) = (before, open_plain before run.own i plain opened, state)

module _ (start : ℕ) (m : Machine) (run : RowInstructions) (rep : Represents start m run) where
  -- an instruction that neither remembers nor restores
  pub step_plain : (t : Machine) (i : Instruction) → IsPlain i → t.location ≡ lead m.location i → t.remembered ≡ m.remembered → t.initial ≡ m.initial → IsStateOf t.state (push run i) → Represents start t (push run i)
  step_plain t i plain here memory initial state = record {
    here = here ∙ ap (λ a. lead a i) rep.here ∙ sym (location-push start run.own i);
    state = state;
    opened = ap is_some memory ∙ rep.opened ∙ sym (open-push run.own i ∙ ap (λ o. unwrap_or o (is_open run.own)) plain.still);
    remembered = subst (λ r. IsRemembered r (push run i)) (sym memory) (kept_memory run i plain m.remembered rep.remembered);
    initial = λ c. ap (λ es. rule_in es c) initial ∙ rep.initial c;
  }

  pub state_nop : IsStateOf m.state (push run Nop)
  state_nop = record {
    cfa = rep.state.cfa ∙ sym (cfa_same run Nop (record { alone = λ is. refl; still = refl }) refl refl refl);
    rules = λ c. rep.state.rules c ∙ sym (rule_push run Nop c (record { alone = λ is. refl; still = refl }));
    arguments = rep.state.arguments ∙ sym (arguments_same run Nop (record { alone = λ is. refl; still = refl }) refl);
  }

  pub state_advance : (n : ℕ) → IsStateOf m.state (push run (Advance n))
  state_advance n = record {
    cfa = rep.state.cfa ∙ sym (cfa_same run (Advance n) (record { alone = λ is. refl; still = refl }) refl refl refl);
    rules = λ c. rep.state.rules c ∙ sym (rule_push run (Advance n) c (record { alone = λ is. refl; still = refl }));
    arguments = rep.state.arguments ∙ sym (arguments_same run (Advance n) (record { alone = λ is. refl; still = refl }) refl);
  }

  pub step_nop : Represents start m (push run Nop)
  step_nop = step_plain m Nop (record { alone = λ is. refl; still = refl }) refl refl refl state_nop

  pub step_advance : (n : ℕ) (t : Machine) → t.location ≡ m.location + n → t.state ≡ m.state → t.remembered ≡ m.remembered → t.initial ≡ m.initial → Represents start t (push run (Advance n))
  step_advance n t here state memory initial =
      step_plain t (Advance n) (record { alone = λ is. refl; still = refl }) here memory initial (subst (λ s. IsStateOf s (push run (Advance n))) (sym state) (state_advance n))

  pub state_set : (a : ℕ) → IsStateOf m.state (push run (SetLocation a))
  state_set a = record {
    cfa = rep.state.cfa ∙ sym (cfa_same run (SetLocation a) (record { alone = λ is. refl; still = refl }) refl refl refl);
    rules = λ c. rep.state.rules c ∙ sym (rule_push run (SetLocation a) c (record { alone = λ is. refl; still = refl }));
    arguments = rep.state.arguments ∙ sym (arguments_same run (SetLocation a) (record { alone = λ is. refl; still = refl }) refl);
  }

  pub step_set : (a : ℕ) (t : Machine) → t.location ≡ a → t.state ≡ m.state → t.remembered ≡ m.remembered → t.initial ≡ m.initial → Represents start t (push run (SetLocation a))
  step_set a t here state memory initial =
      step_plain t (SetLocation a) (record { alone = λ is. refl; still = refl }) here memory initial (subst (λ s. IsStateOf s (push run (SetLocation a))) (sym state) (state_set a))

  -- a new size of the arguments
  pub step_arguments : (n : ℕ) (t : Machine) → t.state.cfa ≡ m.state.cfa → t.state.rules ≡ m.state.rules → t.state.saved_args_size ≡ n → t.location ≡ m.location → t.remembered ≡ m.remembered → t.initial ≡ m.initial → Represents start t (push run (Arguments n))
  step_arguments n t cfa rules args here memory initial =
      step_plain t (Arguments n) (record { alone = λ is. refl; still = refl }) here memory initial (record {
        cfa = ap (option_map cfa_meaning) cfa ∙ rep.state.cfa ∙ sym (cfa_same run (Arguments n) (record { alone = λ is. refl; still = refl }) refl refl refl);
        rules = λ c. ap (λ es. rule_in es c) rules ∙ rep.state.rules c ∙ sym (rule_push run (Arguments n) c (record { alone = λ is. refl; still = refl }));
        arguments = args ∙ sym (arguments_new run n);
      })

  -- a new definition of the CFA
  pub step_cfa : (t : Machine) (i : Instruction) (plain : IsPlain i) → ((c : ℕ) → says_of (initial_rule run c) c i ≡ None) → arguments i ≡ None → lead m.location i ≡ m.location →
      option_map cfa_meaning t.state.cfa ≡ cfa_rule (push run i) → t.state.rules ≡ m.state.rules → t.state.saved_args_size ≡ m.state.saved_args_size →
      t.location ≡ m.location → t.remembered ≡ m.remembered → t.initial ≡ m.initial → Represents start t (push run i)
  step_cfa t i plain silent quiet still cfa rules args here memory initial =
      step_plain t i plain (here ∙ sym still) memory initial (record {
        cfa = cfa;
        rules = λ c. ap (λ es. rule_in es c) rules ∙ rep.state.rules c ∙ sym (rule_push run i c plain ∙ ap (λ o. unwrap_or o (rule_of run c)) (silent c));
        arguments = args ∙ rep.state.arguments ∙ sym (arguments_same run i plain quiet);
      })

  -- a column's rule is set
  chosen : (b : Bool) (rule : Rule) (old : Option Rule) → cond b (Some rule) old ≡ unwrap_or (cond b (Some (Some rule)) None) old
  chosen true rule old = refl
  chosen false rule old = refl

  pub step_write : (t : Machine) (q : ℕ) (rule : Rule) → ((c : ℕ) → rule_in t.state.rules c ≡ with_rule q (Some rule) m.state.rules c) → t.state.cfa ≡ m.state.cfa → t.state.saved_args_size ≡ m.state.saved_args_size →
      t.location ≡ m.location → t.remembered ≡ m.remembered → t.initial ≡ m.initial → Represents start t (push run (Write q rule))
  step_write t q rule sets cfa args here memory initial =
      step_plain t (Write q rule) (record { alone = λ is. refl; still = refl }) here memory initial (record {
        cfa = ap (option_map cfa_meaning) cfa ∙ rep.state.cfa ∙ sym (cfa_same run (Write q rule) (record { alone = λ is. refl; still = refl }) refl refl refl);
        rules = λ c. sets c ∙ ap (λ o. cond (q == c) (Some rule) o) (rep.state.rules c) ∙ chosen (q == c) rule (rule_of run c) ∙ sym (rule_push run (Write q rule) c (record { alone = λ is. refl; still = refl }));
        arguments = args ∙ rep.state.arguments ∙ sym (arguments_same run (Write q rule) (record { alone = λ is. refl; still = refl }) refl);
      })

  -- a column's initial rule is restored
  pub step_reset : (t : Machine) (q : ℕ) → ((c : ℕ) → rule_in t.state.rules c ≡ with_rule q (initial_rule run q) m.state.rules c) → t.state.cfa ≡ m.state.cfa → t.state.saved_args_size ≡ m.state.saved_args_size →
      t.location ≡ m.location → t.remembered ≡ m.remembered → t.initial ≡ m.initial → Represents start t (push run (Reset q))
  step_reset t q sets cfa args here memory initial =
      step_plain t (Reset q) (record { alone = λ is. refl; still = refl }) here memory initial (record {
        cfa = ap (option_map cfa_meaning) cfa ∙ rep.state.cfa ∙ sym (cfa_same run (Reset q) (record { alone = λ is. refl; still = refl }) refl refl refl);
        rules = λ c. sets c ∙ ap (λ o. cond (q == c) (initial_rule run q) o) (rep.state.rules c) ∙ again c (q == c) refl ∙ sym (rule_push run (Reset q) c (record { alone = λ is. refl; still = refl }));
        arguments = args ∙ rep.state.arguments ∙ sym (arguments_same run (Reset q) (record { alone = λ is. refl; still = refl }) refl);
      })
    where
      again : (c : ℕ) (b : Bool) → (q == c) ≡ b → cond (q == c) (initial_rule run q) (rule_of run c) ≡ unwrap_or (cond (q == c) (Some (initial_rule run c)) None) (rule_of run c)
      again c true is = let same : q ≡ c = eqb-true q c is in rw (is, same) refl
      again c false is = rw is refl

  -- the state is remembered
  pub step_remember : (t : Machine) → m.remembered ≡ None → t.remembered ≡ Some m.state → t.state ≡ m.state → t.location ≡ m.location → t.initial ≡ m.initial → Represents start t (push run Remember)
  step_remember t none memory state here initial =
      let closed : IsClosed run.own = subst (λ r. IsRemembered r run) none rep.remembered in
      let same = cut_remember run.own closed in
      record {
        here = here ∙ rep.here ∙ sym (location-push start run.own Remember);
        state = subst (λ s. IsStateOf s (push run Remember)) (sym state) (record {
          cfa = rep.state.cfa ∙ sym (ap (λ is. cfa_of (kept_instructions run.common ++ is)) same);
          rules = λ c. rep.state.rules c ∙ sym (ap (λ is. unwrap_or (last_said (says_of (initial_rule run c) c) is) (initial_rule run c)) same);
          arguments = rep.state.arguments ∙ sym (ap (λ is. unwrap_or (last_said arguments (kept_instructions run.common ++ is)) 0) same);
        });
        opened = ap is_some memory ∙ sym (open-push run.own Remember);
        remembered = subst (λ r. IsRemembered r (push run Remember)) (sym memory) (run.own, open_remember run.own closed, rep.state);
        initial = λ c. ap (λ es. rule_in es c) initial ∙ rep.initial c;
      }

  -- the remembered state is restored
  pub step_restore : (t : Machine) (s : RowState) → m.remembered ≡ Some s → t.remembered ≡ None → t.state ≡ s → t.location ≡ m.location → t.initial ≡ m.initial → Represents start t (push run Restore)
  step_restore t s some memory state here initial =
      let r : IsRemembered (Some s) run = subst (λ r. IsRemembered r run) some rep.remembered in
      let same = cut_restore r.0 run.own r.1 in
      record {
        here = here ∙ rep.here ∙ sym (location-push start run.own Restore);
        state = subst (λ s. IsStateOf s (push run Restore)) (sym state) (record {
          cfa = r.2.cfa ∙ sym (ap (λ is. cfa_of (kept_instructions run.common ++ is)) same);
          rules = λ c. r.2.rules c ∙ sym (ap (λ is. unwrap_or (last_said (says_of (initial_rule run c) c) is) (initial_rule run c)) same);
          arguments = r.2.arguments ∙ sym (ap (λ is. unwrap_or (last_said arguments (kept_instructions run.common ++ is)) 0) same);
        });
        opened = ap is_some memory ∙ sym (open-push run.own Restore);
        remembered = subst (λ r. IsRemembered r (push run Restore)) (sym memory) (closed_restore r.0 run.own r.1);
        initial = λ c. ap (λ es. rule_in es c) initial ∙ rep.initial c;
      }
