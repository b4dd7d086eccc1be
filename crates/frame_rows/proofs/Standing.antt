-- Machines for which a run from body to body stands, after an instruction.
use Rattle.std.proofs.Common.{◌≡◌, ℕ, ◌+◌, ◌^◌, ◌<◌, true, false, List, Option, Some, None, Result, refl, sym, ap, subst, ◌∙◌, arith}
use Rattle.std.specs.Prelude.{is_some}
use Rattle.unwind_definitions.specs.declared.error.Error.{Error as Fault}
use Rattle.unwind_definitions.specs.Instructions.{Rule, Instruction, Nop, Remember, Restore, Advance, Cfa, CfaColumn, CfaOffset, Reset, Write}
use Rattle.unwind_definitions.specs.Row.{RowInstructions}
use Rattle.frame_rows.specs.BodySteps.{HasInitial, IsStateAt, IsMemoryAt, MakesBody, RestoresBody}
use Rattle.frame_rows.specs.RowValue.{RowValue}
use Rattle.frame_rows.specs.Running.{Represents}
use Rattle.frame_rows.specs.Stepping.{StandsAfter, StandsFor}
use Rattle.frame_rows.specs.declared.machine.Machine.{Machine}
use Rattle.frame_rows.specs.declared.machine.RowState.{RowState}
use Rattle.frame_rows.specs.declared.body_run.BodyRun.{BodyRun as Walker}
use Rattle.frame_rows.specs.declared.stretch.Turn.TheVariants as turn
use Rattle.unwind_definitions.specs.Instructions.{Coding, Program}
use Rattle.frame_rows.specs.Movable.{IsMovable}
use Rattle.frame_rows.specs.Stepping.{IsLeft, TakesTurn}
use Rattle.frame_rows.specs.Stretches.{BeginsWith}
use Rattle.frame_rows.specs.declared.stretch.Turn.{Turn}
use Rattle.frame_rows.proofs.CannotFollow.{remember_fault, restore_fault}
use Rattle.frame_rows.proofs.Steps.{step_nop, step_remember, step_restore}

module _ (bodies : List (Result RowValue Fault)) where
  none_there : (r : Option RowState) → IsMemoryAt bodies None r → r ≡ None
  none_there None is = refl
  none_there (Some s) is = absurd is

  some_there : (p : ℕ) (r : Option RowState) → IsMemoryAt bodies (Some p) r → (s : RowState) × (r ≡ Some s) × IsStateAt bodies p s
  some_there p None is = absurd is
  some_there p (Some s) is = (s, refl, is)

  module _ (start : ℕ) (m : Machine) (run : RowInstructions) (rep : Represents start m run) (s : Walker) (st : StandsFor bodies s m) where
    pub stands_nop : StandsAfter bodies start run Nop turn.Ran s
    stands_nop = record { machine = m; moves = (tt, refl, step_nop start m run rep); stands = st }

    pub stands_ahead : (delta : ℕ) (new : Walker) → new.location ≡ s.location → new.place ≡ s.place → new.remembered ≡ s.remembered → 0 < delta → s.location + delta < 2 ^ 64 → StandsAfter bodies start run (Advance delta) (turn.LeadsOn (s.location + delta)) new
    stands_ahead delta new here place memory some fits =
        let h = rep.here in
        let g = st.here in
        record {
          machine = m;
          moves = (omega arith, omega arith, fits, rep);
          stands = record { here = st.here ∙ sym here; state = subst (λ p. IsStateAt bodies p m.state) (sym place) st.state; remembered = subst (λ p. IsMemoryAt bodies p m.remembered) (sym memory) st.remembered };
        }

    pub stands_offset : (n : ℕ) (new : Walker) → MakesBody bodies (CfaOffset n) s.place new.place → new.location ≡ s.location → new.remembered ≡ s.remembered → StandsAfter bodies start run (CfaOffset n) turn.Ran new
    stands_offset n new makes here memory =
        let made = makes.makes start m run rep st.state in
        record {
          machine = record m { state = made.0 };
          moves = (tt, made.2, made.3);
          stands = record { here = st.here ∙ sym here; state = made.1; remembered = subst (λ p. IsMemoryAt bodies p m.remembered) (sym memory) st.remembered };
        }

    pub stands_save : (q : ℕ) (rule : Rule) (new : Walker) → MakesBody bodies (Write q rule) s.place new.place → new.location ≡ s.location → new.remembered ≡ s.remembered → StandsAfter bodies start run (Write q rule) turn.Ran new
    stands_save q rule new makes here memory =
        let made = makes.makes start m run rep st.state in
        record {
          machine = record m { state = made.0 };
          moves = (tt, made.2, made.3);
          stands = record { here = st.here ∙ sym here; state = made.1; remembered = subst (λ p. IsMemoryAt bodies p m.remembered) (sym memory) st.remembered };
        }

    pub stands_cfa : (q n : ℕ) (new : Walker) → MakesBody bodies (Cfa q n) s.place new.place → new.location ≡ s.location → new.remembered ≡ s.remembered → StandsAfter bodies start run (Cfa q n) turn.Ran new
    stands_cfa q n new makes here memory =
        let made = makes.makes start m run rep st.state in
        record {
          machine = record m { state = made.0 };
          moves = (tt, made.2, made.3);
          stands = record { here = st.here ∙ sym here; state = made.1; remembered = subst (λ p. IsMemoryAt bodies p m.remembered) (sym memory) st.remembered };
        }

    pub stands_column : (q : ℕ) (new : Walker) → MakesBody bodies (CfaColumn q) s.place new.place → new.location ≡ s.location → new.remembered ≡ s.remembered → StandsAfter bodies start run (CfaColumn q) turn.Ran new
    stands_column q new makes here memory =
        let made = makes.makes start m run rep st.state in
        record {
          machine = record m { state = made.0 };
          moves = (tt, made.2, made.3);
          stands = record { here = st.here ∙ sym here; state = made.1; remembered = subst (λ p. IsMemoryAt bodies p m.remembered) (sym memory) st.remembered };
        }

    pub stands_reset : (q : ℕ) → HasInitial bodies s.first run → (new : Walker) → RestoresBody bodies q s.first s.place new.place → new.location ≡ s.location → new.remembered ≡ s.remembered → StandsAfter bodies start run (Reset q) turn.Ran new
    stands_reset q initial new makes here memory =
        let made = makes.makes start m run initial rep st.state in
        record {
          machine = record m { state = made.0 };
          moves = (tt, made.2, made.3);
          stands = record { here = st.here ∙ sym here; state = made.1; remembered = subst (λ p. IsMemoryAt bodies p m.remembered) (sym memory) st.remembered };
        }

    pub stands_remember : (new : Walker) → s.remembered ≡ None → new.location ≡ s.location → new.place ≡ s.place → new.remembered ≡ Some s.place → StandsAfter bodies start run Remember turn.Ran new
    stands_remember new none here place memory =
        let free = none_there m.remembered (subst (λ p. IsMemoryAt bodies p m.remembered) none st.remembered) in
        record {
          machine = record m { remembered = Some m.state };
          moves = (tt, remember_fault start m run rep false (ap is_some free), step_remember start m run rep (record m { remembered = Some m.state }) free refl refl refl refl);
          stands = record { here = st.here ∙ sym here; state = subst (λ p. IsStateAt bodies p m.state) (sym place) st.state; remembered = subst (λ p. IsMemoryAt bodies p (Some m.state)) (sym memory) st.state };
        }

    pub stands_restore : (p : ℕ) (new : Walker) → s.remembered ≡ Some p → new.location ≡ s.location → new.place ≡ p → new.remembered ≡ None → StandsAfter bodies start run Restore turn.Ran new
    stands_restore p new some here place memory =
        let back = some_there p m.remembered (subst (λ p. IsMemoryAt bodies p m.remembered) some st.remembered) in
        record {
          machine = record m { state = back.0; remembered = None };
          moves = (tt, restore_fault start m run rep true (ap is_some back.1), step_restore start m run rep (record m { state = back.0; remembered = None }) back.0 back.1 refl refl refl refl);
          stands = record { here = st.here ∙ sym here; state = subst (λ p. IsStateAt bodies p back.0) (sym place) back.2; remembered = subst (λ p. IsMemoryAt bodies p None) (sym memory) tt };
        }

-- a run that stands for a machine after an instruction has taken a turn
pub takes_turn : (bodies : List (Result RowValue Fault)) (k : Coding) (start : ℕ) (run : RowInstructions) (q later : Program) (i : Instruction) (t : Turn) (moved new : Walker) → StandsAfter bodies start run i t moved → BeginsWith q i later → IsLeft k new.rest.now later →
    new.location ≡ moved.location → new.place ≡ moved.place → new.remembered ≡ moved.remembered → (IsMovable later → IsMovable q) → TakesTurn bodies k start run q t new
takes_turn bodies k start run q later i t moved new st begins left here place memory movable = record {
  machine = st.machine;
  rest = later;
  takes = record { by = i; first = begins; moves = st.moves };
  stands = record {
    here = st.stands.here ∙ sym here;
    state = subst (λ p. IsStateAt bodies p st.machine.state) (sym place) st.stands.state;
    remembered = subst (λ p. IsMemoryAt bodies p st.machine.remembered) (sym memory) st.stands.remembered;
  };
  left = left;
  movable = movable;
}
