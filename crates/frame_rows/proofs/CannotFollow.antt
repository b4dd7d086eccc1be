-- When an instruction can't follow those that ran.
use Rattle.std.proofs.Common.{◌≡◌, ℕ, ◌+◌, ◌^◌, ◌<◌, ◌≤◌, Bool, true, false, not, Option, Some, None, Result, Ok, Err, sym, ap, ◌∙◌, arith}
use Rattle.std.specs.Prelude.{is_some, OnOk, OnErr, IfErr}
use Rattle.std.proofs.lemmas.Bool.{lt-leb, le-leb, le-ltb, lt-ltb}
use Rattle.unwind_definitions.specs.declared.error.Error.{Error as Fault}
use Rattle.unwind_definitions.specs.declared.error.Error.TheVariants as faults
use Rattle.unwind_definitions.specs.Instructions.{Rule, Instruction, Remember, Restore, Advance, SetLocation, Reset, CfaColumn, CfaOffset}
use Rattle.unwind_definitions.specs.Row.{RowInstructions, ColumnAndOffset, cfa_rule, location, initial_rule, has_too_many_rules, fault_of, fault_where, has_column}
use Rattle.frame_rows.specs.Rules.{AscendsFrom, is_room}
use Rattle.frame_rows.specs.Running.{push, Represents, Follows}
use Rattle.frame_rows.specs.declared.machine.Machine.{Machine}
use Rattle.frame_rows.proofs.Columns.{crowded_is}

module _ (start : ℕ) (m : Machine) (run : RowInstructions) (rep : Represents start m run) where
  pub fits : (n : ℕ) → m.location + n < 2 ^ 64 → fault_of start run (Advance n) ≡ None
  fits n lt = let h = rep.here in ap (λ b. fault_where b faults.AddressOverflow) (lt-leb (2 ^ 64) (location start run.own + n) (omega (arith, h)))

  pub overflows : (n : ℕ) → 2 ^ 64 ≤ m.location + n → fault_of start run (Advance n) ≡ Some faults.AddressOverflow
  overflows n le = let h = rep.here in ap (λ b. fault_where b faults.AddressOverflow) (le-leb (2 ^ 64) (location start run.own + n) (omega (arith, h)))

  pub goes_on : (a : ℕ) → m.location ≤ a → fault_of start run (SetLocation a) ≡ None
  goes_on a le = let h = rep.here in ap (λ b. fault_where b faults.LocationGoesBack) (le-ltb a (location start run.own) (omega (arith, h)))

  pub goes_back : (a : ℕ) → a < m.location → fault_of start run (SetLocation a) ≡ Some faults.LocationGoesBack
  goes_back a lt = let h = rep.here in ap (λ b. fault_where b faults.LocationGoesBack) (lt-ltb a (location start run.own) (omega (arith, h)))

  pub remember_fault : (b : Bool) → is_some m.remembered ≡ b → fault_of start run Remember ≡ fault_where b faults.StackFull
  remember_fault b is = ap (λ b. fault_where b faults.StackFull) (sym rep.opened ∙ is)

  pub restore_fault : (b : Bool) → is_some m.remembered ≡ b → fault_of start run Restore ≡ fault_where (not b) faults.PopWithEmptyStack
  restore_fault b is = ap (λ b. fault_where (not b) faults.PopWithEmptyStack) (sym rep.opened ∙ is)

  -- a rule for a column
  pub crowd_fault : (q : ℕ) (rule : Rule) (room : Bool) → AscendsFrom 0 m.state.rules → is_room q m.state.rules ≡ room → fault_where (has_too_many_rules run q (Some rule)) faults.TooManyRegisterRules ≡ fault_where (not room) faults.TooManyRegisterRules
  crowd_fault q rule room asc is = ap (λ b. fault_where b faults.TooManyRegisterRules) (crowded_is run m.state.rules q rule asc rep.state.rules ∙ ap not is)

  -- a rule that is set, or doesn't fit
  pub set_follows : (i : Instruction) (t : Machine) (q : ℕ) (rule : Rule) (r : Result (Unit {0}) Fault) → fault_of start run i ≡ fault_where (has_too_many_rules run q (Some rule)) faults.TooManyRegisterRules → AscendsFrom 0 m.state.rules →
      OnOk r (is_room q m.state.rules ≡ true) → OnErr r (is_room q m.state.rules ≡ false) → IfErr r (λ e. e ≡ faults.TooManyRegisterRules) → OnOk r (Represents start t (push run i)) → Follows start run i r t
  set_follows i t q rule (Ok done) fault asc room full is rep' = (fault ∙ crowd_fault q rule true asc room, rep')
  set_follows i t q rule (Err e) fault asc room full is rep' = fault ∙ crowd_fault q rule false asc full ∙ ap (λ e. let o : Option Fault = Some e in o) (sym is)

pub on_ok : {T E : Type 0} {P Q : Type 0} (r : Result T E) → OnOk r P → (P → Q) → OnOk r Q
on_ok (Ok x) p f = f p
on_ok (Err e) p f = tt

pub reset_fault : (start : ℕ) (run : RowInstructions) (q : ℕ) (rule : Option Rule) → initial_rule run q ≡ rule → fault_of start run (Reset q) ≡ fault_where (has_too_many_rules run q rule) faults.TooManyRegisterRules
reset_fault start run q rule is = ap (λ o. fault_where (has_too_many_rules run q o) faults.TooManyRegisterRules) is

-- the CFA is a register and an offset
pub offset_fits : (start : ℕ) (run : RowInstructions) (q n k : ℕ) → cfa_rule run ≡ Some (ColumnAndOffset q n) → fault_of start run (CfaOffset k) ≡ None
offset_fits start run q n k is = ap (λ c. fault_where (not (has_column c)) faults.NoCfaRegister) is

pub register_fits : (start : ℕ) (run : RowInstructions) (q n k : ℕ) → cfa_rule run ≡ Some (ColumnAndOffset q n) → fault_of start run (CfaColumn k) ≡ None
register_fits start run q n k is = ap (λ c. fault_where (not (has_column c)) faults.NoCfaRegister) is
