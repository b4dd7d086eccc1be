-- What a walk through rows has come to.
use Rattle.std.proofs.Common.{◌≡◌, ℕ, ◌≤◌, [], Option, Some, None, Result, Ok, Err, refl, sym, subst, arith}
use Rattle.unwind_definitions.specs.declared.error.Error.{Error as Fault}
use Rattle.unwind_definitions.specs.Instructions.{Coding, Program}
use Rattle.unwind_definitions.specs.Row.{RowInstructions, location, from_common, row}
use Rattle.frame_rows.specs.Rows.{IsLast}
use Rattle.frame_rows.specs.Running.{Represents, outcome}
use Rattle.frame_rows.specs.Stretches.{EndsStretch, IsFaultyStretch, IsLastStretch, IsStretch, left_of}
use Rattle.frame_rows.specs.Walks.{EndsWith, IsWalking, Makes, MakesAll}
use Rattle.frame_rows.specs.declared.machine.Machine.{Machine}
use Rattle.frame_rows.specs.declared.row_walk.RowWalk.{RowWalk}
use Rattle.frame_rows.specs.declared.stretch.Instructions.{Instructions}
use Rattle.frame_rows.proofs.StretchSteps.{location_pushed}
use Rattle.frame_rows.proofs.Together.{common_stops, own_run, own_stops, row_made}

module _ (start : ℕ) (common own : Program) (before : RowInstructions) (ran : outcome 0 None (from_common []) common ≡ Ok before) where
  made : (pc : ℕ) (o : Result RowInstructions Fault) → outcome start (Some pc) (from_common common.instructions) own ≡ o → Makes o (row start pc common own)
  made pc (Ok run) is = λ answer ends. row_made start pc common own before run answer ran is (subst (λ r. IsLast r answer) (sym (own_run start pc common own run is)) ends)
  made pc (Err e) is = own_stops start pc common own before e ran is

  -- after the first program the second makes all rows
  pub begins : MakesAll start (from_common common.instructions) own (λ pc. row start pc common own)
  begins pc from = made pc (outcome start (Some pc) (from_common common.instructions) own) refl

module _ (start : ℕ) (run : RowInstructions) (p : Program) (due : ℕ → Result RowInstructions Fault) (left : MakesAll start run p due) where
  abbrev here : ℕ
  here = location start run.own

  ends_here : (pc : ℕ) (m : Machine) (now : RowInstructions) → here ≤ pc → Represents start m now → outcome start (Some pc) run p ≡ Ok now → EndsWith None m (due pc)
  ends_here pc m now from rep is = λ answer ends. (subst (λ o. Makes o (due pc)) is (left pc from)) answer (ends start now rep)

  abbrev walk_to : Machine → Instructions → Option ℕ → Option Fault → RowWalk
  walk_to m i end fault = record { machine = m; instructions = i; end = end; fault = fault; common = tt }

  stops : (m : Machine) (i : Instructions) (coding : Coding) → IsLastStretch start run p m → IsWalking (walk_to m i None None) coding here due
  stops m i coding st = record {
    holds = λ pc from before. ends_here pc m st.now from st.represents (st.stays pc from);
    goes_on = tt;
  }

  leads : (m : Machine) (i : Instructions) (coding : Coding) (next : ℕ) → IsStretch start run p next m (left_of coding i) → IsWalking (walk_to m i (Some next) None) coding here due
  leads m i coding next st = record {
    holds = λ pc from before. ends_here pc m st.now from st.represents (st.stays pc from before);
    goes_on = record {
      start = start;
      run = st.now;
      by = st.by;
      represents = st.represents;
      leads = st.leads;
      stands = let same = st.stands in let far = st.ahead in omega (arith, same, far);
      ahead = st.ahead;
      left = λ pc from.
          let a = location_pushed start st.now st.by in let b = st.leads in
          let past : next ≤ pc = omega (arith, a, b, from) in
          let far = st.ahead in subst (λ o. Makes o (due pc)) (st.goes_on pc past) (left pc (omega (arith, far, past)));
    };
  }

  -- the row ends at an address, or holds on
  pub stops_or_leads : (m : Machine) (i : Instructions) (coding : Coding) (end : Option ℕ) → EndsStretch start run p (Ok end) m (left_of coding i) → IsWalking (record { machine = m; instructions = i; end = end; fault = None; common = tt }) coding here due
  stops_or_leads m i coding None st = stops m i coding st
  stops_or_leads m i coding (Some next) st = leads m i coding next st

  -- a fault holds on
  pub faults : (m : Machine) (i : Instructions) (coding : Coding) (e : Fault) → IsFaultyStretch start run p e → IsWalking (record { machine = m; instructions = i; end = None; fault = Some e; common = tt }) coding here due
  faults m i coding e st = record {
    holds = λ pc from before. subst (λ o. Makes o (due pc)) (st.stays pc from) (left pc from);
    goes_on = tt;
  }

-- where the first program can't be run, its fault holds on
pub never_begins : (start : ℕ) (common own : Program) (m : Machine) (i : Instructions) (coding : Coding) (e : Fault) → outcome 0 None (from_common []) common ≡ Err e →
    IsWalking (record { machine = m; instructions = i; end = None; fault = Some e; common = tt }) coding start (λ pc. row start pc common own)
never_begins start common own m i coding e is = record {
  holds = λ pc from before. common_stops start pc common own e is;
  goes_on = tt;
}
