-- The running state of a frame program: what the instructions that ran so far have said.
use Rattle.std.specs.Prelude.{◌≡◌, ℕ, ◌+◌, ◌^◌, Bool, false, ◌&&◌, List, [], ◌∷◌, ◌++◌, length, Option, Some, None, Result, Ok, Err, is_some, nat_lt, nat_le, ◌==◌, if◌then◌else◌}
use Rattle.std.specs.Option.{option_or, option_map}
use Rattle.unwind_definitions.specs.declared.error.Error.{Error as Fault}
use Rattle.unwind_definitions.specs.Instructions.{Rule, Instruction, Advance, SetLocation, Program}
use Rattle.unwind_definitions.specs.Row.{RowInstructions, kept_instructions, cut_of, cfa_rule, rule_of, initial_rule, argument_size, location, up_to, first_fault, fault_of, is_open, or_else, from_common}
use Rattle.frame_rows.specs.Rules.{rule_in, cfa_meaning}
use Rattle.frame_rows.specs.RowValue.{RowValue}
use Rattle.frame_rows.specs.Rows.{GivesRow, IsLast}
use Rattle.frame_rows.specs.declared.machine.RowState.{RowState}
use Rattle.frame_rows.specs.declared.machine.Machine.{Machine}

-- one more instruction of a description's own program
abbrev pub push : RowInstructions → Instruction → RowInstructions
push run i = record run { own = run.own ++ i ∷ [] }

-- whether an instruction at a location leads past an address; where no address is asked, none does
abbrev pub stops : ℕ → Option ℕ → Instruction → Bool
stops at None i = false
stops at (Some pc) (Advance n) = nat_lt pc (at + n) && nat_lt (at + n) (2 ^ 64)
stops at (Some pc) (SetLocation a) = nat_lt pc a && nat_le at a
stops at (Some pc) _ = false

-- the instructions up to the address asked, or all
abbrev pub part : ℕ → Option ℕ → List Instruction → List Instruction
part at None is = is
part at (Some pc) is = up_to at pc is

-- what a program's part up to the address asked makes of what ran before it: the first fault, or all that ran
unfoldable pub outcome : ℕ → Option ℕ → RowInstructions → Program → Result RowInstructions Fault
outcome start pc run p = let is = part (location start run.own) pc p.instructions in
    or_else (option_or (first_fault start run is) (if length is == length p.instructions then p.fault else None)) (Ok (record run { own = run.own ++ is }))

-- the CFA, the rules and the argument size are those of a row
pub record IsStateOf (state : RowState) (run : RowInstructions) : Type 0 where
  pub cfa : option_map cfa_meaning state.cfa ≡ cfa_rule run
  pub rules : (c : ℕ) → rule_in state.rules c ≡ rule_of run c
  pub arguments : state.saved_args_size ≡ argument_size run

-- No state is open: what follows is kept whole.
abbrev pub IsClosed : List Instruction → Type 0
IsClosed own = (rest : List Instruction) → kept_instructions (own ++ rest) ≡ kept_instructions own ++ kept_instructions rest

-- A state is open since instructions: a restore leads back to them.
abbrev pub IsOpenSince : List Instruction → List Instruction → Type 0
IsOpenSince before own = (rest kept : List Instruction) → (cut_of rest).after ≡ Some kept → kept_instructions (own ++ rest) ≡ kept_instructions before ++ kept

-- what is remembered, if a state is open
abbrev pub IsRemembered : Option RowState → RowInstructions → Type 0
IsRemembered None run = IsClosed run.own
IsRemembered (Some state) run = (before : List Instruction) × IsOpenSince before run.own × IsStateOf state (record run { own = before })

-- the initial rules of a machine
abbrev pub initial_rules : Machine → List (ℕ × Rule)
initial_rules machine = machine.initial

-- the machine has run these instructions, from a location on
pub record Represents (start : ℕ) (machine : Machine) (run : RowInstructions) : Type 0 where
  pub here : machine.location ≡ location start run.own
  pub state : IsStateOf machine.state run
  pub opened : is_some machine.remembered ≡ is_open run.own
  pub remembered : IsRemembered machine.remembered run
  pub initial : (c : ℕ) → rule_in (initial_rules machine) c ≡ initial_rule run c

-- the machine after one more instruction, or why it can't follow
abbrev pub Follows : ℕ → RowInstructions → Instruction → Result (Unit {0}) Fault → Machine → Type 0
Follows start run i (Ok done) new = (fault_of start run i ≡ None) × Represents start new (push run i)
Follows start run i (Err e) new = fault_of start run i ≡ Some e

-- The machine has run what a row is made of: what it ends with gives the row, or a fault is the row's.
abbrev pub MakesRow : ℕ → Result (Unit {0}) Fault → Machine → Result RowInstructions Fault → Type 0
MakesRow start (Ok done) new due = (run : RowInstructions) × Represents start new run × ((r : Result RowValue Fault) → IsLast run r → GivesRow r due)
MakesRow start (Err e) new due = due ≡ Err e

-- what the machine ends with is what a program says
abbrev pub Ends : ℕ → Result (Unit {0}) Fault → Machine → Result RowInstructions Fault → Type 0
Ends start (Ok done) new due = (run : RowInstructions) × (due ≡ Ok run) × Represents start new run
Ends start (Err e) new due = due ≡ Err e

-- what a common information entry's program alone makes
abbrev pub whole : List Instruction → RowInstructions
whole instructions = record { common = []; own = instructions }

-- a common information entry's program has run whole
abbrev pub RunsCommon : Result (Unit {0}) Fault → Machine → Program → Type 0
RunsCommon (Ok done) new common = (run : RowInstructions) × (outcome 0 None (from_common []) common ≡ Ok run) × Represents 0 new (whole common.instructions)
RunsCommon (Err e) new common = outcome 0 None (from_common []) common ≡ Err e

-- a row, or a fault, is what a common information entry's program ended with
abbrev pub IsEndOf : RowState → Option Fault → Program → Type 0
IsEndOf state None common = (run : RowInstructions) × (outcome 0 None (from_common []) common ≡ Ok run) × IsStateOf state (whole common.instructions)
IsEndOf state (Some e) common = outcome 0 None (from_common []) common ≡ Err e

-- a common information entry's program has run whole, and a description's own is to run
abbrev pub Begins : ℕ → Result (Unit {0}) Fault → Machine → Program → Type 0
Begins start (Ok done) new common = (run : RowInstructions) × (outcome 0 None (from_common []) common ≡ Ok run) × Represents start new (from_common common.instructions)
Begins start (Err e) new common = outcome 0 None (from_common []) common ≡ Err e
