-- The row of a frame program at an address, without a changing state: of what isn't undone, the last word counts.
-- DWARF 5 sections 6.4.1 and 6.4.3.
use Rattle.std.specs.Prelude.{ℕ, ◌+◌, ◌^◌, Bool, true, false, ◌&&◌, not, List, [], ◌∷◌, ◌++◌, length, Option, Some, None, Result, Ok, Err, nat_lt, nat_le, ◌==◌, is_some, if◌then◌else◌}
use Rattle.std.specs.List.{filter, filter_map}
use Rattle.std.specs.Option.{option_or, unwrap_or}
use Rattle.unwind_definitions.specs.Faults.{Fault, AddressOverflow, LocationGoesBack, NoCfaRegister, TooManyRegisterRules, StackFull, PopWithEmptyStack, NoUnwindInfoForAddress}
use Rattle.unwind_definitions.specs.Pointers.{Bases}
use Rattle.unwind_definitions.specs.Instructions.{Rule, Instruction, Remember, Restore, Advance, SetLocation, Write, Reset, Cfa, CfaColumn, CfaOffset, CfaExpression, Arguments, Program, program}
use Rattle.unwind_definitions.specs.Entries.{Fde, coding_of}

-- What the last instruction says that says something.
abbrev pub last_said : {A : Type 0} → (Instruction → Option A) → List Instruction → Option A
last_said says [] = None
last_said says (i ∷ is) = option_or (last_said says is) (says i)

-- The instructions from a location on, up to the one that would lead past an address. One that leads past all addresses, or back, isn't left out: it is a fault.
abbrev pub up_to : ℕ → ℕ → List Instruction → List Instruction
up_to at pc [] = []
up_to at pc (Advance n ∷ is) = if nat_lt pc (at + n) && nat_lt (at + n) (2 ^ 64) then [] else Advance n ∷ up_to (at + n) pc is
up_to at pc (SetLocation a ∷ is) = if nat_lt pc a && nat_le at a then [] else SetLocation a ∷ up_to a pc is
up_to at pc (i ∷ is) = i ∷ up_to at pc is

-- where instructions lead
abbrev pub location : ℕ → List Instruction → ℕ
location at [] = at
location at (Advance n ∷ is) = location (at + n) is
location at (SetLocation a ∷ is) = location a is
location at (i ∷ is) = location at is

-- without each stretch from a remember to the next restore; and the same of what is after the first restore
pub record Cut : Type 0 where
  pub kept : List Instruction
  pub after : Option (List Instruction)

abbrev pub cut_of : List Instruction → Cut
cut_of [] = record { kept = []; after = None }
cut_of (Remember ∷ is) = let c = cut_of is in record { kept = unwrap_or c.after c.kept; after = c.after }
cut_of (Restore ∷ is) = let c = cut_of is in record { kept = Restore ∷ c.kept; after = Some c.kept }
cut_of (i ∷ is) = let c = cut_of is in record { kept = i ∷ c.kept; after = c.after }

abbrev pub kept_instructions : List Instruction → List Instruction
kept_instructions is = (cut_of is).kept

-- what an instruction says of a column: a rule, or its initial one
abbrev pub says_of : Option Rule → ℕ → Instruction → Option (Option Rule)
says_of initial column (Write c rule) = if c == column then Some (Some rule) else None
says_of initial column (Reset c) = if c == column then Some initial else None
says_of initial column _ = None

-- the CFA: a column and an offset, or an expression
pub data CfaRule : Type 0 where
  ColumnAndOffset : ℕ → ℕ → CfaRule
  ByExpression : List ℕ → CfaRule

abbrev pub whole_cfa : Instruction → Option CfaRule
whole_cfa (Cfa c n) = Some (ColumnAndOffset c n)
whole_cfa (CfaExpression bytes) = Some (ByExpression bytes)
whole_cfa _ = None

abbrev pub cfa_column : Instruction → Option ℕ
cfa_column (Cfa c n) = Some c
cfa_column (CfaColumn c) = Some c
cfa_column _ = None

abbrev pub cfa_offset : Instruction → Option ℕ
cfa_offset (Cfa c n) = Some n
cfa_offset (CfaOffset n) = Some n
cfa_offset _ = None

abbrev pub arguments : Instruction → Option ℕ
arguments (Arguments n) = Some n
arguments _ = None

-- the last whole definition, changed by the later partial ones
abbrev pub cfa_from : Option CfaRule → Option ℕ → Option ℕ → Option CfaRule
cfa_from None column offset = None
cfa_from (Some (ColumnAndOffset c n)) column offset = Some (ColumnAndOffset (unwrap_or column c) (unwrap_or offset n))
cfa_from (Some (ByExpression bytes)) column offset = Some (ByExpression bytes)

abbrev pub cfa_of : List Instruction → Option CfaRule
cfa_of is = cfa_from (last_said whole_cfa is) (last_said cfa_column is) (last_said cfa_offset is)

-- the two programs of a description: the one of its CIE, and its own up to an address
pub record RowInstructions : Type 0 where
  pub common : List Instruction
  pub own : List Instruction

abbrev pub initial_rule : RowInstructions → ℕ → Option Rule
initial_rule run column = unwrap_or (last_said (says_of None column) (kept_instructions run.common)) None

abbrev pub rule_of : RowInstructions → ℕ → Option Rule
rule_of run column = unwrap_or (last_said (says_of (initial_rule run column) column) (kept_instructions run.own)) (initial_rule run column)

abbrev pub cfa_rule : RowInstructions → Option CfaRule
cfa_rule run = cfa_of (kept_instructions run.common ++ kept_instructions run.own)

abbrev pub argument_size : RowInstructions → ℕ
argument_size run = unwrap_or (last_said arguments (kept_instructions run.common ++ kept_instructions run.own)) 0

-- the columns that have a rule, each once
abbrev pub column_named : Instruction → Option ℕ
column_named (Write c rule) = Some c
column_named (Reset c) = Some c
column_named _ = None

abbrev pub distinct : List ℕ → List ℕ
distinct [] = []
distinct (x ∷ xs) = x ∷ filter (λ y. not (y == x)) (distinct xs)

abbrev pub columns_with_rules : RowInstructions → List ℕ
columns_with_rules run = filter (λ c. is_some (rule_of run c)) (distinct (filter_map column_named (run.common ++ run.own)))

abbrev pub remembers : Instruction → Option Bool
remembers Remember = Some true
remembers Restore = Some false
remembers _ = None

-- whether a state is remembered after instructions
abbrev pub is_open : List Instruction → Bool
is_open is = unwrap_or (last_said remembers is) false

abbrev pub has_column : Option CfaRule → Bool
has_column (Some (ColumnAndOffset c n)) = true
has_column _ = false

abbrev pub fault_where : Bool → Fault → Option Fault
fault_where b e = if b then Some e else None

-- a rule for a 33rd column
abbrev pub has_too_many_rules : RowInstructions → ℕ → Option Rule → Bool
has_too_many_rules run column rule = is_some rule && (not (is_some (rule_of run column)) && nat_le 32 (length (columns_with_rules run)))

-- Whether an instruction can't follow those that ran before it, in a program that began at a location.
abbrev pub fault_of : ℕ → RowInstructions → Instruction → Option Fault
fault_of start run (Advance n) = fault_where (nat_le (2 ^ 64) (location start run.own + n)) AddressOverflow
fault_of start run (SetLocation a) = fault_where (nat_lt a (location start run.own)) LocationGoesBack
fault_of start run (Write c rule) = fault_where (has_too_many_rules run c (Some rule)) TooManyRegisterRules
fault_of start run (Reset c) = fault_where (has_too_many_rules run c (initial_rule run c)) TooManyRegisterRules
fault_of start run (CfaColumn c) = fault_where (not (has_column (cfa_rule run))) NoCfaRegister
fault_of start run (CfaOffset n) = fault_where (not (has_column (cfa_rule run))) NoCfaRegister
fault_of start run Remember = fault_where (is_open run.own) StackFull
fault_of start run Restore = fault_where (not (is_open run.own)) PopWithEmptyStack
fault_of start run _ = None

-- the first fault in reading order, of instructions after others
abbrev pub first_fault : ℕ → RowInstructions → List Instruction → Option Fault
first_fault start run [] = None
first_fault start run (i ∷ is) = option_or (fault_of start run i) (first_fault start (record run { own = run.own ++ i ∷ [] }) is)

abbrev pub from_common : List Instruction → RowInstructions
from_common common = record { common = common; own = [] }

-- the fault of the CIE's program, which runs whole from location 0
abbrev pub common_fault : Program → Option Fault
common_fault p = option_or (first_fault 0 (from_common []) p.instructions) p.fault

-- the fault of a program of which this is reached; what isn't reached can't be a fault
abbrev pub own_fault : ℕ → List Instruction → Program → List Instruction → Option Fault
own_fault start common p reached = option_or (first_fault start (from_common common) reached) (if length reached == length p.instructions then p.fault else None)

abbrev pub or_else : {A : Type 0} → Option Fault → Result A Fault → Result A Fault
or_else None r = r
or_else (Some e) r = Err e

-- the row of two programs, the CIE's, which runs whole, and one that begins at a location, of which this is reached
abbrev pub row_of : ℕ → Program → Program → List Instruction → Result RowInstructions Fault
row_of start common own reached = let run : RowInstructions = record { common = common.instructions; own = reached } in
    or_else (common_fault common) (or_else (own_fault start common.instructions own reached)
    (if is_some (cfa_rule run) then Ok run else Err NoCfaRegister))

-- the row of two programs at an address
abbrev pub row : ℕ → ℕ → Program → Program → Result RowInstructions Fault
row start pc common own = row_of start common own (up_to start pc own.instructions)

-- the range of a description contains an address
abbrev pub covers_pc : Fde → ℕ → Bool
covers_pc fde pc = nat_le fde.start pc && nat_lt pc (fde.start + fde.size)

-- the row of a description at an address of its range
unfoldable pub row_at : Bases → Fde → ℕ → Result RowInstructions Fault
row_at bases fde pc = if covers_pc fde pc
    then row fde.start pc (program (coding_of bases fde.cie) fde.cie.program) (program (coding_of bases fde.cie) fde.program)
    else Err NoUnwindInfoForAddress
