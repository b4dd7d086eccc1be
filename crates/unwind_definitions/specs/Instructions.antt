-- The instructions of a frame program, decoded from its bytes. DWARF 5 section 6.4.2 and 7.24.
use Rattle.std.specs.Prelude.{ℕ, zero, suc, ◌*◌, ◌/◌, ◌%◌, ◌^◌, List, [], ◌∷◌, length, Option, Some, None, Result, Ok, Err, nat_le, ◌==◌, if◌then◌else◌}
use Rattle.std.specs.Int.{Width, w8, w16, w32}
use Rattle.unwind_definitions.specs.Faults.{Fault, UnknownInstruction, UnsupportedRegister, ◌>>=◌}
use Rattle.unwind_definitions.specs.Input.{Input, Reads, split, number, uleb, sleb}
use Rattle.unwind_definitions.specs.Pointers.{Bases, direct}
use Rattle.unwind_definitions.specs.CallFrameOpcodes.{DW_CFA_advance_loc, DW_CFA_offset, DW_CFA_restore, DW_CFA_nop, DW_CFA_set_loc, DW_CFA_advance_loc1, DW_CFA_advance_loc2, DW_CFA_advance_loc4, DW_CFA_offset_extended, DW_CFA_restore_extended, DW_CFA_undefined, DW_CFA_same_value, DW_CFA_register, DW_CFA_remember_state, DW_CFA_restore_state, DW_CFA_def_cfa, DW_CFA_def_cfa_register, DW_CFA_def_cfa_offset, DW_CFA_def_cfa_expression, DW_CFA_expression, DW_CFA_offset_extended_sf, DW_CFA_def_cfa_sf, DW_CFA_def_cfa_offset_sf, DW_CFA_val_offset, DW_CFA_val_offset_sf, DW_CFA_val_expression, DW_CFA_GNU_args_size}

-- how a column's value in the caller is found; offsets are words
pub data Rule : Type 0 where
  Undefined SameValue : Rule
  Offset ValOffset InRegister : ℕ → Rule
  Expression ValExpression : List ℕ → Rule

pub data Instruction : Type 0 where
  Nop Remember Restore : Instruction
  -- raises the location by a number, or sets it
  Advance SetLocation : ℕ → Instruction
  -- a column's rule, and its initial rule again
  Write : ℕ → Rule → Instruction
  Reset : ℕ → Instruction
  -- the CFA: a column and an offset, either alone, or an expression
  Cfa : ℕ → ℕ → Instruction
  CfaColumn CfaOffset : ℕ → Instruction
  CfaExpression : List ℕ → Instruction
  -- the size of the arguments on the stack
  Arguments : ℕ → Instruction

-- what a common information entry says of the numbers in its programs, and how addresses are spelled there
pub record Coding : Type 0 where
  pub code_factor : ℕ
  pub data_factor : ℕ
  pub address : ℕ
  pub bases : Bases

-- a number of data units, as a word
abbrev pub data_units : Coding → ℕ → ℕ
data_units coding n = (n * coding.data_factor) % 2 ^ 64

abbrev pub column : Reads ℕ
column c = do
  r ← uleb c
  if nat_le r.0 65535 then Ok r else Err UnsupportedRegister

abbrev pub gives : Instruction → Reads Instruction
gives i c = Ok (i, c)

abbrev pub advance : Coding → Width → Reads Instruction
advance coding w c = do
  n ← number w c
  Ok (Advance (n.0 * coding.code_factor), n.1)

abbrev pub sets_location : Coding → Reads Instruction
sets_location coding c = do
  a ← direct coding.address coding.bases c
  Ok (SetLocation a.0, a.1)

abbrev pub writes_offset : Coding → (ℕ → Rule) → Reads Instruction
writes_offset coding rule c = do
  r ← column c
  n ← uleb r.1
  Ok (Write r.0 (rule (data_units coding n.0)), n.1)

abbrev pub writes_signed : Coding → (ℕ → Rule) → Reads Instruction
writes_signed coding rule c = do
  r ← column c
  n ← sleb r.1
  Ok (Write r.0 (rule (data_units coding n.0)), n.1)

abbrev pub writes : Rule → Reads Instruction
writes rule c = do
  r ← column c
  Ok (Write r.0 rule, r.1)

abbrev pub writes_register : Reads Instruction
writes_register c = do
  r ← column c
  s ← column r.1
  Ok (Write r.0 (InRegister s.0), s.1)

abbrev pub resets : Reads Instruction
resets c = do
  r ← column c
  Ok (Reset r.0, r.1)

abbrev pub writes_block : (List ℕ → Rule) → Reads Instruction
writes_block rule c = do
  r ← column c
  n ← uleb r.1
  b ← split n.0 n.1
  Ok (Write r.0 (rule b.0.bytes), b.1)

abbrev pub defines_cfa : Reads Instruction
defines_cfa c = do
  r ← column c
  n ← uleb r.1
  Ok (Cfa r.0 n.0, n.1)

abbrev pub defines_cfa_signed : Coding → Reads Instruction
defines_cfa_signed coding c = do
  r ← column c
  n ← sleb r.1
  Ok (Cfa r.0 (data_units coding n.0), n.1)

abbrev pub defines_cfa_column : Reads Instruction
defines_cfa_column c = do
  r ← column c
  Ok (CfaColumn r.0, r.1)

abbrev pub defines_cfa_offset : Reads Instruction
defines_cfa_offset c = do
  n ← uleb c
  Ok (CfaOffset n.0, n.1)

abbrev pub defines_cfa_offset_signed : Coding → Reads Instruction
defines_cfa_offset_signed coding c = do
  n ← sleb c
  Ok (CfaOffset (data_units coding n.0), n.1)

abbrev pub defines_cfa_block : Reads Instruction
defines_cfa_block c = do
  n ← uleb c
  b ← split n.0 n.1
  Ok (CfaExpression b.0.bytes, b.1)

abbrev pub sizes_arguments : Reads Instruction
sizes_arguments c = do
  n ← uleb c
  Ok (Arguments n.0, n.1)

abbrev pub unknown : Reads Instruction
unknown c = Err UnknownInstruction

-- The instruction of a first byte below 64, by the groups of DWARF 5 section 6.4.2: what begins a row, what defines the
-- CFA, what gives a register its rule by an offset or otherwise, and what remembers, restores, passes the size of arguments or does nothing.
abbrev pub row_creation : Coding → ℕ → Reads Instruction → Reads Instruction
row_creation coding op other =
    if op == DW_CFA_set_loc then sets_location coding
    else (if op == DW_CFA_advance_loc1 then advance coding w8
    else (if op == DW_CFA_advance_loc2 then advance coding w16
    else (if op == DW_CFA_advance_loc4 then advance coding w32
    else other)))

abbrev pub cfa_definition : Coding → ℕ → Reads Instruction → Reads Instruction
cfa_definition coding op other =
    if op == DW_CFA_def_cfa then defines_cfa
    else (if op == DW_CFA_def_cfa_sf then defines_cfa_signed coding
    else (if op == DW_CFA_def_cfa_register then defines_cfa_column
    else (if op == DW_CFA_def_cfa_offset then defines_cfa_offset
    else (if op == DW_CFA_def_cfa_offset_sf then defines_cfa_offset_signed coding
    else (if op == DW_CFA_def_cfa_expression then defines_cfa_block
    else other)))))

abbrev pub offset_rule : Coding → ℕ → Reads Instruction → Reads Instruction
offset_rule coding op other =
    if op == DW_CFA_offset_extended then writes_offset coding Offset
    else (if op == DW_CFA_offset_extended_sf then writes_signed coding Offset
    else (if op == DW_CFA_val_offset then writes_offset coding ValOffset
    else (if op == DW_CFA_val_offset_sf then writes_signed coding ValOffset
    else other)))

abbrev pub register_rule : ℕ → Reads Instruction → Reads Instruction
register_rule op other =
    if op == DW_CFA_undefined then writes Undefined
    else (if op == DW_CFA_same_value then writes SameValue
    else (if op == DW_CFA_register then writes_register
    else (if op == DW_CFA_expression then writes_block Expression
    else (if op == DW_CFA_val_expression then writes_block ValExpression
    else (if op == DW_CFA_restore_extended then resets
    else other)))))

abbrev pub row_state : ℕ → Reads Instruction → Reads Instruction
row_state op other =
    if op == DW_CFA_remember_state then gives Remember
    else (if op == DW_CFA_restore_state then gives Restore
    else (if op == DW_CFA_nop then gives Nop
    else (if op == DW_CFA_GNU_args_size then sizes_arguments
    else other)))

abbrev pub operation : Coding → ℕ → Reads Instruction
operation coding op = row_creation coding op (cfa_definition coding op (offset_rule coding op (register_rule op (row_state op unknown))))

-- a register's offset from the CFA, in data units
abbrev pub saves : Coding → ℕ → Reads Instruction
saves coding r c = do
  n ← uleb c
  Ok (Write r (Offset (data_units coding n.0)), n.1)

-- an instruction by the two high and the six low bits of its first byte
unfoldable pub instruction_of : Coding → ℕ → ℕ → Reads Instruction
instruction_of coding high low =
    if high == DW_CFA_advance_loc then gives (Advance (low * coding.code_factor))
    else (if high == DW_CFA_offset then saves coding low
    else (if high == DW_CFA_restore then gives (Reset low)
    else operation coding low))

abbrev pub instruction : Coding → Reads Instruction
instruction coding c = do
  b ← number w8 c
  instruction_of coding (b.0 / 64) (b.0 % 64) b.1

-- A program: its instructions up to the first that can't be read, and why that one can't.
pub record Program : Type 0 where
  pub instructions : List Instruction
  pub fault : Option Fault

-- a first instruction, where it can be read, and what follows it
abbrev pub after : Result (Instruction × Input) Fault → (Input → Program) → Program
after (Ok r) rest = let p = rest r.1 in record { instructions = r.0 ∷ p.instructions; fault = p.fault }
after (Err e) rest = record { instructions = []; fault = Some e }

-- one instruction after another, at most so many
abbrev pub program_from : ℕ → Coding → Input → Program
program_from zero coding c = record { instructions = []; fault = None }
program_from (suc turns) coding c = if length c.bytes == 0 then record { instructions = []; fault = None } else after (instruction coding c) (program_from turns coding)

-- all of the bytes: each instruction takes one at least
abbrev pub program : Coding → Input → Program
program coding c = program_from (length c.bytes) coding c
