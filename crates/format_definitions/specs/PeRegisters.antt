-- The registers of x86-64 by the numbers of PE's unwind data and by the columns of DWARF. System V x86-64 psABI, table of
-- DWARF register numbers; Microsoft x64 exception handling, operation info.
use Rattle.std.specs.Prelude.{◌≡◌, ℕ, Bool, [], ◌∷◌, Some, IsFalse, nat_lt, ◌==◌, if◌then◌else◌, unwrap_or}
use Rattle.std.specs.Option.{option_map}
use Rattle.unwind_definitions.specs.Columns as column
use Rattle.unwind_definitions.specs.Membership.{is_among}
use Rattle.unwind_definitions.specs.Caller.{Columns}
use Rattle.unwind_definitions.specs.State.{CalleeSaved, RBX, RBP, R12, R13, R14, R15, State, value_of, is_followed}
use Rattle.pe_unwind_info.specs.Machine.{Registers, registers_of}
use Rattle.pe_unwind_info.specs.Registers.{register_number}
use Rattle.pe_unwind_info.specs.declared.x86_64.registers.Register.{Register}
use Rattle.pe_unwind_info.specs.declared.x86_64.registers.Register.TheVariants as pe

abbrev pub pe_register : CalleeSaved → Register
pe_register RBX = pe.RBX
pe_register RBP = pe.RBP
pe_register R12 = pe.R12
pe_register R13 = pe.R13
pe_register R14 = pe.R14
pe_register R15 = pe.R15

abbrev pub number_of : CalleeSaved → ℕ
number_of r = register_number (pe_register r)

-- registers show a state where they hold its stack pointer and its registers; the return address stands apart
pub record ShowsRegisters (regs : Registers) (s : State) : Type 0 where
  pub sp : regs.general 4 ≡ s.sp
  pub saved : (r : CalleeSaved) → regs.general (number_of r) ≡ value_of r s

-- What the code of a PE module keeps for its caller: RBX, RSP, RBP, RSI, RDI and R12 to R15, by their numbers.
abbrev pub is_kept : ℕ → Bool
is_kept n = is_among (3 ∷ 4 ∷ 5 ∷ 6 ∷ 7 ∷ 12 ∷ 13 ∷ 14 ∷ 15 ∷ []) n

-- all other registers hold the same
abbrev pub KeepsScratch : Registers → Registers → Type 0
KeepsScratch old new = (n : ℕ) → IsFalse (is_kept n) → new.general n ≡ old.general n

-- ---- columns

-- RCX and RDX, and RSP, RBP, RSI and RDI, are numbered otherwise
abbrev pub column_at : ℕ → ℕ
column_at n =
    if n == 1 then column.rcx else (if n == 2 then column.rdx
    else (if n == 4 then column.rsp else (if n == 5 then column.rbp
    else (if n == 6 then column.rsi else (if n == 7 then column.rdi else n)))))

abbrev pub number_at : ℕ → ℕ
number_at c =
    if c == column.rdx then 2 else (if c == column.rcx then 1
    else (if c == column.rsp then 4 else (if c == column.rbp then 5
    else (if c == column.rsi then 6 else (if c == column.rdi then 7 else c)))))

-- the registers that columns hold; XMM registers have no column
abbrev pub registers_in : Columns → Registers
registers_in columns = registers_of (λ n. unwrap_or (columns (column_at n)) 0) (λ n. 0)

-- the columns of a caller, from its return address and its registers; the others stay as they are
abbrev pub columns_with : Columns → ℕ → Registers → Columns
columns_with old ret regs c = if c == column.ra then Some ret else (if nat_lt c column.ra then option_map (λ (v : ℕ). regs.general (number_at c)) (old c) else old c)

-- every column that is not one of a state's, and not that of RSI or RDI, holds the same
abbrev pub KeepsScratchColumns : Columns → Columns → Type 0
KeepsScratchColumns old new = (c : ℕ) → IsFalse (is_followed c) → IsFalse (is_among (column.rsi ∷ column.rdi ∷ []) c) → new c ≡ old c
