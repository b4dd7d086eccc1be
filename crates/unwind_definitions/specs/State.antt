-- What is followed of a machine in a call: the return address, the stack pointer, and the registers that a function
-- keeps for its caller. System V x86-64 psABI, section 3.2.1 and the table of DWARF register numbers.
use Rattle.std.specs.Prelude.{◌≡◌, ℕ, ◌^◌, ◌<◌, Bool, true, false, [], ◌∷◌, Some, IsFalse}
use Rattle.unwind_definitions.specs.Membership.{is_among}
use Rattle.unwind_definitions.specs.Columns as column
use Rattle.unwind_definitions.specs.Caller.{Columns}

-- the callee-saved registers, but for the stack pointer
pub data CalleeSaved : Type 0 where
  RBX RBP R12 R13 R14 R15 : CalleeSaved

-- a return address, a stack pointer, and what the six registers hold
pub record State : Type 0 where
  pub ra : ℕ
  pub sp : ℕ
  pub rbx : ℕ
  pub rbp : ℕ
  pub r12 : ℕ
  pub r13 : ℕ
  pub r14 : ℕ
  pub r15 : ℕ

abbrev pub value_of : CalleeSaved → State → ℕ
value_of RBX s = s.rbx
value_of RBP s = s.rbp
value_of R12 s = s.r12
value_of R13 s = s.r13
value_of R14 s = s.r14
value_of R15 s = s.r15

-- the DWARF number of a register
abbrev pub column_of : CalleeSaved → ℕ
column_of RBX = column.rbx
column_of RBP = column.rbp
column_of R12 = column.r12
column_of R13 = column.r13
column_of R14 = column.r14
column_of R15 = column.r15

abbrev pub is_same : CalleeSaved → CalleeSaved → Bool
is_same RBX RBX = true
is_same RBP RBP = true
is_same R12 R12 = true
is_same R13 R13 = true
is_same R14 R14 = true
is_same R15 R15 = true
is_same _ _ = false

-- each number is a word of 64 bits
pub record IsState (s : State) : Type 0 where
  pub ra : s.ra < 2 ^ 64
  pub sp : s.sp < 2 ^ 64
  pub registers : (r : CalleeSaved) → value_of r s < 2 ^ 64

-- columns show a state where they hold its return address, its stack pointer and its registers
pub record Shows (columns : Columns) (s : State) : Type 0 where
  pub ra : columns column.ra ≡ Some s.ra
  pub sp : columns column.rsp ≡ Some s.sp
  pub saved : (r : CalleeSaved) → columns (column_of r) ≡ Some (value_of r s)

-- the columns of a state
abbrev pub is_followed : ℕ → Bool
is_followed c = is_among (column.rbx ∷ column.rbp ∷ column.rsp ∷ column.r12 ∷ column.r13 ∷ column.r14 ∷ column.r15 ∷ column.ra ∷ []) c

-- every column that is not one of a state's holds the same
abbrev pub KeepsOthers : Columns → Columns → Type 0
KeepsOthers old new = (c : ℕ) → IsFalse (is_followed c) → new c ≡ old c
