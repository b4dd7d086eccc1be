-- Which rows describe a frame that has run steps of a prologue: the CFA is the caller's stack pointer, and each register
-- that is saved is found below it. DWARF 5 section 6.4.1; System V x86-64 psABI for the registers.
use Rattle.std.specs.Prelude.{◌≡◌, ◌⊎◌, ℕ, ◌-◌, ◌^◌, ◌<◌, ◌≤◌, Bool, List, [], ◌∷◌, Option, Some, None, Ok, IsTrue, IsFalse, MatchOption, nat_le}
use Rattle.std.specs.List.{filter}
use Rattle.std.specs.Option.{option_map_or}
use Rattle.unwind_definitions.specs.Columns as column
use Rattle.unwind_definitions.specs.Membership.{is_among}
use Rattle.unwind_definitions.specs.Pointers.{Bases}
use Rattle.unwind_definitions.specs.Instructions.{Rule, Offset, SameValue, Undefined}
use Rattle.unwind_definitions.specs.Entries.{Fde}
use Rattle.unwind_definitions.specs.Row.{RowInstructions, CfaRule, ColumnAndOffset, rule_of, cfa_rule, argument_size, row_at}
use Rattle.unwind_definitions.specs.State.{CalleeSaved, RBP, column_of}
use Rattle.unwind_definitions.specs.Prologue.{Step, PrologueStep, steps_of, depth, frame_depth, distance}
use Rattle.unwind_definitions.specs.Function.{Function, in_body, first_body}

-- the word of a negative number
abbrev pub negative : ℕ → ℕ
negative d = 2 ^ 64 - d

-- the stack pointer, RSP, so far above itself; or RBP, once it is set, so far above what it was set to
abbrev pub cfa_after : List Step → CfaRule
cfa_after steps = option_map_or (λ d. ColumnAndOffset column.rbp d) (frame_depth steps) (ColumnAndOffset column.rsp (depth steps))

-- no rule, or the one that says so
abbrev pub IsUnchanged : Option Rule → Type 0
IsUnchanged rule = (rule ≡ None) ⊎ (rule ≡ Some SameValue)

-- a register that is saved is found at its distance below the CFA; another one is unchanged
abbrev pub FindsRegister : Option ℕ → Option Rule → Type 0
FindsRegister distance rule = MatchOption distance (IsUnchanged rule) (λ d. rule ≡ Some (Offset (negative d)))

-- the columns that may have a rule: the callee-saved registers, and the return address
abbrev pub may_have_rule : ℕ → Bool
may_have_rule c = is_among (column.rbx ∷ column.rbp ∷ column.r12 ∷ column.r13 ∷ column.r14 ∷ column.r15 ∷ column.ra ∷ []) c

-- the row of a frame whose prologue has run
pub record IsBodyRow (steps : List Step) (run : RowInstructions) : Type 0 where
  pub cfa : cfa_rule run ≡ Some (cfa_after steps)
  pub ret : rule_of run column.ra ≡ Some (Offset (negative 8))
  pub saved : (r : CalleeSaved) → FindsRegister (distance r steps) (rule_of run (column_of r))
  pub others : (c : ℕ) → IsFalse (may_have_rule c) → rule_of run c ≡ None
  pub arguments : argument_size run ≡ 0

-- Inside the prologue a register may have no rule yet although it is saved; RBP has one, once it is set.
abbrev pub MayFindLate : CalleeSaved → List Step → Option Rule → Type 0
MayFindLate r steps rule = FindsRegister (distance r steps) rule ⊎ ((rule ≡ None) × (r ≡ RBP → frame_depth steps ≡ None))

-- the row of a frame that has run these steps of its prologue
pub record IsPrologueRow (steps : List Step) (run : RowInstructions) : Type 0 where
  pub cfa : cfa_rule run ≡ Some (cfa_after steps)
  pub ret : rule_of run column.ra ≡ Some (Offset (negative 8))
  pub saved : (r : CalleeSaved) → MayFindLate r steps (rule_of run (column_of r))
  pub others : (c : ℕ) → IsFalse (may_have_rule c) → rule_of run c ≡ None
  pub arguments : argument_size run ≡ 0

-- the row of an outermost frame, which has no caller to return to
pub record IsOutermostRow (run : RowInstructions) : Type 0 where
  pub cfa : cfa_rule run ≡ Some (ColumnAndOffset column.rsp 8)
  pub ret : rule_of run column.ra ≡ Some Undefined
  pub saved : (r : CalleeSaved) → IsUnchanged (rule_of run (column_of r))
  pub others : (c : ℕ) → IsFalse (may_have_rule c) → rule_of run c ≡ None
  pub arguments : argument_size run ≡ 0

-- the steps that have ended at an offset in the code
abbrev pub ended_by : ℕ → List PrologueStep → List Step
ended_by offset prologue = steps_of (filter (λ (p : PrologueStep). nat_le p.end offset) prologue)

-- a description has a row at an address, of which something holds
abbrev pub HasRow : Bases → Fde → ℕ → (RowInstructions → Type 0) → Type 0
HasRow bases fde pc P = (run : RowInstructions) × (row_at bases fde pc ≡ Ok run) × P run

-- The rows of a function: at each address of its body; from its start to its first body range, where the steps that
-- have ended count; and of an outermost function in its body. At its other addresses, as in an epilogue, rows are free.
pub record DescribesRows (bases : Bases) (f : Function) (fde : Fde) : Type 0 where
  pub bodies : IsFalse f.outermost → (pc : ℕ) → IsTrue (in_body f pc) → HasRow bases fde pc (IsBodyRow (steps_of f.prologue))
  pub prologue : IsFalse f.outermost → (pc : ℕ) → f.start ≤ pc → pc < first_body f → HasRow bases fde pc (IsPrologueRow (ended_by (pc - f.start) f.prologue))
  pub outermost : IsTrue f.outermost → (pc : ℕ) → IsTrue (in_body f pc) → HasRow bases fde pc IsOutermostRow
