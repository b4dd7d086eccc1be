-- Which rows say what is known at an address of code. DWARF 5 section 6.4.1 for the rules of a row, and section 6.4.4 for an
-- undefined return address; System V x86-64 psABI, the table of DWARF register numbers, for the columns.
use Rattle.std.specs.Prelude.{◌≡◌, ◌⊎◌, ℕ, Bool, Option, Some, None, IsFalse, if◌then◌else◌}
use Rattle.std.specs.List.{Contains}
use Rattle.unwind_definitions.specs.Columns as column
use Rattle.unwind_definitions.specs.State.{CalleeSaved, column_of}
use Rattle.unwind_definitions.specs.Instructions.{Rule, Offset, Undefined}
use Rattle.unwind_definitions.specs.Row.{RowInstructions, CfaRule, ColumnAndOffset, rule_of, cfa_rule}
use Rattle.unwind_definitions.specs.DescribedRows.{negative, IsUnchanged, may_have_rule}
use Rattle.frame_facts.specs.Facts.{Facts}

-- the CFA is RSP plus the number that is known for it, or RBP plus the one that is known for that
abbrev pub IsKnownCfa : Facts → CfaRule → Type 0
IsKnownCfa facts rule = (n : ℕ) ×
    (((facts.rsp ≡ Some n) × (rule ≡ ColumnAndOffset column.rsp n)) ⊎ ((facts.rbp ≡ Some n) × (rule ≡ ColumnAndOffset column.rbp n)))

-- The return address is just below the CFA. An outermost frame has none, and an undefined one says that unwinding is complete.
abbrev pub return_rule : Bool → Rule
return_rule outermost = if outermost then Undefined else Offset (negative 8)

-- a register is found in a slot that is known of it; or it is unchanged, and known to hold its value in the caller
abbrev pub FindsKnown : Facts → CalleeSaved → Option Rule → Type 0
FindsKnown facts r rule =
    ((d : ℕ) × Contains facts.saved (record { register = r; distance = d }) × (rule ≡ Some (Offset (negative d))))
    ⊎ (Contains facts.kept r × IsUnchanged rule)

-- A row says facts: its CFA is one that is known, its rule of the return address is the one due, it finds each callee-saved
-- register where it is known to be, and it has no other rule. The size of arguments is free, since the caller doesn't depend on it.
-- More may be known than the row needs.
pub record SaysFacts (facts : Facts) (run : RowInstructions) : Type 0 where
  pub rule : CfaRule
  pub cfa : cfa_rule run ≡ Some rule
  pub known : IsKnownCfa facts rule
  pub ret : rule_of run column.ra ≡ Some (return_rule facts.outermost)
  pub registers : (r : CalleeSaved) → FindsKnown facts r (rule_of run (column_of r))
  pub others : (c : ℕ) → IsFalse (may_have_rule c) → rule_of run c ≡ None
