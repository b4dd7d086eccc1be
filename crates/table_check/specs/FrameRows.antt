-- Rows of a frame, as rows are kept. No public clause cites this.
use Rattle.std.specs.Prelude.{◌≡◌, ℕ, ◌^◌, ◌<◌, List, Some, None, IsFalse}
use Rattle.unwind_definitions.specs.Columns as column
use Rattle.unwind_definitions.specs.Instructions.{Rule, Offset, Undefined}
use Rattle.unwind_definitions.specs.Row.{CfaRule, ColumnAndOffset, ByExpression}
use Rattle.unwind_definitions.specs.State.{CalleeSaved, column_of}
use Rattle.unwind_definitions.specs.Prologue.{Step, distance}
use Rattle.unwind_definitions.specs.DescribedRows.{FindsRegister, IsUnchanged, MayFindLate, cfa_after, may_have_rule, negative}
use Rattle.frame_rows.specs.RowValue.{RowValue}
use Rattle.frame_rows.specs.Rules.{rule_in}

-- an offset of a CFA is a word
abbrev pub HasSmallOffset : CfaRule → Type 0
HasSmallOffset (ColumnAndOffset c n) = n < 2 ^ 64
HasSmallOffset (ByExpression bytes) = Unit {0}

abbrev pub HasNoOthers : List (ℕ × Rule) → Type 0
HasNoOthers rules = (c : ℕ) → IsFalse (may_have_rule c) → rule_in rules c ≡ None

-- what the rows of a frame have in common
pub record IsFrameRow (steps : List Step) (row : RowValue) : Type 0 where
  pub cfa : row.cfa ≡ cfa_after steps
  pub ret : rule_in row.rules column.ra ≡ Some (Offset (negative 8))
  pub arguments : row.saved_args_size ≡ 0
  pub others : HasNoOthers row.rules

abbrev pub FindsIn : RowValue → List Step → CalleeSaved → Type 0
FindsIn row steps r = FindsRegister (distance r steps) (rule_in row.rules (column_of r))

abbrev pub FindsLateIn : RowValue → List Step → CalleeSaved → Type 0
FindsLateIn row steps r = MayFindLate r steps (rule_in row.rules (column_of r))

pub record IsBodyValue (steps : List Step) (row : RowValue) : Type 0 where
  pub frame : IsFrameRow steps row
  pub saved : (r : CalleeSaved) → FindsIn row steps r

pub record IsPrologueValue (steps : List Step) (row : RowValue) : Type 0 where
  pub frame : IsFrameRow steps row
  pub saved : (r : CalleeSaved) → FindsLateIn row steps r

pub record IsOutermostValue (row : RowValue) : Type 0 where
  pub cfa : row.cfa ≡ ColumnAndOffset column.rsp 8
  pub ret : rule_in row.rules column.ra ≡ Some Undefined
  pub arguments : row.saved_args_size ≡ 0
  pub others : HasNoOthers row.rules
  pub saved : (r : CalleeSaved) → IsUnchanged (rule_in row.rules (column_of r))
