-- Rows of a table that have the rules of a machine. No public clause cites this.
use Rattle.std.specs.Prelude.{◌≡◌, ℕ, ◌<◌, List, length, slice_index_or, Option, Some, None, Result, Ok, Err, Bool, true, IfSome}
use Rattle.std.specs.declared.alloc.AllocError.{AllocError}
use Rattle.unwind_definitions.specs.declared.error.Error.{Error as Fault}
use Rattle.unwind_definitions.specs.Instructions.{Rule}
use Rattle.frame_rows.specs.RowValue.{RowValue}
use Rattle.frame_rows.specs.KeptRows.{Kept}
use Rattle.frame_rows.specs.declared.machine.Machine.{Machine}
use Rattle.frame_rows.specs.declared.row_bodies.RowBody.{RowBody}
use Rattle.frame_rows.specs.declared.row_table.TableRow.{TableRow}

-- a row has these rules
abbrev pub HasRules : Result RowValue Fault → List (ℕ × Rule) → Type 0
HasRules (Ok row) rules = row.rules ≡ rules
HasRules (Err e) rules = ⊥

-- the row at an index has these rules, if an index is given
abbrev pub IsRowWith : List Kept → Option ℕ → List (ℕ × Rule) → Type 0
IsRowWith rows None rules = Unit {0}
IsRowWith rows (Some i) rules = (i < length rows) × ((d : Kept) → HasRules (slice_index_or rows i d).answer rules)

-- the rows of a table whose rules a machine and its remembered state are said to have, have them
abbrev pub KnowsRows : List Kept → Machine → Type 0
KnowsRows rows machine = IsRowWith rows machine.rules_of machine.state.rules × IfSome machine.remembered (λ s. IsRowWith rows machine.remembered_rules_of s.rules)

-- the row of a machine, once it is kept, has its rules
abbrev pub KeepsRules : Result (Option ℕ) Fault → Result Bool AllocError → Machine → List Kept → List Kept → Type 0
KeepsRules (Ok next) (Ok true) machine old new = IfSome machine.state.cfa (λ _. IsRowWith new (Some (length old)) machine.state.rules)
KeepsRules _ _ machine old new = Unit {0}

-- the body at a place has these rules, if a place is given
abbrev pub IsBodyWith : List (Result RowValue Fault) → Option ℕ → List (ℕ × Rule) → Type 0
IsBodyWith bodies None rules = Unit {0}
IsBodyWith bodies (Some i) rules = (i < length bodies) × ((d : Result RowValue Fault) → HasRules (slice_index_or bodies i d) rules)

-- the body of the row at an index, if one is given
abbrev pub IsBodyOf : List TableRow → Option ℕ → Option ℕ → Type 0
IsBodyOf rows None place = place ≡ None
IsBodyOf rows (Some i) place = (d : TableRow) → place ≡ Some (slice_index_or rows i d).body

-- the body at a place has its rules where another has its own
pub record HasRulesOf (bodies : List RowBody) (like : Option ℕ) (b : RowBody) : Type 0 where
  pub place : ℕ
  pub is : like ≡ Some place
  pub within : place < length bodies
  pub first : (d : RowBody) → (slice_index_or bodies place d).first_rule ≡ b.first_rule
  pub end : (d : RowBody) → (slice_index_or bodies place d).end_rule ≡ b.end_rule
