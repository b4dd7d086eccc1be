-- Which rows a description has.
use Rattle.std.specs.Prelude.{◌≡◌, ℕ, Some, None, Result, Ok, Err}
use Rattle.unwind_definitions.specs.declared.error.Error.{Error as Fault}
use Rattle.unwind_definitions.specs.Row.{RowInstructions, rule_of, cfa_rule, argument_size}
use Rattle.unwind_definitions.specs.declared.error.Error.TheVariants.{NoCfaRegister}
use Rattle.frame_rows.specs.Rules.{rule_in}
use Rattle.frame_rows.specs.RowValue.{RowValue}

-- the row is what two programs say: the CFA, the rule of each column, and the size of the arguments
pub record IsRowOf (row : RowValue) (run : RowInstructions) : Type 0 where
  pub cfa : cfa_rule run ≡ Some row.cfa
  pub rules : (c : ℕ) → rule_in row.rules c ≡ rule_of run c
  pub arguments : row.saved_args_size ≡ argument_size run

-- a row of what is due, or its fault
abbrev pub GivesRow : Result RowValue Fault → Result RowInstructions Fault → Type 0
GivesRow (Ok row) due = (run : RowInstructions) × (due ≡ Ok run) × IsRowOf row run
GivesRow (Err e) due = due ≡ Err e

-- what programs end with: a row, unless there is no CFA
abbrev pub IsLast : RowInstructions → Result RowValue Fault → Type 0
IsLast run (Ok row) = IsRowOf row run
IsLast run (Err e) = (e ≡ NoCfaRegister) × (cfa_rule run ≡ None)

-- the row that a call leaves in its place, or its fault
abbrev pub row_in_place : Result (Unit {0}) Fault → RowValue → Result RowValue Fault
row_in_place (Ok done) row = Ok row
row_in_place (Err e) row = Err e
