-- Rows of a table that say what common information entries' programs ended with.
use Rattle.std.specs.Prelude.{◌≡◌, ℕ, ◌<◌, List, length, slice_index_or, Option, Some, None, Result, Ok, Err}
use Rattle.std.specs.Option.{option_map}
use Rattle.unwind_definitions.specs.declared.error.Error.{Error as Fault}
use Rattle.frame_rows.specs.KeptRows.{Kept}
use Rattle.frame_rows.specs.RowValue.{RowValue}
use Rattle.frame_rows.specs.Rules.{cfa_meaning}
use Rattle.frame_rows.specs.declared.machine.RowState.{RowState}
use Rattle.frame_rows.specs.declared.row_table.TableRow.{TableRow}

-- a row says what a state does
abbrev pub SaysState : RowState → Result RowValue Fault → Type 0
SaysState state (Ok row) = (option_map cfa_meaning state.cfa ≡ Some row.cfa) × (row.rules ≡ state.rules) × (row.saved_args_size ≡ state.saved_args_size)
SaysState state (Err e) = ⊥

-- the row at an index, if one is given, says what a state does
abbrev pub IsFirstRow : List Kept → Option ℕ → RowState → Type 0
IsFirstRow rows None state = Unit {0}
IsFirstRow rows (Some i) state = (i < length rows) × ((d : Kept) → SaysState state (slice_index_or rows i d).answer)

-- the row at an index, if one is given, is this
abbrev pub IsRowAt : List Kept → Option ℕ → RowValue → Type 0
IsRowAt rows None row = Unit {0}
IsRowAt rows (Some i) row = (i < length rows) × ((d : Kept) → (slice_index_or rows i d).answer ≡ Ok row)

-- the row of a table at an index that is given
pub record StandsAt (rows : List TableRow) (index : Option ℕ) (kept : TableRow) : Type 0 where
  pub place : ℕ
  pub given : index ≡ Some place
  pub within : place < length rows
  pub there : (d : TableRow) → slice_index_or rows place d ≡ kept
