-- The row in a room. No public clause cites this.
use Rattle.std.specs.Prelude.{Option, Some, None, []}
use Rattle.unwind_definitions.specs.Row.{ColumnAndOffset}
use Rattle.frame_rows.specs.RowValue.{RowValue}
use Rattle.frame_rows.specs.declared.room.Making.{Making}

-- no rules, and register 0 as the CFA
abbrev pub no_row : RowValue
no_row = record { cfa = ColumnAndOffset 0 0; rules = []; saved_args_size = 0 }

abbrev pub row_in : Option Making → RowValue
row_in None = no_row
row_in (Some making) = making.row
