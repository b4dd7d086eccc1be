-- Which programs a builder of rows has begun.
use Rattle.unwind_definitions.specs.Instructions.{Program}
use Rattle.frame_rows.specs.BegunPrograms.{before_last, last}
use Rattle.frame_rows.specs.FirstRows.{IsFirstRow}
use Rattle.frame_rows.specs.KnownRows.{AreKnown}
use Rattle.frame_rows.specs.Running.{IsEndOf}
use Rattle.frame_rows.specs.declared.begun.BegunProgram.{BegunProgram}
use Rattle.frame_rows.specs.declared.row_table_builder.RowTableBuilder.{RowTableBuilder}

-- the rows of descriptions follow a common information entry's program
pub record Follow (builder : RowTableBuilder) (begun : BegunProgram) (common : Program) : Type 0 where
  pub ended : IsEndOf begun.state begun.fault common
  pub known : AreKnown common builder.table.rows begun.known
  pub first : IsFirstRow builder.table.rows begun.first_row begun.state

abbrev pub HasBegun : RowTableBuilder → Program → Type 0
HasBegun builder common = Follow builder (last builder.begun) common

-- the same of the program that was begun before the last
abbrev pub HasBegunBefore : RowTableBuilder → Program → Type 0
HasBegunBefore builder common = Follow builder (before_last builder.begun) common
