-- Rows of a table that one more description has. No public clause cites this.
use Rattle.std.specs.Prelude.{◌≡◌, ◌+◌, ◌-◌, ◌≤◌, Option, Some, None}
use Rattle.frame_rows.specs.KeptRows.{KeptRows, AreTooMany}
use Rattle.frame_rows.specs.declared.known_programs.KnownProgram.{KnownProgram}
use Rattle.frame_rows.specs.declared.row_table.RowLimits.{RowLimits}
use Rattle.frame_rows.specs.declared.row_table.RowRange.{RowRange}

-- the rows of a program that is known are counted once more, within limits
pub record IsCountedAgain (limits : RowLimits) (known : KnownProgram) (old : KeptRows) (range : RowRange) (new : KeptRows) : Type 0 where
  pub range_is : range ≡ known.rows
  pub row_count : new.row_count ≡ old.row_count + (known.rows.end - known.rows.first)
  pub rule_count : new.rule_count ≡ old.rule_count + known.rule_count
  pub rows_fit : new.row_count ≤ limits.rows
  pub rules_fit : new.rule_count ≤ limits.rules

abbrev pub CountsAgain : RowLimits → KnownProgram → KeptRows → Option RowRange → KeptRows → Type 0
CountsAgain limits known old (Some range) new = IsCountedAgain limits known old range new
CountsAgain limits known old None new = AreTooMany limits old (known.rows.end - known.rows.first) known.rule_count
