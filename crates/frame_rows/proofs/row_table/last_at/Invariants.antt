use Rattle.std.proofs.Common.{◌-◌, ◌<◌, ◌≤◌, length}
use Rattle.std.specs.Prelude.{slice_index_or}
use Rattle.frame_rows.specs.declared.row_table.TableRow.{TableRow}
use Rattle.frame_rows.proofs.row_table.last_at.Given as goal

-- the one sought stands from one index on up to another
abbrev pub invariant-loop-high : goal.invariant-loop-high
invariant-loop-high l = (l.low < l.high) × (l.high ≤ length l.rows) × ((d : TableRow) → (slice_index_or l.rows l.low d).distance ≤ l.distance) × ((d : TableRow) → l.high < length l.rows → l.distance < (slice_index_or l.rows l.high d).distance)

abbrev pub decreases-loop-high : goal.decreases-loop-high
decreases-loop-high l = l.high - l.low
