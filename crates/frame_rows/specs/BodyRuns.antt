-- A description's program that runs from body to body. No public clause cites this.
use Rattle.std.specs.Prelude.{◌≡◌, ℕ, ◌+◌, ◌-◌, ◌<◌, List, length, map, Result, Ok, Err}
use Rattle.std.specs.declared.alloc.AllocError.{AllocError}
use Rattle.unwind_definitions.specs.declared.error.Error.{Error as Fault}
use Rattle.unwind_definitions.specs.Instructions.{Coding, Program}
use Rattle.unwind_definitions.specs.Row.{RowInstructions}
use Rattle.frame_rows.specs.Adding.{IsAdding, IsAppended, IsKeptWhole}
use Rattle.frame_rows.specs.BodySteps.{HasInitial}
use Rattle.frame_rows.specs.KeptRows.{KeptRows}
use Rattle.frame_rows.specs.Movable.{IsMovable}
use Rattle.frame_rows.specs.RowValue.{RowValue}
use Rattle.frame_rows.specs.Running.{Represents}
use Rattle.frame_rows.specs.Stepping.{IsLeft, StandsFor}
use Rattle.frame_rows.specs.TableRows.{kept_in}
use Rattle.frame_rows.specs.declared.body_run.BodyRun.{BodyRun as Walker}
use Rattle.frame_rows.specs.declared.body_run.RunEnd.{RunEnd}
use Rattle.frame_rows.specs.declared.body_run.RunEnd.TheVariants as ends
use Rattle.frame_rows.specs.declared.machine.Machine.{Machine}
use Rattle.frame_rows.specs.declared.row_table.Added.{Added}
use Rattle.frame_rows.specs.declared.row_table.Added.TheVariants as added
use Rattle.frame_rows.specs.declared.row_table.RowLimits.{RowLimits}
use Rattle.std.specs.Prelude.{Option, Some, None}
use Rattle.frame_rows.specs.KeptRows.{IsAdded}
use Rattle.frame_rows.specs.declared.row_table.RowRange.{RowRange}
use Rattle.frame_rows.specs.declared.row_table.TableRow.{TableRow}

-- a table with the rows that a run has added to it
abbrev pub table_with : KeptRows → List (Result RowValue Fault) → List TableRow → ℕ → KeptRows
table_with old bodies rows rules = record { rows = map (kept_in bodies) rows; row_count = old.row_count + (length rows - length old.rows); rule_count = rules }

-- limits that a table has just reached
abbrev pub limits_of : KeptRows → RowLimits
limits_of table = record { rows = table.row_count; rules = table.rule_count }

-- a description's program runs at a location, up to which its rows were added
pub record IsRunning (start end : ℕ) (common own : Program) (old : KeptRows) (coding : Coding) (bodies : List (Result RowValue Fault)) (rows : List TableRow) (s : Walker) : Type 0 where
  pub now : RowInstructions
  pub left : Program
  pub machine : Machine
  pub adding : IsAdding start end common own old s.location now left (table_with old bodies rows s.rule_count)
  pub represents : Represents start machine now
  pub stands : StandsFor bodies s machine
  pub initial : HasInitial bodies s.first now
  pub bytes : IsLeft coding s.rest.now left
  pub movable : IsMovable left → IsMovable own

-- it ran past its range, and its rows are added, or it stopped before that
abbrev pub RunsTo : ℕ → ℕ → Program → Program → KeptRows → Coding → List (Result RowValue Fault) → Result RunEnd AllocError → List TableRow → Walker → Type 0
RunsTo start end common own old coding bodies (Ok ends.Past) rows s = IsAppended start end common own old (limits_of (table_with old bodies rows s.rule_count)) (table_with old bodies rows s.rule_count)
RunsTo start end common own old coding bodies (Ok ends.Stopped) rows s = IsRunning start end common own old coding bodies rows s
RunsTo start end common own old coding bodies (Ok ends.Ended) rows s = IsAppended start end common own old (limits_of (table_with old bodies rows s.rule_count)) (table_with old bodies rows s.rule_count) × IsKeptWhole start end common own old s.location (table_with old bodies rows s.rule_count) × IsMovable own × (s.location < end)
RunsTo start end common own old coding bodies (Ok ends.GivenUp) rows s = Unit {0}
RunsTo start end common own old coding bodies (Err e) rows s = Unit {0}

-- A description's rows are added, within limits. Where its program ended, they are for locations after its range, too.
abbrev pub AddsRun : RowLimits → ℕ → ℕ → Program → Program → KeptRows → Result Added AllocError → KeptRows → Type 0
AddsRun limits start end common own old (Ok added.Past) new = IsAppended start end common own old limits new
AddsRun limits start end common own old (Ok (added.Ended here)) new = IsAppended start end common own old limits new × IsKeptWhole start end common own old here new × IsMovable own × (here < end)
AddsRun limits start end common own old (Ok added.Nothing) new = new ≡ old
AddsRun limits start end common own old (Err e) new = Unit {0}

-- a description's rows are added, or the table is as before
abbrev pub AddsOrNot : RowLimits → ℕ → ℕ → Program → Program → KeptRows → Result (Option RowRange) AllocError → KeptRows → Type 0
AddsOrNot limits start end common own old (Ok (Some range)) new = IsAdded limits start end common own old range new
AddsOrNot limits start end common own old (Ok None) new = new ≡ old
AddsOrNot limits start end common own old (Err e) new = Unit {0}
