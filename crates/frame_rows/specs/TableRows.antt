-- What stands in a table of rows.
use Rattle.std.specs.Prelude.{◌≡◌, ℕ, ◌+◌, ◌^◌, ◌<◌, ◌≤◌, List, [], ◌∷◌, ◌++◌, length, slice_index_or, Option, Result, Ok, Err, Bool, true, false}
use Rattle.std.specs.List.{AllByRecursion}
use Rattle.std.specs.declared.alloc.AllocError.{AllocError}
use Rattle.unwind_definitions.specs.declared.error.Error.{Error as Fault}
use Rattle.unwind_definitions.specs.declared.error.Error.TheVariants.{NoCfaRegister}
use Rattle.frame_rows.specs.RowValue.{RowValue}
use Rattle.frame_rows.specs.Rows.{IsLast}
use Rattle.frame_rows.specs.Running.{Represents}
use Rattle.unwind_definitions.specs.Row.{RowInstructions}
use Rattle.frame_rows.specs.declared.machine.Machine.{Machine}
use Rattle.frame_rows.specs.KeptRows.{Kept, KeptRows, answer_rule_count, first_location, AreTooMany, Ascends}
use Rattle.frame_rows.specs.declared.row_table.TableRow.{TableRow}
use Rattle.frame_rows.specs.declared.row_table.RowLimits.{RowLimits}

-- what holds from a row's distance on: the body at its place
abbrev pub kept_in : List (Result RowValue Fault) → TableRow → Kept
kept_in bodies k = record { location = k.distance; answer = slice_index_or bodies k.body (Err NoCfaRegister) }

-- a row's body is among those of all
abbrev pub HasBody : List (Result RowValue Fault) → TableRow → Type 0
HasBody bodies k = k.body < length bodies

-- the rows of a table: their bodies are among those of all, and no more stand there than descriptions have
pub record IsTable (bodies : List (Result RowValue Fault)) (rows : List TableRow) (row_count : ℕ) : Type 0 where
  pub bodied : AllByRecursion (HasBody bodies) rows
  pub counted : length rows ≤ row_count
  pub fits : row_count < 2 ^ 32

-- among rows, one is the last at or before a distance
pub record IsLastAt (rows : List TableRow) (distance i : ℕ) : Type 0 where
  pub within : i < length rows
  pub before : (d : TableRow) → (slice_index_or rows i d).distance ≤ distance
  pub after : (d : TableRow) → i + 1 < length rows → distance < (slice_index_or rows (i + 1) d).distance

-- what is kept at the last of some locations that is at or before an address
pub record HoldsAt (kept : List Kept) (pc : ℕ) (answer : Result RowValue Fault) : Type 0 where
  pub before : List Kept
  pub here : Kept
  pub later : List Kept
  pub all : kept ≡ before ++ here ∷ later
  pub at_or_before : here.location ≤ pc
  pub after : (end : ℕ) → pc < end → pc < first_location end later
  pub answers : answer ≡ here.answer

-- one more is kept, within limits
pub record IsPushed (limits : RowLimits) (location : ℕ) (answer : Result RowValue Fault) (rules : ℕ) (old new : KeptRows) : Type 0 where
  pub rows : new.rows ≡ old.rows ++ record { location = location; answer = answer } ∷ []
  pub row_count : new.row_count ≡ old.row_count + 1
  pub rule_count : new.rule_count ≡ old.rule_count + rules
  pub rows_fit : new.row_count ≤ limits.rows
  pub rules_fit : new.rule_count ≤ limits.rules

abbrev pub Pushes : RowLimits → ℕ → Result RowValue Fault → ℕ → KeptRows → Result Bool AllocError → KeptRows → Type 0
Pushes limits location answer rules old (Ok true) new = IsPushed limits location answer rules old new
Pushes limits location answer rules old (Ok false) new = AreTooMany limits old 1 rules
Pushes limits location answer rules old (Err e) new = Unit {0}

-- a row that a machine ends with is kept, or a fault
pub record IsKept (limits : RowLimits) (location : ℕ) (answer : Result RowValue Fault) (old : KeptRows) (r : Result Bool AllocError) (new : KeptRows) : Type 0 where
  pub pushes : Pushes limits location answer (answer_rule_count answer) old r new
  pub ascends : Ascends answer

abbrev pub Keeps : RowLimits → ℕ → Result (Option ℕ) Fault → Machine → KeptRows → Result Bool AllocError → KeptRows → Type 0
Keeps limits location (Ok next) machine old r new = (answer : Result RowValue Fault) × ((start : ℕ) (run : RowInstructions) → Represents start machine run → IsLast run answer) × IsKept limits location answer old r new
Keeps limits location (Err e) machine old r new = IsKept limits location (Err e) old r new
