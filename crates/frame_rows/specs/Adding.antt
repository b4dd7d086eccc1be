-- A description's rows are added to a table, one location after another. No public clause cites this.
use Rattle.std.specs.Prelude.{◌≡◌, ℕ, ◌+◌, ◌<◌, ◌≤◌, List, ◌∷◌, ◌++◌, length, map, Some, Result}
use Rattle.unwind_definitions.specs.declared.error.Error.{Error as Fault}
use Rattle.unwind_definitions.specs.Instructions.{Program}
use Rattle.unwind_definitions.specs.Row.{RowInstructions, location, from_common, row}
use Rattle.frame_rows.specs.KeptRows.{Kept, KeptRows, AreKeptOf, AreRows, kept_rule_count, location_of, locations_after, kept_at_distance, reached_locations, rule_count_at}
use Rattle.frame_rows.specs.Movable.{IsMovable}
use Rattle.frame_rows.specs.Running.{outcome}
use Rattle.frame_rows.specs.declared.row_table.RowLimits.{RowLimits}

module _ (start end : ℕ) (common own : Program) (old : KeptRows) where
  abbrev pub due_at : ℕ → Result RowInstructions Fault
  due_at pc = row start pc common own

  -- what is kept at distances, from the start
  abbrev pub done : List Kept → List Kept
  done by = map (kept_at_distance start) by

  -- so many locations are done, and from one on so many instructions are left
  pub record IsAdding (here : ℕ) (now : RowInstructions) (q : Program) (table : KeptRows) : Type 0 where
    pub by : List Kept
    pub stands : here ≡ location start now.own
    pub ahead : start ≤ here
    pub below : here < end
    pub listed : map location_of (done by) ++ here ∷ locations_after start end now q.instructions ≡ reached_locations start end common own
    pub stays : (pc : ℕ) → here ≤ pc → outcome start (Some pc) (from_common common.instructions) own ≡ outcome start (Some pc) now q
    pub rows : AreRows due_at here (done by)
    pub kept : table.rows ≡ old.rows ++ by
    pub row_count : table.row_count ≡ old.row_count + length by
    pub counted : table.rule_count ≡ old.rule_count + rule_count_at due_at (map location_of (done by))

  -- A program was run to its end, and a table has what is kept of it: for locations after its range, too.
  pub record IsKeptWhole (here : ℕ) (new : KeptRows) : Type 0 where
    pub by : List Kept
    pub locations : map location_of (done by) ≡ reached_locations start end common own
    pub rows : (bound : ℕ) → here < bound → AreRows due_at bound (done by)
    pub stand : new.rows ≡ old.rows ++ by
    pub counted : new.rule_count ≡ old.rule_count + kept_rule_count start end common own
    pub last : IsMovable own → location start own.instructions ≡ here

  -- what is kept of the description stands after the rest, within limits
  pub record IsAppended (limits : RowLimits) (new : KeptRows) : Type 0 where
    pub by : List Kept
    pub of : AreKeptOf start end common own (done by)
    pub rows : new.rows ≡ old.rows ++ by
    pub row_count : new.row_count ≡ old.row_count + length by
    pub rule_count : new.rule_count ≡ old.rule_count + kept_rule_count start end common own
    pub rows_fit : new.row_count ≤ limits.rows
    pub rules_fit : new.rule_count ≤ limits.rules
