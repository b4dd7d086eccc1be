-- The rows that are kept of a description: one for each location that its program reaches. DWARF 5 section 6.4.1.
use Rattle.std.specs.Prelude.{◌≡◌, ℕ, ◌+◌, ◌<◌, ◌≤◌, ◌⊎◌, List, [], ◌∷◌, ◌++◌, length, map, slice_range, Option, Some, None, Result, Ok, Err, is_some, nat_lt, if◌then◌else◌}
use Rattle.unwind_definitions.specs.declared.error.Error.{Error as Fault}
use Rattle.unwind_definitions.specs.Instructions.{Instruction, Program}
use Rattle.unwind_definitions.specs.Row.{RowInstructions, location, fault_of, common_fault, from_common, columns_with_rules, row}
use Rattle.frame_rows.specs.RowValue.{RowValue}
use Rattle.frame_rows.specs.Rows.{GivesRow}
use Rattle.frame_rows.specs.Rules.{AscendsFrom}
use Rattle.std.specs.declared.alloc.AllocError.{AllocError}
use Rattle.frame_rows.specs.declared.row_table.RowLimits.{RowLimits}
use Rattle.frame_rows.specs.declared.row_table.RowRange.{RowRange}

-- what holds from a location on: a row, or a fault
pub record Kept : Type 0 where
  pub location : ℕ
  pub answer : Result RowValue Fault

-- What is kept of several descriptions, at distances from their starts, where some may share rows. How many rows they have together, and how many rules of registers these have.
pub record KeptRows : Type 0 where
  pub rows : List Kept
  pub row_count : ℕ
  pub rule_count : ℕ

-- what is kept at a distance, from a start
abbrev pub kept_at_distance : ℕ → Kept → Kept
kept_at_distance start k = record { location = start + k.location; answer = k.answer }

-- the rows of a description that starts somewhere, among those of all
abbrev pub rows_from : ℕ → List Kept → RowRange → List Kept
rows_from start rows range = map (kept_at_distance start) (slice_range rows range.first range.end)

-- ---- locations

-- where an instruction leads from one location, before those to which the later ones lead: locations don't go back, so what follows one outside the range lies outside too
abbrev pub then_location : ℕ → ℕ → ℕ → List ℕ → List ℕ
then_location end here next rest = if nat_lt here next then (if nat_lt next end then next ∷ rest else []) else rest

-- The locations below an end to which instructions lead after others, up to the first that can't follow.
abbrev pub locations_after : ℕ → ℕ → RowInstructions → List Instruction → List ℕ
locations_after start end run [] = []
locations_after start end run (i ∷ is) = if is_some (fault_of start run i) then [] else
    then_location end (location start run.own) (location (location start run.own) (i ∷ [])) (locations_after start end (record run { own = run.own ++ i ∷ [] }) is)

-- the locations that a description's program reaches in its range; where the program that runs before it can't be run, its start
abbrev pub reached_locations : ℕ → ℕ → Program → Program → List ℕ
reached_locations start end common own = start ∷ (if is_some (common_fault common) then [] else locations_after start end (from_common common.instructions) own.instructions)

-- ---- rows

-- how many columns have a rule
abbrev pub rule_count_of : Result RowInstructions Fault → ℕ
rule_count_of (Ok run) = length (columns_with_rules run)
rule_count_of (Err e) = 0

-- the same over several locations
abbrev pub rule_count_at : (ℕ → Result RowInstructions Fault) → List ℕ → ℕ
rule_count_at due [] = 0
rule_count_at due (l ∷ ls) = rule_count_of (due l) + rule_count_at due ls

abbrev pub first_location : ℕ → List Kept → ℕ
first_location end [] = end
first_location end (k ∷ ks) = k.location

-- each holds from its location on, up to the next one's, and the last up to an end
abbrev pub AreRows : (ℕ → Result RowInstructions Fault) → ℕ → List Kept → Type 0
AreRows due end [] = Unit {0}
AreRows due end (k ∷ ks) = ((pc : ℕ) → k.location ≤ pc → pc < first_location end ks → GivesRow k.answer (due pc)) × AreRows due end ks

abbrev pub location_of : Kept → ℕ
location_of k = k.location

-- what is kept of a description that ranges from a start to an end
pub record AreKeptOf (start end : ℕ) (common own : Program) (kept : List Kept) : Type 0 where
  pub locations : map location_of kept ≡ reached_locations start end common own
  pub rows : AreRows (λ pc. row start pc common own) end kept

-- how many rules of registers are kept of it
abbrev pub kept_rule_count : ℕ → ℕ → Program → Program → ℕ
kept_rule_count start end common own = rule_count_at (λ pc. row start pc common own) (reached_locations start end common own)

-- how many rules a row has
abbrev pub answer_rule_count : Result RowValue Fault → ℕ
answer_rule_count (Ok row) = length row.rules
answer_rule_count (Err e) = 0

-- ---- what a table has once a description is added

-- its columns ascend
abbrev pub Ascends : Result RowValue Fault → Type 0
Ascends (Ok row) = AscendsFrom 0 row.rules
Ascends (Err e) = Unit {0}

-- what stands in a table stays, and more may follow
pub record IsLonger (old new : List Kept) : Type 0 where
  pub more : List Kept
  pub grown : new ≡ old ++ more

-- A description's rows stand in a table, to which they may be added, and are counted, within limits.
pub record IsAdded (limits : RowLimits) (start end : ℕ) (common own : Program) (old : KeptRows) (range : RowRange) (new : KeptRows) : Type 0 where
  pub of : AreKeptOf start end common own (rows_from start new.rows range)
  pub some : range.first < range.end
  pub within : range.end ≤ length new.rows
  pub longer : IsLonger old.rows new.rows
  pub row_count : new.row_count ≡ old.row_count + length (reached_locations start end common own)
  pub rule_count : new.rule_count ≡ old.rule_count + kept_rule_count start end common own
  pub rows_fit : new.row_count ≤ limits.rows
  pub rules_fit : new.rule_count ≤ limits.rules

-- so many rows or rules more would be too many
abbrev pub AreTooMany : RowLimits → KeptRows → ℕ → ℕ → Type 0
AreTooMany limits old rows rules = (limits.rows < old.row_count + rows) ⊎ (limits.rules < old.rule_count + rules)

-- a description's rows are added, or would be too many
abbrev pub Adds : RowLimits → ℕ → ℕ → Program → Program → KeptRows → Result (Option RowRange) AllocError → KeptRows → Type 0
Adds limits start end common own old (Ok (Some range)) new = IsAdded limits start end common own old range new
Adds limits start end common own old (Ok None) new = AreTooMany limits old (length (reached_locations start end common own)) (kept_rule_count start end common own)
Adds limits start end common own old (Err e) new = Unit {0}
