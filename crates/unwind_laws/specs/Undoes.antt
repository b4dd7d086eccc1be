-- What it is for a row to undo a call, and the caller's columns from a list of rules.
use Rattle.std.specs.Prelude.{◌≡◌, ℕ, ◌+◌, ◌<◌, ◌≤◌, List, [], ◌∷◌, Option, Some, None, Result, Ok, Err, ◌==◌, if◌then◌else◌}
use Rattle.memory_image.specs.Image.{Span}
use Rattle.memory_image.specs.Results.{◌>>=◌}
use Rattle.unwind_definitions.specs.Instructions.{Rule}
use Rattle.unwind_definitions.specs.Row.{RowInstructions, rule_of}
use Rattle.unwind_definitions.specs.Caller.{Columns, x86_64, StepFault, Evaluates, rule_value, value_for_column, caller_of, column_limit}
use Rattle.unwind_definitions.specs.State.{State, Shows, KeepsOthers}

-- By a row there is a caller, whatever expressions give. It shows a state, and keeps the columns that no state has.
pub record Undoes (evaluates : Evaluates) (image : List Span) (run : RowInstructions) (t : State) (columns : Columns) : Type 0 where
  pub caller : Columns
  pub is_caller : caller_of x86_64 evaluates image columns run ≡ Ok caller
  pub shows : Shows caller t
  pub others : KeepsOthers columns caller

-- ---- a row's rules as a list

-- a column's rule in a list
abbrev pub rule_in : List (ℕ × Rule) → ℕ → Option Rule
rule_in [] c = None
rule_in (r ∷ rules) c = if r.0 == c then Some r.1 else rule_in rules c

-- by ascending column, below the limit of columns
abbrev pub ColumnsAscend : ℕ → List (ℕ × Rule) → Type 0
ColumnsAscend low [] = Unit {0}
ColumnsAscend low (r ∷ rules) = (low ≤ r.0) × (r.0 < column_limit) × ColumnsAscend (r.0 + 1) rules

-- the list has the rules of a row, the lowest column first
pub record AreRules (run : RowInstructions) (rules : List (ℕ × Rule)) : Type 0 where
  pub ascend : ColumnsAscend 0 rules
  pub each : (c : ℕ) → rule_in rules c ≡ rule_of run c

-- the columns with another value in one
abbrev pub with_column : Columns → ℕ → Option ℕ → Columns
with_column columns c v = λ k. if c == k then v else columns k

-- one rule after another, up to the first fault: each gives its column a value from the old columns
abbrev pub columns_by_rules : Evaluates → List Span → Columns → ℕ → List (ℕ × Rule) → Columns → Result Columns StepFault
columns_by_rules evaluates image old cfa [] new = Ok new
columns_by_rules evaluates image old cfa (r ∷ rules) new = value_for_column (old r.0) (rule_value evaluates image old cfa r.0 r.1) >>= (λ v. columns_by_rules evaluates image old cfa rules (with_column new r.0 v))
