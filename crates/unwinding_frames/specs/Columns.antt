-- Columns by numbers that may be none, and columns with another value in one.
use Rattle.std.specs.Prelude.{ℕ, ℤ, pos, negsuc, ◌==◌, Option, Some, None, nat_lt, if◌then◌else◌}
use Rattle.unwind_definitions.specs.Caller.{Columns, column_limit}

-- what the column of a number holds; registers are numbered from 0 on
abbrev pub column_at : Columns → ℤ → Option ℕ
column_at columns (pos k) = if nat_lt k column_limit then columns k else None
column_at columns (negsuc k) = None

abbrev pub with_value : Columns → ℕ → ℕ → Columns
with_value columns k v = λ j. if j == k then Some v else columns j
