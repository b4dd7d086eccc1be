-- The text of a summary.
use Rattle.std.specs.Prelude.{ℕ, List, ◌++◌, codes}
use Rattle.std.specs.Fmt.{decimal}
use Rattle.unwind_definitions.specs.Delivery as described
use Rattle.stack_deliver.specs.StateViews.{outcome_of}
use Rattle.stack_report.specs.declared.summary.Summary.{Summary}
use Rattle.stack_report.specs.Report.{line, ending_line}

-- what is counted, and its number
unfoldable pub count_line : List ℕ → ℕ → List ℕ
count_line label count = line (label ++ decimal count)

-- What is written of a delivery over so many functions: how many states the search visited, how many cleanups ran, how it
-- ended, and how many entries of tables were looked at.
abbrev pub summary_text : (functions frames cleanups : ℕ) → described.Outcome → (probes : ℕ) → List ℕ
summary_text functions frames cleanups outcome probes =
    count_line (codes "functions ") functions ++ count_line (codes "frames ") frames ++ count_line (codes "cleanups ") cleanups
    ++ ending_line outcome ++ count_line (codes "probes ") probes

abbrev pub summary_in : Summary → List ℕ
summary_in s = summary_text s.functions s.frames s.cleanups (outcome_of s.outcome) s.probes
