-- The lines in the report's place.
use Rattle.std.specs.Prelude.{ℕ, List, codes}
use Rattle.stack_report.specs.Report.{line}

abbrev pub usage_line : List ℕ
usage_line = line (codes "usage: core_stacks [--names] CORE")
