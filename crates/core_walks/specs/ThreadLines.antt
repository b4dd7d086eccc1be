-- The lines of a thread by the states of its stack.
use Rattle.std.specs.Prelude.{ℕ, List, ◌++◌, codes}
use Rattle.std.specs.Fmt.{decimal}
use Rattle.unwind_definitions.specs.State.{State}
use Rattle.stack_report.specs.Report.{line, walk_text}

-- its number, and a line for each state, from the innermost outwards
abbrev pub thread_lines : ℕ → List State → List ℕ
thread_lines index states = line (codes "thread " ++ decimal index) ++ walk_text states
