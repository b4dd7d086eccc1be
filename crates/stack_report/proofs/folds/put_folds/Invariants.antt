use Rattle.std.proofs.Common.{◌≡◌, ◌++◌, drop}
use Rattle.stack_report.specs.Folds.{fold_lines}
use Rattle.stack_report.proofs.folds.put_folds.Given as goal

abbrev pub invariant-loop-index : goal.invariant-loop-index
invariant-loop-index l =
    l.report ++ fold_lines (drop l.index l.folded.lines) ≡ l.initial.report ++ fold_lines l.folded.lines
