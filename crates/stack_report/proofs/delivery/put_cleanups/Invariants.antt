use Rattle.std.proofs.Common.{◌≡◌, ◌++◌, drop}
use Rattle.stack_report.specs.Report.{cleanup_lines}
use Rattle.stack_report.proofs.delivery.put_cleanups.Given as goal

abbrev pub invariant-loop-index : goal.invariant-loop-index
invariant-loop-index l =
    l.report ++ cleanup_lines (drop l.index l.room.trail) ≡ l.initial.report ++ cleanup_lines l.room.trail
