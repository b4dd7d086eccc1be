use Rattle.std.proofs.Common.{◌≡◌, ◌++◌, drop}
use Rattle.stack_report.specs.Report.{frame_lines}
use Rattle.stack_report.proofs.states.put_frames.Given as goal

abbrev pub invariant-loop-index : goal.invariant-loop-index
invariant-loop-index l =
    l.report ++ frame_lines l.index (drop l.index l.room.visited) ≡ l.initial.report ++ frame_lines 0 l.room.visited
