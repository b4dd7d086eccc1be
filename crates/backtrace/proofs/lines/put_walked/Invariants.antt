use Rattle.std.proofs.Common.{◌≡◌, ◌+◌, ◌++◌, drop}
use Rattle.backtrace.specs.Lines.{frame_lines, shown_states}
use Rattle.backtrace.proofs.lines.put_walked.Given as goal

abbrev pub invariant-loop-place : goal.invariant-loop-place
invariant-loop-place l =
    l.report ++ frame_lines l.form (l.first + l.place) (shown_states (drop l.place l.trace.trace.states)) ≡ l.initial.report ++ frame_lines l.form l.first (shown_states l.trace.trace.states)
