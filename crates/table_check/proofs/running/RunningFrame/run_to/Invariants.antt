use Rattle.std.proofs.Common.{◌≡◌}
use Rattle.table_check.specs.Running.{IsRunning}
use Rattle.table_check.proofs.running.RunningFrame.run_to.Given as goal

abbrev pub invariant-loop-i : goal.invariant-loop-i
invariant-loop-i l = (l.self.taken ≡ l.i) × IsRunning l.self l.offset l.steps
