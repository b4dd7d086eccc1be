use Rattle.std.proofs.Common.{◌≤◌}
use Rattle.library_examples.proofs.samplers.print_samples.Given as goal

abbrev pub invariant-loop-start : goal.invariant-loop-start
invariant-loop-start l = 128 ≤ l.room.limit
