use Rattle.std.proofs.Common.{◌≡◌, drop}
use Rattle.stack_snapshot.specs.Ranges.{each_in, module_range}
use Rattle.stack_snapshot.proofs.Each.{with_front}
use Rattle.stack_snapshot.proofs.snapshot.module_ranges.Given as goal

abbrev pub invariant-loop-module : goal.invariant-loop-module
invariant-loop-module l =
    with_front l.ranges.items (each_in module_range (drop l.module-index l.modules)) ≡ each_in module_range l.modules
