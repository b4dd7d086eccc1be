use Rattle.std.proofs.Common.{◌≡◌, drop}
use Rattle.stack_snapshot.specs.Ranges.{ascend_after, are_ascending}
use Rattle.stack_snapshot.proofs.ranges.are_ascending.Given as goal

abbrev pub invariant-loop-range : goal.invariant-loop-range
invariant-loop-range l = ascend_after l.last (drop l.range-index l.others) ≡ are_ascending l.fn.ranges
