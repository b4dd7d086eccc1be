use Rattle.table_check.specs.ClaimViews.{range_of}
use Rattle.table_check.proofs.Reduced.{SoFar}
use Rattle.table_check.proofs.functions.are_within.Given as goal

abbrev pub invariant-loop-range : goal.invariant-loop-range
invariant-loop-range l = SoFar range_of l.fn.low l.fn.high l.ranges l.from l.range-index
