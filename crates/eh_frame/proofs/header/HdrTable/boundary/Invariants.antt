use Rattle.std.proofs.Common.{◌-◌}
use Rattle.eh_frame.specs.HeaderViews.{pairs_of}
use Rattle.eh_frame.proofs.Halving.{IsBetween, AreLeft}
use Rattle.eh_frame.proofs.header.HdrTable.boundary.Given as goal

abbrev pub invariant-loop-low : goal.invariant-loop-low
invariant-loop-low g l = IsBetween (pairs_of l.self) l.pc l.low l.high l.found × AreLeft l.self.count l.fn.steps.number l.steps.number (l.high - l.low)

abbrev pub decreases-loop-low : goal.decreases-loop-low
decreases-loop-low g l = l.high - l.low
