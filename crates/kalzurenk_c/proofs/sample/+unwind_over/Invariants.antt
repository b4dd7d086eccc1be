use Rattle.std.proofs.Common.{length}
use Rattle.kalzurenk_c.proofs.sample.+unwind_over.Given as goal

abbrev pub decreases-unwind_over : goal.decreases-unwind_over
decreases-unwind_over g l = length l.regions.now
