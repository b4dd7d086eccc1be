use Rattle.std.proofs.Common.{length}
use Rattle.frame_rows.proofs.reach.+are_saved_below.Given as goal

abbrev pub decreases-are_saved_below : goal.decreases-are_saved_below
decreases-are_saved_below l = length l.rules.now
