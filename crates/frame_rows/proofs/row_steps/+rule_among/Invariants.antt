use Rattle.std.proofs.Common.{length}
use Rattle.frame_rows.proofs.row_steps.+rule_among.Given as goal

abbrev pub decreases-rule_among : goal.decreases-rule_among
decreases-rule_among l = length l.entries.now
