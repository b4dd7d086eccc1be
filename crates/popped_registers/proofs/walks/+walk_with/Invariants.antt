use Rattle.std.proofs.Common.{length}
use Rattle.popped_registers.proofs.walks.+walk_with.Given as goal

abbrev pub decreases-walk_with : goal.decreases-walk_with
decreases-walk_with l = length l.registers.now
