use Rattle.std.proofs.Common.{◌-◌, length}
use Rattle.fde_finders.specs.Registered.{FindsRegistered}
use Rattle.fde_finders.proofs.InTurn.{Asked}
use Rattle.fde_finders.proofs.registry.find_among.Given as goal

abbrev pub invariant-loop-i : goal.invariant-loop-i
invariant-loop-i l = Asked (FindsRegistered l.image l.pc) l.objects.items l.i 0 0

abbrev pub decreases-loop-i : goal.decreases-loop-i
decreases-loop-i l = length l.objects.items - l.i
