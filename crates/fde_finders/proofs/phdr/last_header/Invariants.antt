use Rattle.std.proofs.Common.{◌≡◌, ◌≤◌, length, take}
use Rattle.fde_finders.specs.ProgramHeaders.{last_such}
use Rattle.fde_finders.specs.Sought.{is_sought}
use Rattle.fde_finders.proofs.phdr.last_header.Given as goal

abbrev pub invariant-loop-left : goal.invariant-loop-left
invariant-loop-left l = (l.left ≤ length l.headers) × (last_such (is_sought l.sought) l.headers ≡ last_such (is_sought l.sought) (take l.left l.headers))

abbrev pub decreases-loop-left : goal.decreases-loop-left
decreases-loop-left l = l.left
