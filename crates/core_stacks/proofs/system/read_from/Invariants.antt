use Rattle.std.proofs.Common.{◌≤◌, length}
use Rattle.core_stacks.proofs.system.read_from.Given as goal

abbrev pub invariant-loop : goal.invariant-loop
invariant-loop l = l.done ≤ length l.bytes
