use Rattle.std.proofs.Common.{◌≡◌, ◌++◌, drop}
use Rattle.folded_stacks.specs.Stacks.{stack_of}
use Rattle.folded_stacks.proofs.stacks.put_returns.Given as goal

abbrev pub invariant-loop-i : goal.invariant-loop-i
invariant-loop-i l = l.addresses.items ≡ l.initial.addresses.items ++ stack_of (drop l.i l.room.visited)
