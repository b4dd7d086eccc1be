use Rattle.std.proofs.Common.{◌≡◌, ◌+◌, ◌≤◌, None, drop}
use Rattle.fact_claims.specs.Lines.{differing_after}
use Rattle.fact_claims.proofs.lines.differing.Given as goal

abbrev pub invariant-loop-difference : goal.invariant-loop-difference
invariant-loop-difference l = (l.count + differing_after l.last (drop l.difference-index l.differences) ≡ differing_after None l.differences) × (l.count ≤ l.difference-index)
