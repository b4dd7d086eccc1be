use Rattle.std.proofs.Common.{◌≡◌, ◌+◌, ◌≤◌, drop}
use Rattle.fact_claims.specs.Lines.{without_row}
use Rattle.fact_claims.proofs.lines.without_row.Given as goal

abbrev pub invariant-loop-difference : goal.invariant-loop-difference
invariant-loop-difference l = (l.count + without_row (drop l.difference-index l.differences) ≡ without_row l.differences) × (l.count ≤ l.difference-index)
