use Rattle.std.proofs.Common.{◌≡◌, ◌++◌, drop}
use Rattle.fact_claims.specs.Lines.{difference_lines}
use Rattle.fact_claims.proofs.lines.put_differences.Given as goal

abbrev pub invariant-loop-difference : goal.invariant-loop-difference
invariant-loop-difference l = l.report ++ difference_lines l.claims (drop l.difference-index l.differences) ≡ l.initial.report ++ difference_lines l.claims l.differences
