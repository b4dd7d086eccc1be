use Rattle.table_check.specs.ClaimViews.{function_of}
use Rattle.table_check.specs.Ranges.{extent_of}
use Rattle.table_check.proofs.Reduced.{SoFar}
use Rattle.table_check.proofs.ranges.first_out_of_place.Given as goal

abbrev pub invariant-loop-i : goal.invariant-loop-i
invariant-loop-i l = SoFar (λ c. extent_of (function_of c)) l.fn.start l.fn.end l.claims l.from l.i
