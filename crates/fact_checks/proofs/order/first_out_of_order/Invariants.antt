use Rattle.std.proofs.Common.{◌≡◌, ◌+◌, map, drop, option_map}
use Rattle.fact_checks.specs.ClaimViews.{claim_of}
use Rattle.fact_checks.specs.InOrder.{first_out_of_order}
use Rattle.fact_checks.proofs.order.first_out_of_order.Given as goal

-- what is found among the claims that are left is found among all
abbrev pub invariant-loop-i : goal.invariant-loop-i
invariant-loop-i l = option_map (λ j. l.i + j) (first_out_of_order l.end (map claim_of (drop l.i l.claims))) ≡ first_out_of_order 0 (map claim_of l.claims)
