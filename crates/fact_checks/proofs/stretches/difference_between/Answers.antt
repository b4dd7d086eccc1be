use Rattle.std.proofs.Common.{arith}
use Rattle.fact_checks.specs.ClaimViews.{claim_of}
use Rattle.fact_checks.proofs.Spans.{no_difference, one_difference}
use Rattle.fact_checks.proofs.stretches.difference_between.Goals as goal

pub returns-in_err-mismatch : goal.returns-in_err-mismatch
returns-in_err-mismatch c bases fde has below row =
    rw c.from_residual.ensures (no_difference bases fde c.args.index (claim_of c.args.claim.now) c.args.walk.now c.args.pc c.args.next has row c.in_err-mismatch.ensures)

pub returns : goal.returns
returns c bases fde has below row =
    let inside = c.if-next-claim.false in
    one_difference bases fde c.args.index (claim_of c.args.claim.now) c.args.walk.now c.args.pc c.args.next has row c.max.result c.in_ok-mismatch.mismatch c.max.ensures below (omega (arith, inside)) c.in_ok-mismatch.ensures
