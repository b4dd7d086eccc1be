use Rattle.std.proofs.Common.{◌≤◌, length, arith}
use Rattle.claim_checks.proofs.Lists.{body_done, body_more}
use Rattle.claim_checks.proofs.adding.add_bodies.Goals as goal

pub loop-body-preserved : goal.loop-body-preserved
loop-body-preserved c = body_more c.args.bodies.now c.loop-body.body-index _ c.loop-body-test.true c.loop-body.claims _ _ c.in_ok-body.ensures.added c.loop-body.invariant

pub returns : goal.returns
returns c =
    let all : length c.args.bodies.now ≤ c.loop-body.body-index = let a = c.loop-body-test.false in omega (arith, a) in
    body_done c.args.bodies.now c.loop-body.body-index all c.loop-body.claims _ c.loop-body.invariant
