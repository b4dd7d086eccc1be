use Rattle.std.proofs.Common.{◌≤◌, length, arith}
use Rattle.claim_checks.proofs.Lists.{step_done, step_more}
use Rattle.claim_checks.proofs.adding.add_steps.Goals as goal

pub loop-step-preserved : goal.loop-step-preserved
loop-step-preserved c = step_more c.args.steps.now c.loop-step.step-index _ c.loop-step-test.true c.loop-step.claims _ _ c.in_ok-step.ensures.added c.loop-step.invariant

pub returns : goal.returns
returns c =
    let all : length c.args.steps.now ≤ c.loop-step.step-index = let a = c.loop-step-test.false in omega (arith, a) in
    step_done c.args.steps.now c.loop-step.step-index all c.loop-step.claims _ c.loop-step.invariant
