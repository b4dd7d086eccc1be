use Rattle.std.proofs.Common.{◌+◌, List, refl, sym, subst, arith}
use Rattle.frame_rows.specs.Walks.{IsBefore}
use Rattle.table_check.specs.declared.claims.ClaimedStep.{ClaimedStep}
use Rattle.table_check.specs.declared.claims.ClaimStep.TheVariants as claimed
use Rattle.table_check.proofs.Runs.{all_run, next_at, next_later, next_may, next_runs, no_next}
use Rattle.table_check.proofs.running.RunningFrame.run_to.Goals as goal

abbrev unread : ClaimedStep
unread = record { end = 0; step = claimed.Push (record { 0 = 0 }) }

pub returns-then-steps-i-clause-frame : goal.returns-then-steps-i-clause-frame
returns-then-steps-i-clause-frame c =
    let inv = c.loop-i.invariant in
    next_later c.loop-i.self c.args.offset c.args.steps.now inv.1 c.loop-i.i inv.0 unread c.loop-i-test.true c.if-steps-i.true

pub loop-i-preserved : goal.loop-i-preserved
loop-i-preserved c =
    let inv = c.loop-i.invariant in
    let steps : List ClaimedStep = c.args.steps.now in
    let past = c.if-steps-i.false in (
      refl,
      next_runs c.loop-i.self c.args.offset steps inv.1 c.loop-i.i inv.0 unread c.loop-i-test.true (record { frame = c.take.new.self; taken = c.loop-i.i + 1 }) refl
          (c.take.ensures inv.1.before inv.1.frame (next_may c.loop-i.self c.args.offset steps inv.1 c.loop-i.i inv.0 unread c.loop-i-test.true)) (omega (arith, past)),
    )

pub returns-clause-frame : goal.returns-clause-frame
returns-clause-frame c =
    let inv = c.loop-i.invariant in
    let done = c.loop-i-test.false in let at = inv.0 in
    all_run c.loop-i.self c.args.offset c.args.steps.now inv.1 (omega (arith, done, at))

pub returns-then-steps-i-clause-ahead : goal.returns-then-steps-i-clause-ahead
returns-then-steps-i-clause-ahead c =
    let inv = c.loop-i.invariant in
    let past = c.if-steps-i.true in
    subst (IsBefore c.args.offset) (sym (next_at c.loop-i.self c.args.steps.now c.loop-i.i inv.0 unread c.loop-i-test.true)) past

pub returns-clause-ahead : goal.returns-clause-ahead
returns-clause-ahead c =
    let inv = c.loop-i.invariant in
    let done = c.loop-i-test.false in let at = inv.0 in
    subst (IsBefore c.args.offset) (sym (no_next c.loop-i.self c.args.steps.now (omega (arith, done, at)))) tt
