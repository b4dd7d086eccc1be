use Rattle.std.proofs.Common.{List, map, sym, subst, arith}
use Rattle.table_check.specs.declared.claims.ClaimedStep.{ClaimedStep}
use Rattle.table_check.specs.declared.claims.ClaimStep.TheVariants as claimed
use Rattle.table_check.specs.ClaimViews.{prologue_step_of}
use Rattle.table_check.specs.Frames.{MayGoOn}
use Rattle.table_check.proofs.Deciding.{decides_no, decides_not, decides_yes}
use Rattle.table_check.proofs.GoneThrough.{left_is, none_left}
use Rattle.table_check.proofs.Prologues.{goes_on_prologue, prologue_goes_on}
use Rattle.table_check.proofs.prologue.is_prologue.Goals as goal

abbrev unread : ClaimedStep
unread = record { end = 0; step = claimed.Push (record { 0 = 0 }) }

pub returns-then-step-last : goal.returns-then-step-last
returns-then-step-last c =
    let xs : List ClaimedStep = c.args.steps.now in
    let inv = c.loop-step.invariant in
    decides_no (λ is.
    let on = subst (MayGoOn c.loop-step.last inv.0) (left_is prologue_step_of xs c.loop-step.step-index unread c.loop-step-test.true) (inv.3 (goes_on_prologue (map prologue_step_of xs) is)) in
    let after = on.0 in let early = c.if-step-last.true in omega (arith, after, early))

pub returns-then-not-may_take : goal.returns-then-not-may_take
returns-then-not-may_take c =
    let xs : List ClaimedStep = c.args.steps.now in
    let inv = c.loop-step.invariant in
    decides_no (λ is.
    let on = subst (MayGoOn c.loop-step.last inv.0) (left_is prologue_step_of xs c.loop-step.step-index unread c.loop-step-test.true) (inv.3 (goes_on_prologue (map prologue_step_of xs) is)) in
    decides_not c.may_take.result (c.may_take.ensures inv.0 inv.1) c.if-not-may_take.true on.1)

pub returns : goal.returns
returns c =
    let xs : List ClaimedStep = c.args.steps.now in
    let inv = c.loop-step.invariant in
    decides_yes (prologue_goes_on (map prologue_step_of xs) (inv.2 (subst (MayGoOn c.loop-step.last inv.0) (sym (none_left prologue_step_of xs c.loop-step.step-index c.loop-step-test.false)) tt)))
