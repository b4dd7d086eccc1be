use Rattle.std.proofs.Common.{◌≡◌, List, Result, refl, subst}
use Rattle.unwind_arch.specs.declared.x86_64.Context.{Context}
use Rattle.stack_steps.specs.declared.error.DeliverError.{DeliverError}
use Rattle.stack_walks.specs.Lines.{GivesUnlessNoMemory, line_of}
use Rattle.unwind_cli.proofs.FewFrames.{few_are_given}
use Rattle.unwind_cli.proofs.unwinding.few_states.Goals as goal

pub returns : goal.returns
returns c =
    let s = c.args.snapshot.now in
    let space = c.args.space.now in
    let same : line_of space s.limit c.start-start.result c.args.interrupted ≡ line_of space s.limit s.start c.args.interrupted = rw c.start-start.ensures refl in
    let given = few_are_given space c.args.few s.limit c.start-start.result c.args.interrupted c.walk-walked.result c.requires (c.meets_limit.ensures.states c.if-meets_limit.false) c.walk-walked.ensures.exact in
    subst (λ (due : Result (List Context) DeliverError). GivesUnlessNoMemory c.walk-walked.result due) same given
