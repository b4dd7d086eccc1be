use Rattle.std.proofs.Common.{List, Result, ◌∙◌, ap, subst}
use Rattle.unwind_arch.specs.declared.x86_64.Context.{Context}
use Rattle.stack_steps.specs.declared.error.DeliverError.{DeliverError}
use Rattle.stack_steps.specs.Modules.{SpaceValue}
use Rattle.stack_steps.specs.Preparing.{with_indexes}
use Rattle.stack_walks.specs.Lines.{GivesUnlessNoMemory, line_of}
use Rattle.delivery_laws.proofs.SameAnswers.{line_same}
use Rattle.unwind_cli.proofs.unwinding.prepared_states.Goals as goal

pub returns : goal.returns
returns c =
    let old = c.args.space.now in
    let changed = c.in_ok-prepare.ensures.prepares in
    let walked = λ (s : SpaceValue). line_of s c.args.limit c.args.start.now c.args.interrupted in
    let same = ap walked changed.is ∙ line_same old (with_indexes old.added changed.made) c.args.limit c.args.start.now c.args.interrupted in
    subst (λ (due : Result (List Context) DeliverError). GivesUnlessNoMemory c.walk.result due) same c.walk.ensures.exact
