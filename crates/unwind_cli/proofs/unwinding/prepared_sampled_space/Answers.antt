use Rattle.std.proofs.Common.{◌∙◌, ap}
use Rattle.stack_walks.specs.Lines.{line_of}
use Rattle.stack_steps.specs.Modules.{SpaceValue}
use Rattle.stack_steps.specs.Preparing.{with_indexes}
use Rattle.delivery_laws.proofs.SameAnswers.{line_same}
use Rattle.unwind_cli.proofs.unwinding.prepared_sampled_space.Goals as goal

pub returns : goal.returns
returns c = λ limit start interrupted.
    let old = c.in_ok-space.space in
    let changed = c.in_ok-prepare.ensures.prepares in
    let walked = λ (s : SpaceValue). line_of s limit start interrupted in
    ap walked changed.is ∙ line_same old (with_indexes old.added changed.made) limit start interrupted ∙ ap walked c.in_ok-space.ensures
