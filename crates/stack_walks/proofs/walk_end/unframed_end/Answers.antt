use Rattle.std.proofs.Common.{List, sym, subst, ◌∙◌}
use Rattle.memory_image.specs.Image.{Span}
use Rattle.stack_steps.specs.Stepping.{FindsNoneIn}
use Rattle.stack_walks.proofs.EndAnswers.{held_finds_none}
use Rattle.stack_walks.proofs.walk_end.unframed_end.Goals as goal

pub unknown_end-requires : goal.unknown_end-requires
unknown_end-requires c =
    let s = c.args.state.now in
    subst (λ (image : List Span). FindsNoneIn image c.in-Some.holder c.in-Some.holder.tables c.address-address.result) (sym c.image.ensures.image) (held_finds_none c.args.space.now s.context s.signal c.in-Some.holder c.address-address.result c.if-state-eq0.false c.requires c.address-address.ensures (sym c.in-Some.is ∙ c.module_at.ensures))
