use Rattle.std.proofs.Common.{◌≡◌, ◌∙◌, refl}
use Rattle.folded_stacks.specs.Folding.{fold_of}
use Rattle.folded_stacks.proofs.Walks.{fold_same}
use Rattle.stack_snapshot.specs.Sampled.{sampled_space}
use Rattle.unwind_cli.specs.Due.{fold_from}
use Rattle.unwind_cli.proofs.unwinding.fold_snapshot.Goals as goal

pub returns-in-Ok : goal.returns-in-Ok
unfolding fold_from
returns-in-Ok c =
    let s = c.args.snapshot.now in
    let same = fold_same c.in_ok-space.space (sampled_space s) c.limit.result c.samples.result.now (λ start interrupted. c.in_ok-space.ensures c.limit.result start interrupted) in
    let due : fold_of (sampled_space s) c.limit.result c.samples.result.now ≡ fold_from s = rw (c.limit.ensures.value, c.samples.ensures) refl in
    c.in-Ok.ensures.exact ∙ (same ∙ due)
