use Rattle.std.proofs.Common.{◌≡◌, rules}
use Rattle.folded_stacks.specs.Folding.{accepted, refused_of}
use Rattle.folded_stacks.proofs.FoldedLines.{runs_exact}
use Rattle.folded_stacks.proofs.folding.fold_walks.Goals as goal

pub returns : goal.returns
returns c =
    let stacks : c.in_ok-stacks.field-0.stacks ≡ accepted c.args.space.now c.args.limit c.args.samples.now = search rules in
    let refused : c.in_ok-stacks.field-0.refused ≡ refused_of c.args.space.now c.args.limit c.args.samples.now = search rules in
    runs_exact c.fold_runs.result c.args.space.now c.args.limit c.args.samples.now _ _ _ stacks refused c.in_ok-sort.ensures.same c.in_ok-sort.ensures.order c.fold_runs.ensures
