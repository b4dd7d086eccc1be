use Rattle.folded_stacks.proofs.Counting.{folded_once}
use Rattle.folded_stacks.proofs.laws.counts_are_exact.Goals as goal

pub returns : goal.returns
returns c = λ stacks lines others is as_well. folded_once stacks lines others is as_well
