use Rattle.folded_stacks.specs.Folding.{accepted, fold_of}
use Rattle.folded_stacks.proofs.FoldedLines.{adds_up, counts_folded}
use Rattle.folded_stacks.proofs.laws.folds_count_each_sample.Goals as goal

pub returns-clause-lines : goal.returns-clause-lines
unfolding fold_of
returns-clause-lines c = λ space limit samples. counts_folded (accepted space limit samples)

pub returns-clause-adds_up : goal.returns-clause-adds_up
unfolding fold_of
returns-clause-adds_up c = λ space limit samples. adds_up space limit samples
