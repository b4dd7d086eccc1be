use Rattle.folded_stacks.proofs.Witnesses.{folded, starts_chain}
use Rattle.folded_stacks.proofs.laws.repeated_samples_are_folded.Goals as goal

pub returns-clause-described : goal.returns-clause-described
returns-clause-described c = starts_chain

pub returns-clause-folded : goal.returns-clause-folded
returns-clause-folded c = folded
