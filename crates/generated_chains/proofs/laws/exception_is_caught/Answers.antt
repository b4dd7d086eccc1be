use Rattle.generated_chains.proofs.laws.exception_is_caught.Goals as goal
use Rattle.generated_chains.proofs.Delivered.{caught}

pub returns : goal.returns
returns c = caught c.args.exception c.args.seed c.args.count c.requires.some
