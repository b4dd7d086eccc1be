use Rattle.std.proofs.Common.{[], ◌∷◌, arith}
use Rattle.unwind_laws.specs.Three as three
use Rattle.unwind_laws.proofs.ThreeStacks.{first_valid}
use Rattle.unwind_cli.proofs.Samples.{described, first_described, shows_start}
use Rattle.unwind_cli.specs.Caught.{first}
use Rattle.unwind_cli.proofs.sample.pushed_call_is_described.Goals as goal

pub returns-clause-call : goal.returns-clause-call
returns-clause-call c = first_described first (three.fa ∷ []) three.start three.first_call [] (described first (three.fa ∷ []) three.start (three.first_call ∷ []) _ first_valid (tt, tt) shows_start (omega arith))

pub returns-clause-shows : goal.returns-clause-shows
returns-clause-shows c = shows_start
