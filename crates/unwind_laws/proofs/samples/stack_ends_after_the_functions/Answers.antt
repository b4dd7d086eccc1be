use Rattle.unwind_laws.proofs.ThreeValid.{after_valid}
use Rattle.unwind_laws.proofs.samples.stack_ends_after_the_functions.Goals as goal

pub returns-clause-whole : goal.returns-clause-whole
returns-clause-whole c = after_valid
