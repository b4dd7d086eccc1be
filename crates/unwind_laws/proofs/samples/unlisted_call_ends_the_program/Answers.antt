use Rattle.unwind_laws.proofs.ThreeValid.{unlisted_valid}
use Rattle.unwind_laws.proofs.samples.unlisted_call_ends_the_program.Goals as goal

pub returns-clause-valid : goal.returns-clause-valid
returns-clause-valid c = unlisted_valid
