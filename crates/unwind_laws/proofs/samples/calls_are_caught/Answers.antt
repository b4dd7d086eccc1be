use Rattle.unwind_laws.proofs.ThreeValid.{three_process, caught_valid}
use Rattle.unwind_laws.proofs.samples.calls_are_caught.Goals as goal

pub returns-clause-process : goal.returns-clause-process
returns-clause-process c = three_process

pub returns-clause-valid : goal.returns-clause-valid
returns-clause-valid c = caught_valid
