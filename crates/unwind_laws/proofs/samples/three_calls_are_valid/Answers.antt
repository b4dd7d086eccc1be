use Rattle.unwind_laws.proofs.PushingValid.{three_process, three_valid}
use Rattle.unwind_laws.proofs.samples.three_calls_are_valid.Goals as goal

pub returns-clause-process : goal.returns-clause-process
returns-clause-process c = three_process

pub returns-clause-valid : goal.returns-clause-valid
returns-clause-valid c = three_valid
