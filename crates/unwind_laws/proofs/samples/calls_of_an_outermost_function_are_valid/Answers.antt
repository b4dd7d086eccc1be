use Rattle.unwind_laws.proofs.ReturningValid.{late_process, late_valid}
use Rattle.unwind_laws.proofs.samples.calls_of_an_outermost_function_are_valid.Goals as goal

pub returns-clause-process : goal.returns-clause-process
returns-clause-process c = late_process

pub returns-clause-valid : goal.returns-clause-valid
returns-clause-valid c = late_valid
