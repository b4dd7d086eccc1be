use Rattle.unwind_laws.proofs.PushingValid.{one_process, one_step, one_valid}
use Rattle.unwind_laws.proofs.samples.one_call_is_valid.Goals as goal

pub returns-clause-process : goal.returns-clause-process
returns-clause-process c = one_process

pub returns-clause-valid : goal.returns-clause-valid
returns-clause-valid c = one_valid

pub returns-clause-step : goal.returns-clause-step
returns-clause-step c = one_step
