use Rattle.unwind_laws.proofs.StoringValid.{pointed_process, pointed_valid}
use Rattle.unwind_laws.proofs.samples.calls_through_a_frame_pointer_are_valid.Goals as goal

pub returns-clause-process : goal.returns-clause-process
returns-clause-process c = pointed_process

pub returns-clause-valid : goal.returns-clause-valid
returns-clause-valid c = pointed_valid
