use Rattle.unwind_laws.proofs.ThreeValid.{three_header_process, header_valid}
use Rattle.unwind_laws.proofs.samples.calls_by_a_header_are_caught.Goals as goal

pub returns-clause-process : goal.returns-clause-process
returns-clause-process c = three_header_process

pub returns-clause-valid : goal.returns-clause-valid
returns-clause-valid c = header_valid
