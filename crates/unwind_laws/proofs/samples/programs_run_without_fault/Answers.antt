use Rattle.unwind_laws.proofs.PushingValid.{no_fault, are_rules}
use Rattle.unwind_laws.proofs.samples.programs_run_without_fault.Goals as goal

pub returns-clause-runs : goal.returns-clause-runs
returns-clause-runs c = no_fault

pub returns-clause-rules : goal.returns-clause-rules
returns-clause-rules c = are_rules
