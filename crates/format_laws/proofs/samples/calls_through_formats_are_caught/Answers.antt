use Rattle.std.proofs.Common.{refl}
use Rattle.format_laws.proofs.Caught.{is_process, caught_valid}
use Rattle.format_laws.proofs.samples.calls_through_formats_are_caught.Goals as goal

pub returns-clause-process : goal.returns-clause-process
returns-clause-process c = is_process

pub returns-clause-valid : goal.returns-clause-valid
returns-clause-valid c = caught_valid

pub returns-clause-delivery : goal.returns-clause-delivery
returns-clause-delivery c = refl
