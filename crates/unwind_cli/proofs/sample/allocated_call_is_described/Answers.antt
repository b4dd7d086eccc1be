use Rattle.std.proofs.Common.{refl}
use Rattle.unwind_cli.proofs.Allocated.{call_described, shows_allocated}
use Rattle.unwind_cli.proofs.sample.allocated_call_is_described.Goals as goal

pub returns-clause-call : goal.returns-clause-call
returns-clause-call c = call_described

pub returns-clause-shows : goal.returns-clause-shows
returns-clause-shows c = shows_allocated

pub returns-clause-caller : goal.returns-clause-caller
returns-clause-caller c = refl
