use Rattle.std.proofs.Common.{arith}
use Rattle.unwind_laws.specs.Storing as storing
use Rattle.unwind_laws.proofs.StoringValid.{pointed_valid}
use Rattle.unwind_cli.proofs.Samples.{described, first_described, shows_stored}
use Rattle.unwind_cli.specs.FramePointer.{snapshot}
use Rattle.unwind_cli.proofs.sample.stored_call_is_described.Goals as goal

pub returns-clause-call : goal.returns-clause-call
returns-clause-call c = first_described snapshot storing.functions storing.start _ _ (described snapshot storing.functions storing.start storing.calls _ pointed_valid (tt, tt) shows_stored (omega arith))

pub returns-clause-shows : goal.returns-clause-shows
returns-clause-shows c = shows_stored
