use Rattle.std.proofs.Common.{refl, arith}
use Rattle.std.specs.Fmt.{digits}
use Rattle.unwind_laws.specs.Storing as storing
use Rattle.unwind_laws.proofs.StoringValid.{pointed_valid}
use Rattle.stack_report.specs.Digits.{hexadecimal}
use Rattle.stack_report.specs.Report.{state_fields, state_line}
use Rattle.unwind_cli.specs.FramePointer.{snapshot}
use Rattle.unwind_cli.proofs.Samples.{described, shows_stored}
use Rattle.unwind_cli.proofs.sample.frame_pointer_is_described.Goals as goal

pub returns-clause-described : goal.returns-clause-described
returns-clause-described c = described snapshot storing.functions storing.start storing.calls _ pointed_valid (tt, tt) shows_stored (omega arith)

pub returns-clause-written : goal.returns-clause-written
unfolding digits hexadecimal state_fields state_line
returns-clause-written c = refl
