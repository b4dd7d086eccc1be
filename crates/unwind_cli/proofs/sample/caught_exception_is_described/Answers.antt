use Rattle.std.proofs.Common.{refl, arith}
use Rattle.std.specs.Fmt.{digits}
use Rattle.unwind_laws.specs.Three as three
use Rattle.unwind_laws.proofs.ThreeValid.{caught_valid}
use Rattle.stack_report.specs.Digits.{hexadecimal}
use Rattle.stack_report.specs.Report.{state_fields, state_line, pad_line, handler_line}
use Rattle.unwind_cli.specs.Caught as caught
use Rattle.unwind_cli.proofs.Samples.{described, shows_start}
use Rattle.unwind_cli.proofs.sample.caught_exception_is_described.Goals as goal

pub returns-clause-described : goal.returns-clause-described
returns-clause-described c = described caught.snapshot three.functions three.start three.calls _ caught_valid (tt, tt) shows_start (omega arith)

pub returns-clause-written : goal.returns-clause-written
unfolding digits hexadecimal state_fields state_line pad_line handler_line
returns-clause-written c = refl
