use Rattle.std.proofs.Common.{refl, arith}
use Rattle.std.specs.Fmt.{digits}
use Rattle.unwind_laws.specs.Three as three
use Rattle.unwind_laws.proofs.ThreeValid.{header_valid}
use Rattle.stack_report.specs.Digits.{hexadecimal}
use Rattle.stack_report.specs.Report.{state_fields, state_line, pad_line, handler_line}
use Rattle.unwind_cli.specs.Caught as caught
use Rattle.unwind_cli.proofs.Samples.{described, walk_described, shows_start}
use Rattle.unwind_cli.proofs.sample.functions_by_a_header_are_described.Goals as goal

pub returns-clause-described : goal.returns-clause-described
returns-clause-described c = described caught.by_header three.functions three.start three.calls _ header_valid (tt, tt) shows_start (omega arith)

pub returns-clause-walked : goal.returns-clause-walked
returns-clause-walked c = (refl, walk_described caught.by_header three.functions three.start three.calls (returns-clause-described c))

pub returns-clause-written : goal.returns-clause-written
unfolding digits hexadecimal state_fields state_line pad_line handler_line
returns-clause-written c = refl
