use Rattle.std.proofs.Common.{arith}
use Rattle.unwind_laws.specs.Three as three
use Rattle.unwind_laws.proofs.ThreeValid.{header_valid}
use Rattle.unwind_cli.proofs.Samples.{described, first_described, shows_start}
use Rattle.unwind_cli.specs.Caught.{by_header}
use Rattle.unwind_cli.proofs.sample.listed_call_is_described.Goals as goal

pub returns-clause-call : goal.returns-clause-call
returns-clause-call c = first_described by_header three.functions three.start three.first_call _ (described by_header three.functions three.start three.calls _ header_valid (tt, tt) shows_start (omega arith))

pub returns-clause-shows : goal.returns-clause-shows
returns-clause-shows c = shows_start
