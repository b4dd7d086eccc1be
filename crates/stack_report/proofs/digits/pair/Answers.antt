use Rattle.std.proofs.Common.{arith}
use Rattle.stack_report.proofs.Pairs.{high_digit, low_digit}
use Rattle.stack_report.proofs.digits.pair.Goals as goal

pub returns-clause-high : goal.returns-clause-high
returns-clause-high c = rw c.from-place.ensures (high_digit c.args.byte (omega arith))

pub returns-clause-low : goal.returns-clause-low
returns-clause-low c = rw c.from-place.ensures (low_digit c.args.byte (omega arith))
