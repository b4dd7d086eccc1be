use Rattle.std.proofs.Common.{◌<◌, arith, refl}
use Rattle.stack_report.proofs.Heads.{digits_counted, zero_digits}
use Rattle.stack_report.proofs.digits.digit_count.Goals as goal

pub returns-then-number-eq0-clause-digits : goal.returns-then-number-eq0-clause-digits
returns-then-number-eq0-clause-digits c = zero_digits c.args.number c.if-number-eq0.true

pub returns-else-number-eq0-clause-fits : goal.returns-else-number-eq0-clause-fits
returns-else-number-eq0-clause-fits c =
    let some : 0 < c.args.number = omega (arith, c.if-number-eq0.false) in
    (digits_counted c.args.number _ (omega (arith, c.ranges.number)) some refl).2

pub returns-else-number-eq0-clause-digits : goal.returns-else-number-eq0-clause-digits
returns-else-number-eq0-clause-digits c =
    let some : 0 < c.args.number = omega (arith, c.if-number-eq0.false) in
    (digits_counted c.args.number _ (omega (arith, c.ranges.number)) some refl).3
