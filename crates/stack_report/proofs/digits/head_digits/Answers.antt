use Rattle.stack_report.proofs.Heads.{head_written}
use Rattle.stack_report.proofs.digits.head_digits.Goals as goal

pub returns-clause-digits : goal.returns-clause-digits
returns-clause-digits c = rw c.sixteen_digits.ensures (head_written c.args.number c.digit_count-count.result c.digit_count-count.ensures.most c.digit_count-count.ensures.fits c.digit_count-count.ensures.digits)
