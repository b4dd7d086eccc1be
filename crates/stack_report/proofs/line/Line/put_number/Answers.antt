use Rattle.std.proofs.Common.{take, false}
use Rattle.std.specs.Prelude.{codes}
use Rattle.std.specs.Fmt.{digits}
use Rattle.stack_report.specs.Digits.{hexadecimal}
use Rattle.stack_report.proofs.Lines.{number_put}
use Rattle.stack_report.proofs.line.Line.put_number.Goals as goal

pub returns-clause-text : goal.returns-clause-text
unfolding hexadecimal
returns-clause-text c =
    number_put c.args.self.now c.put.new.self c.put_head.new.self (codes "0x")
    (take c.head_digits-count.result.1 c.head_digits-count.result.0) (digits 16 false c.args.number)
    c.put.ensures.text c.put_head.ensures c.head_digits-count.ensures.digits
