use Rattle.stack_report.specs.Digits.{hexadecimal}
use Rattle.stack_report.proofs.Lines.{field_put}
use Rattle.stack_report.proofs.line.Line.put_field.Goals as goal

pub returns-clause-text : goal.returns-clause-text
returns-clause-text c =
    field_put c.args.self.now c.put.new.self c.put_number.new.self c.args.label.now (hexadecimal c.args.number)
    c.put.ensures.text c.put_number.ensures.text
