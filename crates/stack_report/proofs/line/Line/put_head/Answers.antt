use Rattle.std.proofs.Common.{arith}
use Rattle.stack_report.proofs.Lines.{head_put}
use Rattle.stack_report.proofs.line.Line.put_head.Goals as goal

pub returns : goal.returns
returns c =
    rw (← c.self.view_is) (head_put c.self.inside.bytes c.write_at.new.room c.args.bytes.now c.self.inside.end c.args.count (omega (arith, c.self.invariant.0, c.self.invariant.1)) c.requires.head c.write_at.ensures)
