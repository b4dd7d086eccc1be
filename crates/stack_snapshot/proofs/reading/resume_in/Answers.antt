use Rattle.std.proofs.Common.{sym, arith}
use Rattle.stack_snapshot.proofs.Each.{resume_in_other}
use Rattle.stack_snapshot.proofs.reading.resume_in.Goals as goal

pub returns-in_default : goal.returns-in_default
returns-in_default c = sym (resume_in_other c.args.items.now (omega arith))

pub returns-in_default-2 : goal.returns-in_default-2
returns-in_default-2 c = sym (resume_in_other c.args.items.now (omega arith))
