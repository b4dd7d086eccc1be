use Rattle.std.proofs.Common.{refl, arith}
use Rattle.frame_rows.proofs.Steps.{step_advance}
use Rattle.frame_rows.proofs.CannotFollow.{fits}
use Rattle.frame_rows.proofs.machine.Machine.advance.Goals as goal

pub returns-clause-follows : goal.returns-clause-follows
returns-clause-follows c start run rep = (fits start c.args.self.now run rep c.args.delta (omega arith), step_advance start c.args.self.now run rep c.args.delta _ refl refl refl refl)
