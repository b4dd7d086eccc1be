use Rattle.std.proofs.Common.{refl, arith}
use Rattle.frame_rows.proofs.Steps.{step_set}
use Rattle.frame_rows.proofs.CannotFollow.{goes_on}
use Rattle.frame_rows.proofs.machine.Machine.set_location.Goals as goal

pub returns-clause-follows : goal.returns-clause-follows
returns-clause-follows c start run rep = (goes_on start c.args.self.now run rep c.args.address (omega arith), step_set start c.args.self.now run rep c.args.address _ refl refl refl refl)
