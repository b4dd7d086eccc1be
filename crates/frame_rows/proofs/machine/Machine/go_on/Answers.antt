use Rattle.std.proofs.Common.{refl}
use Rattle.frame_rows.proofs.StretchSteps.{led_on}
use Rattle.frame_rows.proofs.machine.Machine.go_on.Goals as goal

pub returns-clause-follows : goal.returns-clause-follows
returns-clause-follows c start run i rep is ahead = led_on start c.args.location c.args.self.now _ run i rep is ahead refl refl refl refl
