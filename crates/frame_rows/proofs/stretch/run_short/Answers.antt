use Rattle.std.proofs.Common.{refl}
use Rattle.frame_rows.proofs.Steps.{step_nop}
use Rattle.frame_rows.proofs.stretch.run_short.Goals as goal

pub returns-in-Nop-clause-moves : goal.returns-in-Nop-clause-moves
returns-in-Nop-clause-moves c start run rep = rw c.in-Nop.is (tt, refl, step_nop start c.args.machine.now run rep)
