use Rattle.std.proofs.Common.{rules, refl}
use Rattle.frame_rows.proofs.Standing.{stands_nop, stands_remember, stands_restore}
use Rattle.frame_rows.proofs.body_run.BodyRun.run.Goals as goal

pub returns-in-Nop-clause-moves : goal.returns-in-Nop-clause-moves
returns-in-Nop-clause-moves c start m run rep st = rw c.in-Nop.is (stands_nop c.args.bodies.now start m run rep c.args.self.now st)

pub returns-else-is_some-clause-moves : goal.returns-else-is_some-clause-moves
returns-else-is_some-clause-moves c start m run rep st = rw c.in-RememberState.is (stands_remember c.args.bodies.now start m run rep c.args.self.now st _ (search rules) refl refl refl)

pub returns-in_ok-place-in-RestoreState-clause-moves : goal.returns-in_ok-place-in-RestoreState-clause-moves
returns-in_ok-place-in-RestoreState-clause-moves c start m run rep st = rw c.in-RestoreState.is (stands_restore c.args.bodies.now start m run rep c.args.self.now st _ _ (search rules) refl refl refl)
