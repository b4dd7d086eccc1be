use Rattle.std.proofs.Common.{true, ap, refl}
use Rattle.std.specs.Prelude.{is_some}
use Rattle.frame_rows.proofs.Steps.{step_restore}
use Rattle.frame_rows.proofs.CannotFollow.{restore_fault}
use Rattle.frame_rows.proofs.machine.Machine.restore_state.Goals as goal

pub returns-then-take_into-clause-follows : goal.returns-then-take_into-clause-follows
returns-then-take_into-clause-follows c start run rep =
    let taken = c.take_into.ensures.some c.if-take_into.true in (
      restore_fault start c.args.self.now run rep true (ap is_some taken.0),
      step_restore start c.args.self.now run rep _ _ taken.0 taken.1 refl refl refl,
    )

pub returns-then-take_into-clause-rows : goal.returns-then-take_into-clause-rows
returns-then-take_into-clause-rows c rows k =
    let taken = c.take_into.ensures.some c.if-take_into.true in
    rw taken.1 (rw taken.0 at k.1, tt)
