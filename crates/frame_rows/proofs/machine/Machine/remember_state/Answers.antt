use Rattle.std.proofs.Common.{false, refl, sym, ◌∙◌}
use Rattle.frame_rows.proofs.Steps.{step_remember}
use Rattle.frame_rows.proofs.CannotFollow.{remember_fault}
use Rattle.frame_rows.proofs.machine.Machine.remember_state.Goals as goal

pub returns-clause-follows : goal.returns-clause-follows
returns-clause-follows c start run rep = (
  remember_fault start c.args.self.now run rep false (sym c.is_some.ensures.some ∙ c.if-is_some.false),
  step_remember start c.args.self.now run rep _ (c.is_some.ensures.none c.if-is_some.false) c.put.ensures refl refl refl,
)

pub returns-clause-rows : goal.returns-clause-rows
returns-clause-rows c rows k = rw c.put.ensures (k.0, k.0)
