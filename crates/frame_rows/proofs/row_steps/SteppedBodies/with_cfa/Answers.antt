use Rattle.frame_rows.specs.BodySteps.{offset_step, save_step}
use Rattle.frame_rows.proofs.BodySteps.{steps_longer}
use Rattle.frame_rows.proofs.row_steps.SteppedBodies.with_cfa.Goals as goal

pub invariant_of-self : goal.invariant_of-self
invariant_of-self c =
    let g = c.with_cfa.ensures.grows in (
      steps_longer c.self.inside.bodies c.with_cfa.new.self g offset_step c.self.inside.offsets c.self.invariant.0,
      steps_longer c.self.inside.bodies c.with_cfa.new.self g save_step c.self.inside.saves c.self.invariant.1,
    )
