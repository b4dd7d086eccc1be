use Rattle.std.proofs.Common.{List, arith, subst}
use Rattle.frame_rows.specs.KnownSlots.{IsKnownStep}
use Rattle.frame_rows.specs.declared.known_steps.KnownStep.{KnownStep}
use Rattle.frame_rows.proofs.BodySteps.{in_slot}
use Rattle.frame_rows.proofs.known_steps.KnownSteps.get.Goals as goal

pub returns : goal.returns
returns c = subst (λ (slots : List KnownStep). IsKnownStep slots c.index.result.now) c.self.view_is
    (in_slot c.self.inside.slots.items _ c.index.result.now c.index.ensures (omega arith))
