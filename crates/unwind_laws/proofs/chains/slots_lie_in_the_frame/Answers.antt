use Rattle.unwind_laws.proofs.Slots.{slots_lie}
use Rattle.unwind_laws.proofs.chains.slots_lie_in_the_frame.Goals as goal

pub returns : goal.returns
returns c convention image outermost steps t s may entered = slots_lie convention image outermost steps t s may entered
