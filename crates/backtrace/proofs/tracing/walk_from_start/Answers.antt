use Rattle.stack_steps.specs.Growing.{over_image}
use Rattle.backtrace.proofs.tracing.walk_from_start.Goals as goal

pub walk_interrupted-requires-clause-made : goal.walk_interrupted-requires-clause-made
walk_interrupted-requires-clause-made c = c.in_ok-made.ensures (over_image c.args.space.now c.image-image.result.now)
