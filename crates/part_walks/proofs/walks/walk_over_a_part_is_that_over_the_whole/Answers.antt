use Rattle.part_walks.proofs.PartSteps.{step_whole, walk_whole}
use Rattle.part_walks.proofs.walks.walk_over_a_part_is_that_over_the_whole.Goals as goal

pub returns-clause-step : goal.returns-clause-step
returns-clause-step c = step_whole

pub returns-clause-walk : goal.returns-clause-walk
returns-clause-walk c = walk_whole
