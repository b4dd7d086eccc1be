use Rattle.named_walks.proofs.PartMarks.{core_marked, marked_whole, sample_core_marked, sample_marked}
use Rattle.named_walks.proofs.parts.marked_walk_over_a_part_is_that_over_the_whole.Goals as goal

pub returns-clause-walk : goal.returns-clause-walk
returns-clause-walk c = marked_whole

pub returns-clause-core : goal.returns-clause-core
returns-clause-core c = core_marked

pub returns-clause-sample : goal.returns-clause-sample
returns-clause-sample c = sample_marked

pub returns-clause-sample_core : goal.returns-clause-sample_core
returns-clause-sample_core c = sample_core_marked
