use Rattle.std.proofs.Common.{refl}
use Rattle.part_walks.proofs.PartSamples.{sample_has, sample_has_window, sample_is_part, sample_laid_out, sample_part_grows, sample_states, sample_step, sample_tables, sample_walk, sample_whole_grows, sample_within}
use Rattle.part_walks.proofs.sample.window_of_a_stack_is_walked.Goals as goal

pub returns-clause-part : goal.returns-clause-part
returns-clause-part c = refl

pub returns-clause-whole : goal.returns-clause-whole
returns-clause-whole c = refl

pub returns-clause-tables : goal.returns-clause-tables
returns-clause-tables c = sample_tables

pub returns-clause-part_grows : goal.returns-clause-part_grows
returns-clause-part_grows c = sample_part_grows

pub returns-clause-whole_grows : goal.returns-clause-whole_grows
returns-clause-whole_grows c = sample_whole_grows

pub returns-clause-is_part : goal.returns-clause-is_part
returns-clause-is_part c = sample_is_part

pub returns-clause-lacks : goal.returns-clause-lacks
returns-clause-lacks c = refl

pub returns-clause-maps : goal.returns-clause-maps
returns-clause-maps c = refl

pub returns-clause-laid_out : goal.returns-clause-laid_out
returns-clause-laid_out c = sample_laid_out

pub returns-clause-within : goal.returns-clause-within
returns-clause-within c = sample_within

pub returns-clause-has : goal.returns-clause-has
returns-clause-has c = sample_has

pub returns-clause-has_window : goal.returns-clause-has_window
returns-clause-has_window c = sample_has_window

pub returns-clause-step : goal.returns-clause-step
returns-clause-step c = sample_step

pub returns-clause-walk : goal.returns-clause-walk
returns-clause-walk c = sample_walk

pub returns-clause-states : goal.returns-clause-states
returns-clause-states c = sample_states
