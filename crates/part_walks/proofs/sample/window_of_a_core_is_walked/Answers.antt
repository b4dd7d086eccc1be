use Rattle.part_walks.proofs.PartSamples.{sample_core_tables, sample_core_walk, sample_laid_out, sample_windows}
use Rattle.part_walks.proofs.sample.window_of_a_core_is_walked.Goals as goal

pub returns-clause-tables : goal.returns-clause-tables
returns-clause-tables c = sample_core_tables

pub returns-clause-laid_out : goal.returns-clause-laid_out
returns-clause-laid_out c = sample_laid_out

pub returns-clause-windows : goal.returns-clause-windows
returns-clause-windows c = sample_windows

pub returns-clause-walk : goal.returns-clause-walk
returns-clause-walk c = sample_core_walk
