use Rattle.perf_data.proofs.SampleLemmas.{one_sample_is_read, columns_are_read}
use Rattle.perf_data.proofs.laws.file_of_one_sample_is_read.Goals as goal

pub returns : goal.returns
returns c = record { file = one_sample_is_read; columns = columns_are_read }
