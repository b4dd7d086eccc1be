use Rattle.core_file.specs.Sample.{one_thread, one_thread_value}
use Rattle.core_file.proofs.CoreLemmas.{read-core}
use Rattle.core_file.proofs.SampleLemmas.{one_thread_is_read}
use Rattle.core_file.proofs.laws.core_of_one_thread_is_read.Goals as goal

pub returns : goal.returns
returns c = read-core one_thread one_thread_value one_thread_is_read
