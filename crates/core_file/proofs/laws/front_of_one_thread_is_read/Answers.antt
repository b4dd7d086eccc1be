use Rattle.std.proofs.Common.{refl, lit<}
use Rattle.core_file.specs.Sample.{one_thread_front, one_thread_front_value}
use Rattle.core_file.proofs.FrontLemmas.{front_is}
use Rattle.core_file.proofs.SampleLemmas.{one_thread_is_read, one_thread_front_is_read, one_thread_front_is_whole}
use Rattle.core_file.proofs.laws.front_of_one_thread_is_read.Goals as goal

pub returns : goal.returns
returns c = record {
  front = front_is one_thread_front one_thread_front_value one_thread_front_is_read;
  core = record { core = rw one_thread_is_read refl; begins = refl; few = lit< tt };
  whole = one_thread_front_is_whole;
}
