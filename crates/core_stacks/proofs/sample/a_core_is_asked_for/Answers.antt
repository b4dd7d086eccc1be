use Rattle.std.proofs.Common.{refl, lit≤}
use Rattle.std.specs.Prelude.{codes}
use Rattle.core_file.proofs.SampleLemmas.{one_thread_is_read}
use Rattle.core_stacks.proofs.sample.a_core_is_asked_for.Goals as goal

pub returns : goal.returns
returns c = record {
  plain = record { path = codes "core"; named = refl; has = refl; short = lit≤ tt; reads = one_thread_is_read };
  names = record { path = codes "core"; named = refl; has = refl; short = lit≤ tt; reads = one_thread_is_read };
}
