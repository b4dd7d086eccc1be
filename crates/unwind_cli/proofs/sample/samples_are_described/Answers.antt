use Rattle.std.proofs.Common.{[], ◌∷◌, refl, lit≤}
use Rattle.std.specs.Char.{encode_utf8}
use Rattle.std.specs.Str.{is_utf8, chars}
use Rattle.hex.specs.Hex.{decode_pairs}
use Rattle.serde_json.proofs.OnLiterals.{serde_json_on_literals}
use Rattle.unwind_laws.proofs.Booleans.{first, later}
use Rattle.folded_stacks.specs.FoldSample.{sample_at}
use Rattle.stack_snapshot.specs.Answers.{value_of}
use Rattle.stack_snapshot.specs.Sampled.{depth_of, sampled_of, samples_of}
use Rattle.stack_snapshot.specs.Snapshot.{interrupted_of, modules_of, regions_of, start_of, whole_numbers}
use Rattle.unwind_cli.specs.Stopped.{stopped_sample, sampled_json}
use Rattle.unwind_cli.proofs.StoppedSamples.{starts_stop, written}
use Rattle.folded_stacks.proofs.Witnesses.{starts_chain}
use Rattle.unwind_cli.proofs.sample.samples_are_described.Goals as goal

pub returns-clause-read : goal.returns-clause-read
unfolding is_utf8 chars encode_utf8 decode_pairs serde_json_on_literals value_of regions_of modules_of start_of interrupted_of whole_numbers samples_of depth_of sampled_of
returns-clause-read c = record { bytes = sampled_json; named = refl; source_is = refl; short = lit≤ tt; reads = refl }

pub returns-clause-called : goal.returns-clause-called
returns-clause-called c = (first (sample_at 0x401006) (stopped_sample ∷ sample_at 0 ∷ []), refl, starts_chain)

pub returns-clause-stopped : goal.returns-clause-stopped
returns-clause-stopped c = (later (sample_at 0x401006) (stopped_sample ∷ sample_at 0 ∷ []) stopped_sample (first stopped_sample (sample_at 0 ∷ [])), refl, starts_stop)

pub returns-clause-written : goal.returns-clause-written
returns-clause-written c = written
