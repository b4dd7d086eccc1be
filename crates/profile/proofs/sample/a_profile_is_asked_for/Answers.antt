use Rattle.std.proofs.Common.{refl}
use Rattle.std.specs.Char.{encode_utf8}
use Rattle.std.specs.Str.{is_utf8, chars}
use Rattle.std.specs.Prelude.{codes}
use Rattle.hex.specs.Hex.{decode_pairs}
use Rattle.serde_json.proofs.OnLiterals.{serde_json_on_literals}
use Rattle.perf_data.specs.Sample.{one_sample_value}
use Rattle.perf_data.proofs.SampleLemmas.{one_sample_is_read}
use Rattle.folded_stacks.proofs.FoldedLines.{counts_folded}
use Rattle.stack_snapshot.specs.Answers.{value_of}
use Rattle.stack_snapshot.specs.Snapshot.{regions_of, modules_of, start_of, resumes_of, limit_of, interrupted_of, whole_numbers, snapshot_of}
use Rattle.sampled_profile.specs.Profiles.{stacks_of}
use Rattle.profile.specs.Sample.{content, walked, records}
use Rattle.profile.proofs.sample.a_profile_is_asked_for.Goals as goal

pub returns-clause-asked : goal.returns-clause-asked
unfolding is_utf8 chars encode_utf8 decode_pairs serde_json_on_literals value_of regions_of modules_of start_of resumes_of limit_of interrupted_of whole_numbers snapshot_of
returns-clause-asked c = record {
  path = codes "tables.json";
  named = refl;
  content = content;
  reads = refl;
  walked = refl;
  profile = one_sample_value;
  holds = one_sample_is_read;
  whole = refl;
}

pub returns-clause-folded : goal.returns-clause-folded
returns-clause-folded c = counts_folded (stacks_of walked records)
