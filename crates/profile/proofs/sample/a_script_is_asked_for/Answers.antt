use Rattle.std.proofs.Common.{refl}
use Rattle.std.specs.Char.{encode_utf8}
use Rattle.std.specs.Str.{is_utf8, chars}
use Rattle.std.specs.Prelude.{codes}
use Rattle.hex.specs.Hex.{decode_pairs}
use Rattle.serde_json.proofs.OnLiterals.{serde_json_on_literals}
use Rattle.perf_data.specs.Sample.{one_sample_value}
use Rattle.perf_data.proofs.SampleLemmas.{one_sample_is_read}
use Rattle.stack_snapshot.specs.Answers.{value_of}
use Rattle.stack_snapshot.specs.Snapshot.{regions_of, modules_of, start_of, resumes_of, limit_of, interrupted_of, whole_numbers, snapshot_of}
use Rattle.profile.specs.Sample.{content}
use Rattle.profile.proofs.sample.a_script_is_asked_for.Goals as goal

pub returns : goal.returns
unfolding is_utf8 chars encode_utf8 decode_pairs serde_json_on_literals value_of regions_of modules_of start_of resumes_of limit_of interrupted_of whole_numbers snapshot_of
returns c = record {
  path = codes "tables.json";
  named = refl;
  content = content;
  reads = refl;
  walked = refl;
  profile = one_sample_value;
  holds = one_sample_is_read;
  whole = refl;
}
