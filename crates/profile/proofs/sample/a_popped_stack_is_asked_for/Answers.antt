use Rattle.std.proofs.Common.{[], ◌∷◌, ap, refl}
use Rattle.std.specs.Char.{encode_utf8}
use Rattle.std.specs.Fmt.{digits}
use Rattle.std.specs.Str.{is_utf8, chars}
use Rattle.std.specs.Prelude.{codes}
use Rattle.hex.specs.Hex.{decode_pairs}
use Rattle.serde_json.proofs.OnLiterals.{serde_json_on_literals}
use Rattle.unwind_definitions.specs.Entries.{entry_at}
use Rattle.unwind_definitions.specs.Scan.{scan}
use Rattle.perf_data.specs.Records.{Named}
use Rattle.perf_data.specs.Sample.{name_value}
use Rattle.stack_steps.specs.Functions.{described_function}
use Rattle.stack_report.specs.Digits.{hexadecimal}
use Rattle.stack_snapshot.specs.Answers.{value_of}
use Rattle.stack_snapshot.specs.Origins.{origins_of}
use Rattle.stack_snapshot.specs.Snapshot.{regions_of, modules_of, start_of, resumes_of, limit_of, interrupted_of, whole_numbers, snapshot_of}
use Rattle.sampled_profile.specs.Ends.{StackWalk}
use Rattle.sampled_profile.specs.Frames.{frames_of}
use Rattle.sampled_profile.specs.Names.{name_in, name_of, process_name_of}
use Rattle.sampled_profile.specs.Scripts.{head_line, sample_lines}
use Rattle.sampled_profile.specs.Texts.{frame_text, stack_text}
use Rattle.profile.specs.PoppedSample.{content, sample_value, value, walked}
use Rattle.profile.proofs.PoppedSampleRead.{popped_front_begins, popped_sample_begins, popped_sample_is_read, sample_is_walked}
use Rattle.profile.proofs.sample.a_popped_stack_is_asked_for.Goals as goal

pub returns-clause-asked : goal.returns-clause-asked
unfolding is_utf8 chars encode_utf8 decode_pairs serde_json_on_literals value_of regions_of modules_of start_of resumes_of limit_of interrupted_of whole_numbers snapshot_of
returns-clause-asked c = record {
  path = codes "tables.json";
  named = refl;
  content = content;
  reads = refl;
  walked = refl;
  profile = value;
  holds = popped_sample_is_read;
  whole = refl;
}

pub returns-clause-asked_script : goal.returns-clause-asked_script
unfolding is_utf8 chars encode_utf8 decode_pairs serde_json_on_literals value_of regions_of modules_of start_of resumes_of limit_of interrupted_of whole_numbers snapshot_of
returns-clause-asked_script c = record {
  path = codes "tables.json";
  named = refl;
  content = content;
  reads = refl;
  walked = refl;
  profile = value;
  holds = popped_sample_is_read;
  whole = refl;
}

pub returns-clause-stacks : goal.returns-clause-stacks
unfolding is_utf8 chars encode_utf8 serde_json_on_literals value_of origins_of digits hexadecimal scan entry_at described_function name_in frame_text stack_text
returns-clause-stacks c =
    ap (λ (w : StackWalk). stack_text walked.origins (process_name_of (Named name_value ∷ []) sample_value.thread) (frames_of walked.space w) ∷ []) sample_is_walked

pub returns-clause-script : goal.returns-clause-script
unfolding is_utf8 chars encode_utf8 serde_json_on_literals value_of origins_of digits hexadecimal scan entry_at described_function name_in head_line sample_lines
returns-clause-script c = ap (λ (w : StackWalk). sample_lines walked.space walked.origins (name_of (Named name_value ∷ []) sample_value.thread) sample_value w) sample_is_walked

pub returns-clause-has : goal.returns-clause-has
returns-clause-has c = ([], refl)

pub returns-clause-begins : goal.returns-clause-begins
returns-clause-begins c = popped_sample_begins

pub returns-clause-text : goal.returns-clause-text
unfolding is_utf8 chars encode_utf8 serde_json_on_literals value_of origins_of digits hexadecimal scan entry_at described_function name_in frame_text stack_text
returns-clause-text c = λ is. refl

pub returns-clause-front : goal.returns-clause-front
returns-clause-front c = popped_front_begins
