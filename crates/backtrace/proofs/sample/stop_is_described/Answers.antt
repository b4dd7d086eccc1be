use Rattle.std.proofs.Common.{refl, lit≤}
use Rattle.stack_steps.proofs.StopSamples.{walks_in_body}
use Rattle.std.specs.Char.{encode_utf8}
use Rattle.std.specs.Str.{is_utf8, chars}
use Rattle.std.specs.Fmt.{digits}
use Rattle.hex.specs.Hex.{decode_pairs}
use Rattle.serde_json.proofs.OnLiterals.{serde_json_on_literals}
use Rattle.stack_snapshot.specs.Answers.{value_of}
use Rattle.stack_snapshot.specs.Origins.{origins_of}
use Rattle.backtrace.specs.Code.{code_of}
use Rattle.stack_snapshot.specs.Snapshot.{regions_of, modules_of, start_of, resumes_of, limit_of, interrupted_of, whole_numbers, snapshot_of}
use Rattle.stack_report.specs.Digits.{hexadecimal, word}
use Rattle.backtrace.specs.Lines.{states_text, frame_line, place_text, rest_text}
use Rattle.backtrace.specs.ChainSample.{stopped_json}
use Rattle.backtrace.proofs.sample.stop_is_described.Goals as goal

pub returns-clause-asked : goal.returns-clause-asked
unfolding is_utf8 chars encode_utf8 decode_pairs serde_json_on_literals value_of regions_of modules_of start_of resumes_of limit_of interrupted_of whole_numbers snapshot_of origins_of code_of
returns-clause-asked c = record { bytes = stopped_json; named = refl; single = refl; by = refl; source_is = refl; short = lit≤ tt; reads = refl; files = refl }

pub returns-clause-described : goal.returns-clause-described
returns-clause-described c = (refl, walks_in_body)

pub returns-clause-written : goal.returns-clause-written
unfolding digits hexadecimal word states_text frame_line place_text rest_text
returns-clause-written c = refl
