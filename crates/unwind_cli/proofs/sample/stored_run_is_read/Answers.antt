use Rattle.std.proofs.Common.{refl, lit≤}
use Rattle.std.specs.Char.{encode_utf8}
use Rattle.std.specs.Str.{is_utf8, chars}
use Rattle.hex.specs.Hex.{decode_pairs}
use Rattle.serde_json.proofs.OnLiterals.{serde_json_on_literals}
use Rattle.stack_snapshot.specs.Answers.{value_of}
use Rattle.stack_snapshot.specs.Snapshot.{regions_of, modules_of, start_of, resumes_of, limit_of, interrupted_of, whole_numbers, snapshot_of}
use Rattle.unwind_cli.specs.Sample.{json}
use Rattle.unwind_cli.proofs.sample.stored_run_is_read.Goals as goal

pub returns-clause-read : goal.returns-clause-read
unfolding is_utf8 chars encode_utf8 decode_pairs serde_json_on_literals value_of regions_of modules_of start_of resumes_of limit_of interrupted_of whole_numbers snapshot_of
returns-clause-read c = refl

pub returns-clause-delivered : goal.returns-clause-delivered
returns-clause-delivered c = record { bytes = json; named = refl; source_is = refl; short = lit≤ tt; reads = returns-clause-read c }

pub returns-clause-walked : goal.returns-clause-walked
returns-clause-walked c = record { bytes = json; named = refl; source_is = refl; short = lit≤ tt; reads = returns-clause-read c }
