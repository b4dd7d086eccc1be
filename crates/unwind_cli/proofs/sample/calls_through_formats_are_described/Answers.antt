use Rattle.std.proofs.Common.{refl, lit≤}
use Rattle.std.specs.Char.{encode_utf8}
use Rattle.std.specs.Fmt.{digits}
use Rattle.std.specs.Str.{is_utf8, chars}
use Rattle.hex.specs.Hex.{decode_pairs}
use Rattle.serde_json.proofs.OnLiterals.{serde_json_on_literals}
use Rattle.stack_report.specs.Digits.{hexadecimal}
use Rattle.stack_report.specs.Report.{state_fields, state_line, pad_line, handler_line}
use Rattle.stack_snapshot.specs.Answers.{value_of}
use Rattle.stack_snapshot.specs.Snapshot.{regions_of, modules_of, start_of, resumes_of, limit_of, interrupted_of, whole_numbers, snapshot_of}
use Rattle.delivery_laws.proofs.Starts.{chain_starts, valid_starts}
use Rattle.unwind_cli.specs.Formats.{json}
use Rattle.unwind_cli.proofs.sample.calls_through_formats_are_described.Goals as goal

pub returns-clause-read : goal.returns-clause-read
unfolding is_utf8 chars encode_utf8 decode_pairs serde_json_on_literals value_of regions_of modules_of start_of resumes_of limit_of interrupted_of whole_numbers snapshot_of
returns-clause-read c = refl

pub returns-clause-delivered : goal.returns-clause-delivered
returns-clause-delivered c = record { bytes = json; named = refl; source_is = refl; short = lit≤ tt; reads = returns-clause-read c }

pub returns-clause-walked : goal.returns-clause-walked
returns-clause-walked c = record { bytes = json; named = refl; source_is = refl; short = lit≤ tt; reads = returns-clause-read c }

pub returns-clause-described : goal.returns-clause-described
returns-clause-described c = valid_starts

pub returns-clause-walk_described : goal.returns-clause-walk_described
returns-clause-walk_described c = (refl, chain_starts)

pub returns-clause-delivery_text : goal.returns-clause-delivery_text
unfolding digits hexadecimal state_fields state_line pad_line handler_line
returns-clause-delivery_text c = refl

pub returns-clause-walk_text : goal.returns-clause-walk_text
unfolding digits hexadecimal state_fields state_line
returns-clause-walk_text c = refl
