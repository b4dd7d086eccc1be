use Rattle.std.proofs.Common.{refl, lit≤, lit<}
use Rattle.std.specs.Char.{encode_utf8}
use Rattle.std.specs.Fmt.{digits}
use Rattle.std.specs.Str.{is_utf8, chars}
use Rattle.hex.specs.Hex.{decode_pairs}
use Rattle.serde_json.proofs.OnLiterals.{serde_json_on_literals}
use Rattle.stack_report.specs.Digits.{hexadecimal}
use Rattle.stack_report.specs.Report.{state_fields, state_line, handler_line}
use Rattle.stack_snapshot.specs.Answers.{value_of}
use Rattle.stack_snapshot.specs.Snapshot.{regions_of, modules_of, start_of, resumes_of, limit_of, interrupted_of, whole_numbers, snapshot_of}
use Rattle.format_samples.specs.Handlers.{in_pe}
use Rattle.format_samples.proofs.HandlersValid.{valid_from_pe}
use Rattle.delivery_laws.proofs.Starts.{registers_show}
use Rattle.unwind_cli.specs.Handled.{pe_json}
use Rattle.unwind_cli.proofs.sample.handler_of_a_pe_function_is_described.Goals as goal

pub returns-clause-read : goal.returns-clause-read
unfolding is_utf8 chars encode_utf8 decode_pairs serde_json_on_literals value_of regions_of modules_of start_of resumes_of limit_of interrupted_of whole_numbers snapshot_of
returns-clause-read c = refl

pub returns-clause-delivered : goal.returns-clause-delivered
returns-clause-delivered c = record { bytes = pe_json; named = refl; source_is = refl; short = lit≤ tt; reads = returns-clause-read c }

pub returns-clause-described : goal.returns-clause-described
returns-clause-described c = record {
  valid = record { parts = valid_from_pe.parts; no_others = valid_from_pe.no_others; shows = registers_show in_pe; chain = valid_from_pe.chain; resumed = valid_from_pe.resumed };
  shorter = lit< tt;
}

pub returns-clause-written : goal.returns-clause-written
unfolding digits hexadecimal state_fields state_line handler_line
returns-clause-written c = refl
