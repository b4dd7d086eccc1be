use Rattle.std.proofs.Common.{refl, lit≤}
use Rattle.std.specs.Char.{encode_utf8}
use Rattle.std.specs.Fmt.{digits}
use Rattle.std.specs.Str.{is_utf8, chars}
use Rattle.hex.specs.Hex.{decode_pairs}
use Rattle.serde_json.proofs.OnLiterals.{serde_json_on_literals}
use Rattle.fact_deliveries.proofs.GuardedStarts.{guarded_starts}
use Rattle.stack_report.specs.Digits.{hexadecimal}
use Rattle.stack_report.specs.Report.{state_fields, state_line, pad_line, handler_line}
use Rattle.stack_snapshot.specs.Answers.{value_of}
use Rattle.stack_snapshot.specs.Snapshot.{regions_of, modules_of, start_of, resumes_of, limit_of, interrupted_of, whole_numbers, snapshot_of}
use Rattle.stack_snapshot.specs.Thrown.{foreign_of, runtime_of, thrown_of}
use Rattle.unwind_cli.specs.Guarded.{json}
use Rattle.unwind_cli.proofs.sample.a_handler_after_a_cleanup_is_known.Goals as goal

pub returns-clause-read : goal.returns-clause-read
unfolding is_utf8 chars encode_utf8 decode_pairs serde_json_on_literals value_of regions_of modules_of start_of resumes_of limit_of interrupted_of whole_numbers snapshot_of foreign_of runtime_of thrown_of
returns-clause-read c = record { bytes = json; named = refl; source_is = refl; short = lit≤ tt; reads = refl }

pub returns-clause-starts : goal.returns-clause-starts
returns-clause-starts c = guarded_starts

pub returns-clause-written : goal.returns-clause-written
unfolding digits hexadecimal state_fields state_line pad_line handler_line
returns-clause-written c = refl
