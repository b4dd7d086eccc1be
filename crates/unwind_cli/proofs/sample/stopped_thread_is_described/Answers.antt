use Rattle.std.proofs.Common.{refl, lit≤}
use Rattle.std.specs.Char.{encode_utf8}
use Rattle.std.specs.Fmt.{digits}
use Rattle.std.specs.Str.{is_utf8, chars}
use Rattle.hex.specs.Hex.{decode_pairs}
use Rattle.serde_json.proofs.OnLiterals.{serde_json_on_literals}
use Rattle.memory_image.specs.Words.{u16_at, u32_at, u64_at}
use Rattle.core_file.specs.CoreValue.{core_of, threads_in_notes}
use Rattle.core_file.specs.Notes.{are_whole_notes, first_note, notes_of}
use Rattle.core_file.specs.ThreadStatus.{thread_of}
use Rattle.stack_report.specs.Digits.{hexadecimal}
use Rattle.stack_report.specs.Report.{state_fields, state_line}
use Rattle.stack_snapshot.specs.Answers.{value_of}
use Rattle.stack_snapshot.specs.Cores.{core_content_in, regions_after, taken_core}
use Rattle.stack_snapshot.specs.Snapshot.{modules_of, limit_of, whole_numbers}
use Rattle.stack_steps.proofs.StopSamples.{walks_in_body}
use Rattle.unwind_cli.specs.Stopped.{core_json}
use Rattle.unwind_cli.proofs.sample.stopped_thread_is_described.Goals as goal

pub returns-clause-read : goal.returns-clause-read
unfolding is_utf8 chars encode_utf8 decode_pairs serde_json_on_literals value_of core_content_in taken_core regions_after modules_of limit_of whole_numbers u16_at u32_at u64_at core_of are_whole_notes first_note
returns-clause-read c = record { bytes = core_json; named = refl; source_is = refl; short = lit≤ tt; reads = refl }

pub returns-clause-thread : goal.returns-clause-thread
unfolding u16_at u32_at u64_at core_of are_whole_notes first_note threads_in_notes notes_of thread_of
returns-clause-thread c = refl

pub returns-clause-described : goal.returns-clause-described
unfolding u16_at u32_at u64_at core_of are_whole_notes first_note
returns-clause-described c = walks_in_body

pub returns-clause-written : goal.returns-clause-written
unfolding digits hexadecimal state_fields state_line u16_at u32_at u64_at core_of are_whole_notes first_note threads_in_notes notes_of thread_of
returns-clause-written c = refl
