use Rattle.std.proofs.Common.{inr, inl, ◌≢◌, ℕ, true, refl, lit≤}
use Rattle.std.specs.Char.{encode_utf8}
use Rattle.std.specs.Str.{is_utf8, chars}
use Rattle.std.specs.Fmt.{digits}
use Rattle.hex.specs.Hex.{decode_pairs}
use Rattle.serde_json.proofs.OnLiterals.{serde_json_on_literals}
use Rattle.memory_image.specs.Image.{word_at}
use Rattle.stack_steps.specs.Stepping.{step_of, frame_of}
use Rattle.stack_steps.proofs.StepAnswers.{ends_step}
use Rattle.popped_registers.specs.PoppedRegisters.{popped_in}
use Rattle.stack_snapshot.specs.Answers.{value_of}
use Rattle.stack_snapshot.specs.Content.{space_of}
use Rattle.stack_snapshot.specs.Origins.{origins_of}
use Rattle.stack_snapshot.specs.Snapshot.{regions_of, modules_of, start_of, resumes_of, limit_of, interrupted_of, whole_numbers, snapshot_of}
use Rattle.stack_report.specs.Digits.{hexadecimal, word}
use Rattle.backtrace.specs.Code.{code_of}
use Rattle.backtrace.specs.Lines.{backtrace_text, code_text, states_text, frame_line, place_text, rest_text}
use Rattle.backtrace.specs.Sample.{code_json, context, in_code}
use Rattle.backtrace.proofs.sample.stop_in_code_is_traced.Goals as goal

pub returns-clause-asked : goal.returns-clause-asked
unfolding is_utf8 chars encode_utf8 decode_pairs serde_json_on_literals value_of regions_of modules_of start_of resumes_of limit_of interrupted_of whole_numbers snapshot_of origins_of code_of
returns-clause-asked c = record { bytes = code_json; named = refl; single = refl; by = refl; source_is = refl; short = lit≤ tt; reads = refl; files = refl }

stands_somewhere : ◌≢◌ {A = ℕ} 0x5000 0
stands_somewhere h = cc

pub returns-clause-traced : goal.returns-clause-traced
unfolding word_at step_of frame_of popped_in
returns-clause-traced c = (
  refl,
  record {
    states = refl;
    why = inl (stands_somewhere, ends_step (space_of in_code) (context 0x5000 0x7000) true (inr (stands_somewhere, tt)), refl);
    marked = refl;
  },
)

pub returns-clause-plain : goal.returns-clause-plain
unfolding word_at step_of frame_of
returns-clause-plain c = (
  refl,
  record {
    states = refl;
    why = inl (stands_somewhere, ends_step (space_of in_code) (context 0x5000 0x7000) true (inr (stands_somewhere, tt)), refl);
    marked = refl;
  },
)

pub returns-clause-unmarked : goal.returns-clause-unmarked
unfolding step_of frame_of popped_in
returns-clause-unmarked c = refl

pub returns-clause-written : goal.returns-clause-written
unfolding digits hexadecimal word backtrace_text code_text states_text frame_line place_text rest_text
returns-clause-written c = refl
