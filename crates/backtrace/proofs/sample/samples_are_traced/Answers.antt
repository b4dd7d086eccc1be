use Rattle.std.proofs.Common.{inl, inr, ◌≢◌, ℕ, [], true, false, refl, lit≤}
use Rattle.std.specs.Char.{encode_utf8}
use Rattle.std.specs.Str.{is_utf8, chars}
use Rattle.std.specs.Fmt.{digits}
use Rattle.hex.specs.Hex.{decode_pairs}
use Rattle.serde_json.proofs.OnLiterals.{serde_json_on_literals}
use Rattle.memory_image.specs.Image.{word_at}
use Rattle.stack_steps.specs.Stepping.{step_of, frame_of}
use Rattle.stack_steps.proofs.StepAnswers.{ends_step}
use Rattle.stack_snapshot.specs.Answers.{value_of}
use Rattle.stack_snapshot.specs.Origins.{origins_of}
use Rattle.backtrace.specs.Code.{code_of}
use Rattle.stack_snapshot.specs.Sampled.{depth_of, sampled_of, sampled_space, samples_of}
use Rattle.stack_snapshot.specs.Snapshot.{regions_of, modules_of, start_of, interrupted_of, whole_numbers}
use Rattle.stack_report.specs.Digits.{hexadecimal, word}
use Rattle.backtrace.specs.Lines.{frame_line, no_module_text, place_text, rest_text, thread_line, traces_text}
use Rattle.backtrace.specs.Tracing.{IsTrace}
use Rattle.backtrace.specs.Sample.{context, other_trace, samples, samples_json, trace}
use Rattle.backtrace.proofs.sample.samples_are_traced.Goals as goal

pub returns-clause-asked : goal.returns-clause-asked
unfolding is_utf8 chars encode_utf8 decode_pairs serde_json_on_literals value_of regions_of modules_of start_of depth_of interrupted_of whole_numbers samples_of sampled_of origins_of code_of
returns-clause-asked c = record { bytes = samples_json; named = refl; several = refl; source_is = refl; short = lit≤ tt; reads = refl; files = refl }

returns_somewhere : ◌≢◌ {A = ℕ} 0x1005 0
returns_somewhere h = cc

first_trace : IsTrace (sampled_space samples) [] (context 0 0x7000) true 2 trace
unfolding word_at step_of frame_of
first_trace = (
  refl,
  record {
    states = refl;
    why = inl (returns_somewhere, ends_step (sampled_space samples) (context 0x1005 0x7008) false (inr (returns_somewhere, tt)), refl);
    marked = refl;
  },
)

second_trace : IsTrace (sampled_space samples) [] (context 0x1005 0x7000) false 2 other_trace
unfolding word_at step_of frame_of
second_trace = (
  refl,
  record {
    states = refl;
    why = inl (returns_somewhere, ends_step (sampled_space samples) (context 0x1005 0x7000) false (inr (returns_somewhere, tt)), refl);
    marked = refl;
  },
)

pub returns-clause-traced : goal.returns-clause-traced
unfolding digits hexadecimal word traces_text frame_line no_module_text place_text rest_text thread_line
returns-clause-traced c = (_, _, (_, (trace, [], first_trace, refl, refl), refl), (_, _, (_, (other_trace, [], second_trace, refl, refl), refl), refl, refl), refl)
