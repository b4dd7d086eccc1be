use Rattle.std.proofs.Common.{inl, inr, ◌≢◌, ℕ, List, [], true, false, refl, subst, lit≤}
use Rattle.std.specs.Char.{encode_utf8}
use Rattle.std.specs.Str.{is_utf8, chars}
use Rattle.std.specs.Fmt.{digits}
use Rattle.hex.specs.Hex.{decode_pairs}
use Rattle.serde_json.proofs.OnLiterals.{serde_json_on_literals}
use Rattle.memory_image.specs.Image.{word_at}
use Rattle.stack_steps.specs.Stepping.{step_of, frame_of}
use Rattle.stack_steps.proofs.StepAnswers.{ends_step}
use Rattle.stack_snapshot.specs.Answers.{value_of}
use Rattle.stack_snapshot.specs.Content.{space_of}
use Rattle.stack_snapshot.specs.Origins.{origins_of}
use Rattle.backtrace.specs.Code.{code_of, without_code}
use Rattle.stack_snapshot.specs.Snapshot.{regions_of, modules_of, start_of, resumes_of, limit_of, interrupted_of, whole_numbers, snapshot_of}
use Rattle.stack_report.specs.Digits.{hexadecimal, word}
use Rattle.backtrace.specs.Lines.{backtrace_text, states_text, frame_line, no_module_text, place_text, rest_text}
use Rattle.backtrace.specs.Options.{plain}
use Rattle.backtrace.specs.Due.{IsBacktraceOf}
use Rattle.backtrace.specs.Sample.{context, json, snapshot, trace}
use Rattle.backtrace.proofs.StackTexts.{tables_text}
use Rattle.backtrace.proofs.sample.null_call_is_traced.Goals as goal

pub returns-clause-asked : goal.returns-clause-asked
unfolding is_utf8 chars encode_utf8 decode_pairs serde_json_on_literals value_of regions_of modules_of start_of resumes_of limit_of interrupted_of whole_numbers snapshot_of origins_of code_of
returns-clause-asked c = record { bytes = json; named = refl; single = refl; by = refl; source_is = refl; short = lit≤ tt; reads = refl; files = refl }

returns_somewhere : ◌≢◌ {A = ℕ} 0x1005 0
returns_somewhere h = cc

pub returns-clause-traced : goal.returns-clause-traced
unfolding word_at step_of frame_of
returns-clause-traced c = (
  refl,
  record {
    states = refl;
    why = inl (returns_somewhere, ends_step (space_of snapshot) (context 0x1005 0x7008) false (inr (returns_somewhere, tt)), refl);
    marked = refl;
  },
)

pub returns-clause-written : goal.returns-clause-written
unfolding digits hexadecimal word backtrace_text states_text frame_line no_module_text place_text rest_text
returns-clause-written c = refl

pub returns-clause-backtrace : goal.returns-clause-backtrace
unfolding is_utf8 chars encode_utf8 decode_pairs serde_json_on_literals value_of regions_of modules_of start_of resumes_of limit_of interrupted_of whole_numbers snapshot_of origins_of code_of
returns-clause-backtrace c =
    let lines = tables_text plain (space_of snapshot) 2 (without_code []) (context 0 0x7000) true refl trace (returns-clause-traced c) in
    subst (λ (written : List ℕ). IsBacktraceOf plain snapshot (without_code []) written) (returns-clause-written c) lines
