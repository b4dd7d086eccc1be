use Rattle.std.proofs.Common.{inr, inl, ◌≡◌, ◌≢◌, ℕ, ◌++◌, true, false, List, [], ◌∷◌, refl, ap, ◌∙◌, lit≤}
use Rattle.std.specs.Prelude.{map}
use Rattle.std.specs.Char.{encode_utf8}
use Rattle.std.specs.Str.{is_utf8, chars}
use Rattle.std.specs.Fmt.{digits}
use Rattle.hex.specs.Hex.{decode_pairs}
use Rattle.serde_json.proofs.OnLiterals.{serde_json_on_literals}
use Rattle.memory_image.specs.Image.{IsLaidOut, word_at}
use Rattle.unwind_definitions.specs.State.{State}
use Rattle.unwind_definitions.specs.Chain.{states_of}
use Rattle.unwind_laws.specs.Three as three
use Rattle.stack_steps.specs.Modules.{AreApart}
use Rattle.stack_steps.specs.Stepping.{step_of, frame_of}
use Rattle.stack_steps.proofs.StepAnswers.{ends_step}
use Rattle.stack_walks.specs.declared.walk_end.EndReason.TheVariants.{Outermost}
use Rattle.stack_walks.specs.WalkEnds.{ComesTo, start_state}
use Rattle.stack_walks.proofs.ChainEnds.{chain_comes}
use Rattle.stack_walks.proofs.ChainWalked.{chain_walked}
use Rattle.stack_walks.proofs.EndAnswers.{line_whole}
use Rattle.stack_deliver.specs.StateViews.{state_of}
use Rattle.stack_deliver.proofs.Chains.{shown_states}
use Rattle.popped_registers.specs.PoppedRegisters.{popped_in}
use Rattle.stack_snapshot.specs.Answers.{value_of}
use Rattle.stack_snapshot.specs.Content.{space_of}
use Rattle.stack_snapshot.specs.Origins.{origins_of}
use Rattle.stack_snapshot.specs.Snapshot.{regions_of, modules_of, start_of, resumes_of, limit_of, interrupted_of, whole_numbers, snapshot_of}
use Rattle.stack_snapshot.proofs.Taken.{content_apart, content_laid_out}
use Rattle.stack_report.specs.Digits.{hexadecimal, word}
use Rattle.backtrace.specs.Code.{code_of}
use Rattle.backtrace.specs.Lines.{end_line, form_with, frame_line, frame_lines, place_text, pointed_form, rest_text, traces_text}
use Rattle.backtrace.specs.PointedSample.{caller, json, places, snapshot, start, text, walk}
use Rattle.backtrace.proofs.PointedChain.{later, starts}
use Rattle.backtrace.proofs.sample.frame_pointer_is_followed.Goals as goal

pub returns-clause-asked : goal.returns-clause-asked
unfolding is_utf8 chars encode_utf8 decode_pairs serde_json_on_literals value_of regions_of modules_of start_of resumes_of limit_of interrupted_of whole_numbers snapshot_of origins_of code_of
returns-clause-asked c = record { bytes = json; named = refl; single = refl; by = refl; source_is = refl; short = lit≤ tt; reads = refl; files = refl }

stands_somewhere : ◌≢◌ {A = ℕ} 0x5010 0
stands_somewhere h = cc

pub returns-clause-traced : goal.returns-clause-traced
unfolding word_at step_of frame_of popped_in
returns-clause-traced c = (
  refl,
  record {
    states = refl;
    why = inl (stands_somewhere, ends_step (space_of snapshot) start true (inr (stands_somewhere, tt)), refl);
    marked = refl;
  },
)

pub returns-clause-goes_on : goal.returns-clause-goes_on
unfolding word_at
returns-clause-goes_on c =
    let asked = returns-clause-asked c in
    let apart : AreApart 0 (space_of snapshot).modules = content_apart asked.bytes snapshot asked.reads in
    let laid : IsLaidOut 0 (space_of snapshot).image = content_laid_out asked.bytes snapshot asked.reads in
    let why : ComesTo Outermost (space_of snapshot) 7 caller false = chain_comes (space_of snapshot) apart laid caller 7 three.functions three.second later starts in
    (caller, refl, (refl, record { states = refl; why = why; marked = refl }), refl)

pub returns-clause-written : goal.returns-clause-written
unfolding digits hexadecimal word traces_text frame_line place_text rest_text
returns-clause-written c =
    let asked = returns-clause-asked c in
    let apart : AreApart 0 (space_of snapshot).modules = content_apart asked.bytes snapshot asked.reads in
    let laid : IsLaidOut 0 (space_of snapshot).image = content_laid_out asked.bytes snapshot asked.reads in
    let w = chain_walked (space_of snapshot) caller 7 three.functions three.second later apart laid starts in
    let all : walk.states ≡ w.0 = line_whole (space_of snapshot) 7 (start_state caller false) w.0 w.1 in
    let shown : map state_of walk.states ≡ states_of three.second later = rw all (shown_states w.0 (states_of three.second later) w.2.states) in
    let first = frame_lines (form_with false true places false false) 0 (state_of start ∷ []) in
    let rest : List State → List ℕ = λ states. first ++ (frame_lines (pointed_form (form_with false true places false false) 1) 1 states ++ end_line places Outermost) in
    let written : rest (states_of three.second later) ≡ text = refl in
    ap rest shown ∙ written
