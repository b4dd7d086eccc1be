use Rattle.std.proofs.Common.{◌≡◌, true, false, List, [], ◌∷◌, refl, sym, ap, ◌∙◌, lit≤}
use Rattle.std.specs.Char.{encode_utf8}
use Rattle.std.specs.Str.{is_utf8, chars}
use Rattle.std.specs.Fmt.{digits}
use Rattle.hex.specs.Hex.{decode_pairs}
use Rattle.serde_json.proofs.OnLiterals.{serde_json_on_literals}
use Rattle.unwind_arch.specs.declared.x86_64.Context.{Context}
use Rattle.stack_walks.specs.declared.walk_end.EndReason.TheVariants.{Outermost}
use Rattle.popped_registers.specs.PoppedRegisters.{are_some}
use Rattle.popped_registers.specs.PoppedSample as sample
use Rattle.popped_registers.specs.PoppedSample.{at_return, callers}
use Rattle.popped_registers.proofs.SampleStack.{sample_known}
use Rattle.popped_registers.proofs.SampleWalks.{sample_ends, sample_popped, sample_states}
use Rattle.stack_snapshot.specs.Answers.{value_of}
use Rattle.stack_snapshot.specs.Origins.{origins_of}
use Rattle.stack_snapshot.specs.Snapshot.{regions_of, modules_of, start_of, resumes_of, limit_of, interrupted_of, whole_numbers, snapshot_of}
use Rattle.stack_report.specs.Digits.{hexadecimal, word}
use Rattle.backtrace.specs.Code.{code_of}
use Rattle.backtrace.specs.Lines.{backtrace_text, form_with, frame_line, place_text, rest_text, shown_states, states_text}
use Rattle.backtrace.specs.PoppedStacks.{PopsAtStart, kept_of}
use Rattle.backtrace.specs.PoppedTraceSample.{json, places, snapshot, text}
use Rattle.backtrace.proofs.KnownTraces.{ends_outermost}
use Rattle.backtrace.proofs.sample.popped_register_is_traced.Goals as goal

pub returns-clause-asked : goal.returns-clause-asked
unfolding is_utf8 chars encode_utf8 decode_pairs serde_json_on_literals value_of regions_of modules_of start_of resumes_of limit_of interrupted_of whole_numbers snapshot_of origins_of code_of
returns-clause-asked c = record { bytes = json; named = refl; single = refl; by = refl; source_is = refl; short = lit≤ tt; reads = refl; files = refl }

pops : PopsAtStart snapshot
pops = record { stops = refl; some = ap are_some sample_popped }

pub returns-clause-pops : goal.returns-clause-pops
returns-clause-pops c = pops

pub returns-clause-ends : goal.returns-clause-ends
returns-clause-ends c = sample_ends

pub returns-clause-begins : goal.returns-clause-begins
returns-clause-begins c = record { pops = pops; starts = sample_known }

pub returns-clause-traced : goal.returns-clause-traced
returns-clause-traced c = (refl, record { states = sym sample_states; why = sample_ends; marked = sym (ap are_some sample_popped) })

pub returns-clause-written : goal.returns-clause-written
unfolding digits hexadecimal word backtrace_text states_text frame_line place_text rest_text
returns-clause-written c = refl

pub returns-clause-kept : goal.returns-clause-kept
unfolding digits hexadecimal word states_text frame_line place_text rest_text
returns-clause-kept c =
    let written : states_text (form_with false true places false true) (shown_states (sample.start ∷ sample.caller ∷ sample.outside ∷ [])) Outermost ≡ text = refl in
    ap (λ (states : List Context). states_text (form_with false true places false true) (shown_states states) Outermost) sample_states ∙ written

pub returns-clause-known : goal.returns-clause-known
unfolding digits hexadecimal word states_text frame_line place_text rest_text
returns-clause-known c begins =
    let front = ends_outermost (kept_of snapshot) true at_return callers begins.starts.stack refl in
    let written : states_text (form_with false true places false true) (at_return ∷ callers) Outermost ≡ text = refl in
    ap (states_text (form_with false true places false true) (at_return ∷ callers)) front ∙ written
