use Rattle.std.proofs.Common.{◌≡◌, true, false, ◌∷◌, refl, ap, ◌∙◌, lit≤}
use Rattle.std.specs.Char.{encode_utf8}
use Rattle.std.specs.Str.{is_utf8, chars}
use Rattle.std.specs.Fmt.{digits}
use Rattle.hex.specs.Hex.{decode_pairs}
use Rattle.serde_json.proofs.OnLiterals.{serde_json_on_literals}
use Rattle.fact_walks.proofs.SampleStarts.{epilogue_starts}
use Rattle.stack_snapshot.specs.Answers.{value_of}
use Rattle.stack_snapshot.specs.Origins.{origins_of}
use Rattle.backtrace.specs.Code.{code_of}
use Rattle.stack_snapshot.specs.Snapshot.{regions_of, modules_of, start_of, resumes_of, limit_of, interrupted_of, whole_numbers, snapshot_of}
use Rattle.stack_report.specs.Digits.{hexadecimal, word}
use Rattle.backtrace.specs.Lines.{form_with, states_text, frame_line, place_text, rest_text}
use Rattle.frame_facts_laws.specs.SampleProgram as layouts
use Rattle.stack_snapshot.specs.Content.{space_of}
use Rattle.stack_walks.specs.declared.walk_end.EndReason.TheVariants.{Outermost}
use Rattle.backtrace.specs.KnownSample.{json, places, snapshot, text}
use Rattle.backtrace.proofs.KnownTraces.{ends_outermost}
use Rattle.backtrace.proofs.sample.stop_in_an_epilogue_is_known.Goals as goal

pub returns-clause-asked : goal.returns-clause-asked
unfolding is_utf8 chars encode_utf8 decode_pairs serde_json_on_literals value_of regions_of modules_of start_of resumes_of limit_of interrupted_of whole_numbers snapshot_of origins_of code_of
returns-clause-asked c = record { bytes = json; named = refl; single = refl; by = refl; source_is = refl; short = lit≤ tt; reads = refl; files = refl }

pub returns-clause-begins : goal.returns-clause-begins
returns-clause-begins c = record { starts = epilogue_starts; somewhere = refl }

pub returns-clause-written : goal.returns-clause-written
unfolding digits hexadecimal word states_text frame_line place_text rest_text
returns-clause-written c begins =
    let front = ends_outermost (space_of snapshot) true layouts.popped layouts.states begins.starts.stack refl in
    let written : states_text (form_with false true places false false) (layouts.popped ∷ layouts.states) Outermost ≡ text = refl in
    ap (states_text (form_with false true places false false) (layouts.popped ∷ layouts.states)) front ∙ written
