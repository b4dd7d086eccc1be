use Rattle.std.proofs.Common.{true, [], refl, sym, ap, lit≤}
use Rattle.std.specs.Char.{encode_utf8}
use Rattle.std.specs.Str.{is_utf8, chars}
use Rattle.std.specs.Fmt.{digits}
use Rattle.hex.specs.Hex.{decode_pairs}
use Rattle.serde_json.proofs.OnLiterals.{serde_json_on_literals}
use Rattle.popped_registers.specs.PoppedRegisters.{are_some}
use Rattle.popped_registers.specs.PoppedSample as sample
use Rattle.popped_registers.proofs.SampleWalks.{sample_ends, sample_popped, sample_states}
use Rattle.stack_snapshot.specs.Answers.{value_of}
use Rattle.stack_snapshot.specs.Origins.{origins_of}
use Rattle.stack_snapshot.specs.Sampled.{depth_of, sampled_of, sampled_space, samples_of}
use Rattle.stack_snapshot.specs.Snapshot.{regions_of, modules_of, start_of, interrupted_of, whole_numbers}
use Rattle.stack_report.specs.Digits.{hexadecimal, word}
use Rattle.backtrace.specs.Code.{code_of}
use Rattle.backtrace.specs.Lines.{frame_line, place_text, rest_text, thread_line, traces_text}
use Rattle.backtrace.specs.Tracing.{IsTrace}
use Rattle.backtrace.specs.PoppedTraceSample.{samples, samples_json, trace}
use Rattle.backtrace.proofs.sample.popped_sample_is_traced.Goals as goal

pub returns-clause-asked : goal.returns-clause-asked
unfolding is_utf8 chars encode_utf8 decode_pairs serde_json_on_literals value_of regions_of modules_of start_of depth_of interrupted_of whole_numbers samples_of sampled_of origins_of code_of
returns-clause-asked c = record { bytes = samples_json; named = refl; several = refl; source_is = refl; short = lit≤ tt; reads = refl; files = refl }

thread_trace : IsTrace (sampled_space samples) [] sample.start true 3 trace
thread_trace = (refl, record { states = sym sample_states; why = sample_ends; marked = sym (ap are_some sample_popped) })

pub returns-clause-traced : goal.returns-clause-traced
unfolding digits hexadecimal word traces_text frame_line place_text rest_text thread_line
returns-clause-traced c = (_, _, (_, (trace, [], thread_trace, refl, refl), refl), refl, refl)
