use Rattle.std.proofs.Common.{refl}
use Rattle.std.specs.Fmt.{digits}
use Rattle.stack_report.specs.Digits.{hexadecimal, word}
use Rattle.backtrace.specs.Lines.{states_text, frame_line, no_module_text, place_text, rest_text}
use Rattle.backtrace.proofs.NullCall.{described}
use Rattle.backtrace.proofs.sample.null_call_is_described.Goals as goal

pub returns-clause-described : goal.returns-clause-described
returns-clause-described c = described

pub returns-clause-written : goal.returns-clause-written
unfolding digits hexadecimal word states_text frame_line no_module_text place_text rest_text
returns-clause-written c = refl
