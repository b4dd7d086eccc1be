use Rattle.std.proofs.Common.{refl}
use Rattle.std.specs.Fmt.{digits}
use Rattle.stack_report.specs.Digits.{hexadecimal, word}
use Rattle.backtrace.specs.Lines.{states_text, frame_line, no_module_text, place_text, rest_text}
use Rattle.backtrace.proofs.NullCall.{begins}
use Rattle.backtrace.proofs.sample.null_call_is_known.Goals as goal

pub returns-clause-begins : goal.returns-clause-begins
returns-clause-begins c = begins

pub returns-clause-written : goal.returns-clause-written
unfolding digits hexadecimal word states_text frame_line no_module_text place_text rest_text
returns-clause-written c begins = refl
