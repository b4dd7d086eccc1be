use Rattle.backtrace.specs.Tracing.{called_from}
use Rattle.backtrace.proofs.PoppedTraces.{plain_trace, trace_plain}
use Rattle.backtrace.proofs.sample.an_unmarked_trace_is_plain.Goals as goal

pub returns-clause-plain : goal.returns-clause-plain
returns-clause-plain c = λ space code start interrupted limit t is none.
    trace_plain space (called_from space code start interrupted) start interrupted limit t is none

pub returns-clause-trace : goal.returns-clause-trace
returns-clause-trace c = λ space code start interrupted limit t none is.
    plain_trace space (called_from space code start interrupted) start interrupted limit t none is
