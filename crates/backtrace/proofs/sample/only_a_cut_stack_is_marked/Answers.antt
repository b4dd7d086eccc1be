use Rattle.backtrace.specs.Tracing.{called_from}
use Rattle.backtrace.proofs.PoppedTraces.{trace_cut}
use Rattle.backtrace.proofs.sample.only_a_cut_stack_is_marked.Goals as goal

pub returns : goal.returns
returns c = λ space code start interrupted limit t is some.
    trace_cut space (called_from space code start interrupted) start interrupted limit t is some
