use Rattle.backtrace.specs.Tracing.{called_from}
use Rattle.backtrace.proofs.PoppedTraces.{whole_trace}
use Rattle.backtrace.proofs.sample.a_whole_stack_is_unmarked.Goals as goal

pub returns : goal.returns
returns c = λ space code start interrupted limit t states is whole.
    whole_trace space (called_from space code start interrupted) start interrupted limit t states is whole
