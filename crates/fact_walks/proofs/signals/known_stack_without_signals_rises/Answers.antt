use Rattle.stack_walks.proofs.KnownLines.{calls_rise}
use Rattle.fact_walks.proofs.signals.known_stack_without_signals_rises.Goals as goal

pub returns : goal.returns
returns c space interrupted s callers stack calls = calls_rise space interrupted s callers stack calls
