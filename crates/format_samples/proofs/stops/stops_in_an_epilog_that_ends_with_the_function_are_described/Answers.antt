use Rattle.format_samples.proofs.LastStops.{is_process, pop_stop, return_stop, nobody_above, pop_computed, return_computed}
use Rattle.format_samples.proofs.stops.stops_in_an_epilog_that_ends_with_the_function_are_described.Goals as goal

pub returns-clause-process : goal.returns-clause-process
returns-clause-process c = is_process

pub returns-clause-pop : goal.returns-clause-pop
returns-clause-pop c = pop_stop

pub returns-clause-returns : goal.returns-clause-returns
returns-clause-returns c = return_stop

pub returns-clause-chain : goal.returns-clause-chain
returns-clause-chain c = nobody_above

pub returns-clause-pop_step : goal.returns-clause-pop_step
returns-clause-pop_step c = pop_computed

pub returns-clause-returns_step : goal.returns-clause-returns_step
returns-clause-returns_step c = return_computed
