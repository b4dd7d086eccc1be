use Rattle.format_samples.proofs.ChainedStops.{is_process, nobody_above, allocated_stands, allocated_stop, allocated_computed, set_stands, set_stop, set_computed}
use Rattle.format_samples.proofs.stops.stops_after_chained_steps_are_described.Goals as goal

pub returns-clause-process : goal.returns-clause-process
returns-clause-process c = is_process

pub returns-clause-allocated : goal.returns-clause-allocated
returns-clause-allocated c = (allocated_stands, allocated_stop)

pub returns-clause-set : goal.returns-clause-set
returns-clause-set c = (set_stands, set_stop)

pub returns-clause-chain : goal.returns-clause-chain
returns-clause-chain c = nobody_above

pub returns-clause-allocated_step : goal.returns-clause-allocated_step
returns-clause-allocated_step c = allocated_computed

pub returns-clause-set_step : goal.returns-clause-set_step
returns-clause-set_step c = set_computed
