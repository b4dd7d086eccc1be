use Rattle.format_samples.proofs.LeafStops.{is_process, leaf, stop, nobody_above, computed}
use Rattle.format_samples.proofs.stops.stop_before_the_body_of_a_leaf_is_described.Goals as goal

pub returns-clause-process : goal.returns-clause-process
returns-clause-process c = is_process

pub returns-clause-leaf : goal.returns-clause-leaf
returns-clause-leaf c = leaf

pub returns-clause-stop : goal.returns-clause-stop
returns-clause-stop c = stop

pub returns-clause-chain : goal.returns-clause-chain
returns-clause-chain c = nobody_above

pub returns-clause-step : goal.returns-clause-step
returns-clause-step c = computed
