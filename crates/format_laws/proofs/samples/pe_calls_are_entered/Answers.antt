use Rattle.format_laws.proofs.PeRoom.{is_function, leaf_is_function, module_described, entered, leaf_entered, caller_fits, computed, computed_leaf}
use Rattle.format_laws.proofs.samples.pe_calls_are_entered.Goals as goal

pub returns-clause-functions : goal.returns-clause-functions
returns-clause-functions c = (is_function, leaf_is_function)

pub returns-clause-described : goal.returns-clause-described
returns-clause-described c = module_described

pub returns-clause-entered : goal.returns-clause-entered
returns-clause-entered c = entered

pub returns-clause-leaf : goal.returns-clause-leaf
returns-clause-leaf c = leaf_entered

pub returns-clause-caller : goal.returns-clause-caller
returns-clause-caller c = caller_fits

pub returns-clause-step : goal.returns-clause-step
returns-clause-step c = computed

pub returns-clause-leaf_step : goal.returns-clause-leaf_step
returns-clause-leaf_step c = computed_leaf
