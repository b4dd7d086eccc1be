use Rattle.format_laws.proofs.PeChained.{is_function, module_described, entered, caller_fits, computed}
use Rattle.format_laws.proofs.samples.pe_call_by_chained_records_is_entered.Goals as goal

pub returns-clause-function : goal.returns-clause-function
returns-clause-function c = is_function

pub returns-clause-described : goal.returns-clause-described
returns-clause-described c = module_described

pub returns-clause-entered : goal.returns-clause-entered
returns-clause-entered c = entered

pub returns-clause-caller : goal.returns-clause-caller
returns-clause-caller c = caller_fits

pub returns-clause-step : goal.returns-clause-step
returns-clause-step c = computed
