use Rattle.format_laws.proofs.PePushes.{is_function, stands_in_described, caller_fits, computed}
use Rattle.format_laws.proofs.samples.state_stands_in_a_pe_prologue.Goals as goal

pub returns-clause-function : goal.returns-clause-function
returns-clause-function c = is_function

pub returns-clause-stands : goal.returns-clause-stands
returns-clause-stands c = stands_in_described

pub returns-clause-caller : goal.returns-clause-caller
returns-clause-caller c = caller_fits

pub returns-clause-step : goal.returns-clause-step
returns-clause-step c = computed
