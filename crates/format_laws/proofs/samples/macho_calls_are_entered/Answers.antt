use Rattle.format_laws.proofs.MachoValid.{frameless_is_function, framed_is_function, described, frameless_entered, return_at, framed_entered, frameless_caller_fits, framed_caller_fits, frameless_step, framed_step}
use Rattle.format_laws.proofs.samples.macho_calls_are_entered.Goals as goal

pub returns-clause-functions : goal.returns-clause-functions
returns-clause-functions c = (frameless_is_function, framed_is_function)

pub returns-clause-described : goal.returns-clause-described
returns-clause-described c = described

pub returns-clause-frameless : goal.returns-clause-frameless
returns-clause-frameless c = frameless_entered _ return_at

pub returns-clause-framed : goal.returns-clause-framed
returns-clause-framed c = framed_entered

pub returns-clause-callers : goal.returns-clause-callers
returns-clause-callers c = (frameless_caller_fits, framed_caller_fits)

pub returns-clause-frameless_step : goal.returns-clause-frameless_step
returns-clause-frameless_step c = frameless_step

pub returns-clause-framed_step : goal.returns-clause-framed_step
returns-clause-framed_step c = framed_step
