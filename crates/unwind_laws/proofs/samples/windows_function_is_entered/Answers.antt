use Rattle.unwind_laws.proofs.WindowsEntered.{windows_function, windows_entered}
use Rattle.unwind_laws.proofs.samples.windows_function_is_entered.Goals as goal

pub returns-clause-function : goal.returns-clause-function
returns-clause-function c = windows_function

pub returns-clause-entered : goal.returns-clause-entered
returns-clause-entered c = windows_entered
