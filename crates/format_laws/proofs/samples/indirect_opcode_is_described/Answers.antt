use Rattle.format_laws.proofs.MachoValid.{indirect_is_function, indirect_described, indirect_entered, indirect_step}
use Rattle.format_laws.proofs.samples.indirect_opcode_is_described.Goals as goal

pub returns-clause-function : goal.returns-clause-function
returns-clause-function c = indirect_is_function

pub returns-clause-described : goal.returns-clause-described
returns-clause-described c = indirect_described

pub returns-clause-entered : goal.returns-clause-entered
returns-clause-entered c = indirect_entered

pub returns-clause-step : goal.returns-clause-step
returns-clause-step c = indirect_step
