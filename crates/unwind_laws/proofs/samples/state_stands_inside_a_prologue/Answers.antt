use Rattle.unwind_laws.proofs.ReturningValid.{interrupted_stands, interrupted_step}
use Rattle.unwind_laws.proofs.samples.state_stands_inside_a_prologue.Goals as goal

pub returns-clause-stands : goal.returns-clause-stands
returns-clause-stands c = interrupted_stands

pub returns-clause-step : goal.returns-clause-step
returns-clause-step c = interrupted_step
