use Rattle.unwind_definitions.specs.Expressions.{initial_configuration, operation_limit, evaluation}
use Rattle.frame_expressions.specs.Runs.{answer_is}
use Rattle.frame_expressions.proofs.laws.answer_is_that_of_a_run.Goals as goal

pub returns : goal.returns
unfolding evaluation
returns c image expression stack columns answer = answer_is image columns expression (operation_limit expression) (initial_configuration stack) answer
