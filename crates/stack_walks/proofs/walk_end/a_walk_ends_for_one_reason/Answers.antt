use Rattle.stack_walks.specs.WalkEnds.{start_state}
use Rattle.stack_walks.proofs.EndAnswers.{one_front}
use Rattle.stack_walks.proofs.EndThere.{end_there}
use Rattle.stack_walks.proofs.walk_end.a_walk_ends_for_one_reason.Goals as goal

pub returns-clause-some : goal.returns-clause-some
returns-clause-some c = λ space limit start interrupted. end_there space limit start interrupted

pub returns-clause-one : goal.returns-clause-one
returns-clause-one c = λ space limit start interrupted x y p q. one_front space limit (start_state start interrupted) x y p q
