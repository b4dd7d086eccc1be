use Rattle.stack_steps.specs.Languages.{rust_alone}
use Rattle.delivery_laws.proofs.SameAnswers.{delivery_same, line_same, step_same}
use Rattle.delivery_laws.proofs.preparing.answers_stay_as_modules_are_prepared.Goals as goal

pub returns-clause-steps : goal.returns-clause-steps
returns-clause-steps c space added state interrupted = step_same space added state interrupted

pub returns-clause-lines : goal.returns-clause-lines
returns-clause-lines c space added limit state interrupted = line_same space added limit state interrupted

pub returns-clause-deliveries : goal.returns-clause-deliveries
returns-clause-deliveries c space added state exception resumes limit = delivery_same space added rust_alone state exception resumes limit
