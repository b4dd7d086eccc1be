use Rattle.stack_steps.proofs.StopSamples.{walks_before_push, walks_in_body}
use Rattle.stack_steps.proofs.stops.walks_from_stops_are_described.Goals as goal

pub returns-clause-before : goal.returns-clause-before
returns-clause-before c = walks_before_push

pub returns-clause-body : goal.returns-clause-body
returns-clause-body c = walks_in_body
