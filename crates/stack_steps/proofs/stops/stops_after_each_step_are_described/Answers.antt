use Rattle.stack_steps.proofs.StopSamples as samples
use Rattle.stack_steps.proofs.stops.stops_after_each_step_are_described.Goals as goal

pub returns-clause-before : goal.returns-clause-before
returns-clause-before c = samples.stopped_before_steps

pub returns-clause-push : goal.returns-clause-push
returns-clause-push c = samples.stopped_after_push

pub returns-clause-set : goal.returns-clause-set
returns-clause-set c = samples.stopped_after_set

pub returns-clause-late_push : goal.returns-clause-late_push
returns-clause-late_push c = samples.stopped_after_late_push

pub returns-clause-allocation : goal.returns-clause-allocation
returns-clause-allocation c = samples.stopped_after_allocation

pub returns-clause-store : goal.returns-clause-store
returns-clause-store c = samples.stopped_after_store

pub returns-clause-body : goal.returns-clause-body
returns-clause-body c = samples.stopped_in_body
