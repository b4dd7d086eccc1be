use Rattle.delivery_laws.proofs.AnyPassesAre.{searches_are, passes_are, deliveries_are}
use Rattle.delivery_laws.proofs.personality.deliveries_are_passes.Goals as goal

pub returns-clause-search : goal.returns-clause-search
returns-clause-search x space row thrown limit start due whole = searches_are space row thrown limit start due whole

pub returns-clause-cleanup : goal.returns-clause-cleanup
returns-clause-cleanup x space row thrown limit kept start due whole = passes_are space row thrown kept limit start due whole

pub returns-clause-delivery : goal.returns-clause-delivery
returns-clause-delivery x space row thrown limit resumes start due whole = deliveries_are space row thrown resumes limit start whole due
