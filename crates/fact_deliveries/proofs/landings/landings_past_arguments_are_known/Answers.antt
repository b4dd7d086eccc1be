use Rattle.fact_deliveries.proofs.LandingStarts.{landings_start}
use Rattle.fact_deliveries.proofs.landings.landings_past_arguments_are_known.Goals as goal

pub returns-clause-starts : goal.returns-clause-starts
returns-clause-starts c = landings_start
