use Rattle.fact_deliveries.proofs.LandingStarts.{throw_starts}
use Rattle.fact_deliveries.proofs.landings.a_throw_of_cxx_is_known.Goals as goal

pub returns-clause-starts : goal.returns-clause-starts
returns-clause-starts c = throw_starts
