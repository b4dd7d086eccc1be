use Rattle.perf_data.proofs.StreamLemmas.{on_again}
use Rattle.perf_data.proofs.opening.read_front.Goals as goal

pub returns-in-Some-clause-on : goal.returns-in-Some-clause-on
returns-in-Some-clause-on g c = on_again _ _ _ _ _ _ c.read_up_to.ensures.on c.read_up_to-in-Some.ensures.on

pub returns-in-None-clause-on : goal.returns-in-None-clause-on
returns-in-None-clause-on g c = on_again _ _ _ _ _ _ c.read_up_to.ensures.on c.read_rest.ensures.on
