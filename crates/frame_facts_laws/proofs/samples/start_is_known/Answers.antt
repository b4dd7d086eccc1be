use Rattle.frame_facts_laws.proofs.SampleFacts.{said_in_start, stands_in_start}
use Rattle.frame_facts_laws.proofs.samples.start_is_known.Goals as goal

pub returns-clause-said : goal.returns-clause-said
returns-clause-said c = said_in_start

pub returns-clause-stands : goal.returns-clause-stands
returns-clause-stands c = stands_in_start
