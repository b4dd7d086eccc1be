use Rattle.frame_facts_laws.proofs.SampleFacts.{said_popped, stands_popped}
use Rattle.frame_facts_laws.proofs.samples.popped_registers_are_known.Goals as goal

pub returns-clause-said : goal.returns-clause-said
returns-clause-said c = said_popped

pub returns-clause-stands : goal.returns-clause-stands
returns-clause-stands c = stands_popped
