use Rattle.frame_facts_laws.proofs.SampleFacts.{said_in_pushes, stands_in_pushes}
use Rattle.frame_facts_laws.proofs.samples.pushed_arguments_are_known.Goals as goal

pub returns-clause-said : goal.returns-clause-said
returns-clause-said c = said_in_pushes

pub returns-clause-stands : goal.returns-clause-stands
returns-clause-stands c = stands_in_pushes
