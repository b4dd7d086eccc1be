use Rattle.frame_facts_laws.proofs.SampleFacts.{said_in_aligned, stands_in_aligned}
use Rattle.frame_facts_laws.proofs.samples.aligned_frame_is_known.Goals as goal

pub returns-clause-said : goal.returns-clause-said
returns-clause-said c = said_in_aligned

pub returns-clause-stands : goal.returns-clause-stands
returns-clause-stands c = stands_in_aligned
