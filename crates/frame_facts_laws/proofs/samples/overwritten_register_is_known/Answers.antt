use Rattle.frame_facts_laws.proofs.SampleFacts.{said_overwritten, stands_overwritten}
use Rattle.frame_facts_laws.proofs.samples.overwritten_register_is_known.Goals as goal

pub returns-clause-said : goal.returns-clause-said
returns-clause-said c = said_overwritten

pub returns-clause-stands : goal.returns-clause-stands
returns-clause-stands c = stands_overwritten

pub returns-clause-gone : goal.returns-clause-gone
returns-clause-gone c = λ e. absurd cc
