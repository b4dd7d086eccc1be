use Rattle.frame_facts_laws.proofs.SampleChains.{claims_said}
use Rattle.frame_facts_laws.proofs.samples.claims_are_said.Goals as goal

pub returns : goal.returns
returns c = claims_said
