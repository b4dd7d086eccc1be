use Rattle.frame_facts_laws.proofs.Stretches.{claimed_said}
use Rattle.frame_facts_laws.proofs.claims.claims_say_facts.Goals as goal

pub returns : goal.returns
returns c image m claims claim a says has inside = claimed_said image m claims claim a says has inside
