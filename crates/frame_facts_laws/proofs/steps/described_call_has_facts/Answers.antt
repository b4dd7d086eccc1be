use Rattle.frame_facts_laws.proofs.FromFunctions.{body_said, body_known}
use Rattle.frame_facts_laws.proofs.steps.described_call_has_facts.Goals as goal

pub returns-clause-said : goal.returns-clause-said
returns-clause-said c p functions a s k can = body_said p functions a s k can

pub returns-clause-stands : goal.returns-clause-stands
returns-clause-stands c p functions a s k can = body_known p functions a s k can
