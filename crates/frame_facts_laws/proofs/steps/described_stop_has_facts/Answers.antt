use Rattle.frame_facts_laws.proofs.FromFunctions.{inside_said, inside_known}
use Rattle.frame_facts_laws.proofs.steps.described_stop_has_facts.Goals as goal

pub returns-clause-said : goal.returns-clause-said
returns-clause-said c p functions done later s k can = inside_said p functions done later s k can

pub returns-clause-stands : goal.returns-clause-stands
returns-clause-stands c p functions done later s k can = inside_known p functions done later s k can
