use Rattle.frame_facts_laws.proofs.Stretches.{said_by_stretches}
use Rattle.frame_facts_laws.proofs.claims.claim_is_said_by_stretches.Goals as goal

pub returns : goal.returns
returns c bases fde claim some = said_by_stretches bases fde claim some
