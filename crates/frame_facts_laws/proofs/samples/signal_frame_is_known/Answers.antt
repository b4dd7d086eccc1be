use Rattle.frame_facts_laws.proofs.SignalFacts.{whole, says_in_restore, said_in_restore, stands_in_restore}
use Rattle.frame_facts_laws.proofs.samples.signal_frame_is_known.Goals as goal

pub returns-clause-process : goal.returns-clause-process
returns-clause-process c = whole

pub returns-clause-says : goal.returns-clause-says
returns-clause-says c = says_in_restore

pub returns-clause-said : goal.returns-clause-said
returns-clause-said c = said_in_restore

pub returns-clause-stands : goal.returns-clause-stands
returns-clause-stands c = stands_in_restore
