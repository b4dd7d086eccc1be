use Rattle.std.proofs.Common.{refl}
use Rattle.backtrace.proofs.PointedChain.{entered, fits, shows}
use Rattle.backtrace.proofs.sample.frame_pointer_leads_to_a_caller.Goals as goal

pub returns-clause-entered : goal.returns-clause-entered
returns-clause-entered c = entered

pub returns-clause-state : goal.returns-clause-state
returns-clause-state c = fits

pub returns-clause-words : goal.returns-clause-words
returns-clause-words c = refl

pub returns-clause-called : goal.returns-clause-called
returns-clause-called c = refl

pub returns-clause-shows : goal.returns-clause-shows
returns-clause-shows c = shows
