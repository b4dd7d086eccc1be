use Rattle.format_laws.proofs.PeRoom.{describes_nothing, loops}
use Rattle.format_laws.proofs.samples.endless_pe_record_describes_nothing.Goals as goal

pub returns-clause-undescribed : goal.returns-clause-undescribed
returns-clause-undescribed c = describes_nothing

pub returns-clause-step : goal.returns-clause-step
returns-clause-step c = loops
