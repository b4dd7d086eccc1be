use Rattle.format_laws.proofs.MachoValid.{undescribed, damaged_step}
use Rattle.format_laws.proofs.samples.damaged_macho_page_describes_nothing.Goals as goal

pub returns-clause-undescribed : goal.returns-clause-undescribed
returns-clause-undescribed c = λ functions d. undescribed functions d

pub returns-clause-step : goal.returns-clause-step
returns-clause-step c = damaged_step
