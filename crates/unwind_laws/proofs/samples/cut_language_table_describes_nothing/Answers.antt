use Rattle.unwind_laws.proofs.CutLanguage.{undescribed, unread}
use Rattle.unwind_laws.proofs.samples.cut_language_table_describes_nothing.Goals as goal

pub returns-clause-undescribed : goal.returns-clause-undescribed
returns-clause-undescribed c sites is = undescribed sites is

pub returns-clause-unread : goal.returns-clause-unread
returns-clause-unread c bases = unread bases
