use Rattle.frame_facts_laws.proofs.RowUndone.{said_undone}
use Rattle.frame_facts_laws.proofs.rows.row_that_says_facts_undoes.Goals as goal

pub returns : goal.returns
returns c evaluates image facts run s t columns says stands words shows = said_undone evaluates image facts run s t columns says stands words shows
