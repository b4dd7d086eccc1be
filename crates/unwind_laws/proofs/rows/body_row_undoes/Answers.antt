use Rattle.unwind_laws.proofs.Undo.{body_undone}
use Rattle.unwind_laws.proofs.rows.body_row_undoes.Goals as goal

pub returns : goal.returns
returns c evaluates image steps run s t columns fits may entered words shows = body_undone evaluates image steps s t columns may entered words shows run fits
