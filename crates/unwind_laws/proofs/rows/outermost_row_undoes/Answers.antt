use Rattle.unwind_laws.proofs.Undo.{outermost_undone}
use Rattle.unwind_laws.proofs.rows.outermost_row_undoes.Goals as goal

pub returns : goal.returns
returns c evaluates image run s t columns fits entered words shows ends = outermost_undone evaluates image run s t columns fits entered words shows ends
