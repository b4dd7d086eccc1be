use Rattle.unwind_laws.proofs.Undo.{prologue_undone}
use Rattle.unwind_laws.proofs.rows.prologue_row_undoes.Goals as goal

pub returns : goal.returns
returns c evaluates image steps run s t columns fits may entered words shows intact = prologue_undone evaluates image steps s t columns may entered words shows run fits intact
