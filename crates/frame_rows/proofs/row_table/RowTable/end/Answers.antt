use Rattle.std.proofs.Common.{arith}
use Rattle.frame_rows.proofs.row_table.RowTable.end.Goals as goal

pub overflow_cast-result : goal.overflow_cast-result
overflow_cast-result c = let counted = c.self.invariant.counted in let fits = c.self.invariant.fits in omega arith
