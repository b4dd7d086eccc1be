use Rattle.std.proofs.Common.{Some, subst}
use Rattle.frame_rows.specs.FirstRows.{IsRowAt}
use Rattle.frame_rows.specs.KeptRows.{KeptRows}
use Rattle.frame_rows.proofs.FirstRows.{says_row}
use Rattle.frame_rows.proofs.row_table.RowTable.says.Goals as goal

pub returns-in-Some : goal.returns-in-Some
returns-in-Some c t = subst (λ (k : KeptRows). IsRowAt k.rows (Some c.args.index) c.args.row) c.self.view_is
    (says_row c.self.inside.bodies c.self.inside.rows.items (Some c.args.index) c.in-Some.kept.now (rw c.deref.ensures.value at c.in-Some.ensures) c.args.row (c.says.ensures t))
