use Rattle.std.proofs.Common.{Some, subst}
use Rattle.frame_rows.specs.FirstRows.{IsFirstRow}
use Rattle.frame_rows.specs.declared.begun.BegunProgram.{BegunProgram}
use Rattle.frame_rows.proofs.FirstRows.{first_there}
use Rattle.frame_rows.proofs.row_table_builder.RowTableBuilder.begins_at.Goals as goal

pub returns-in-Some : goal.returns-in-Some
returns-in-Some c t = subst (λ (b : BegunProgram). IsFirstRow c.args.self.now.table.rows (Some c.args.index) b.state) c.last-begun.ensures
    (first_there c.args.self.now.table.rows c.args.index c.last-begun.result.now.state c.in-Some.row (c.says.ensures t) c.in-Some.ensures.0 c.in-Some.ensures.1 c.in-Some.ensures.2)
