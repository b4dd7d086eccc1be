use Rattle.frame_rows.proofs.SameRows.{keeps_rules, row_with}
use Rattle.frame_rows.proofs.row_table_builder.RowTableBuilder.keep.Goals as goal

pub push-requires : goal.push-requires
push-requires c =
    let known = c.args.self.now.machine in
    rw c.rules_of-like.ensures (row_with c.row-row.result c.args.self.now.table.rows known.rules_of known.state.rules c.row-row.ensures.same c.requires.0)

pub returns-in-Ok-clause-rules : goal.returns-in-Ok-clause-rules
returns-in-Ok-clause-rules c =
    rw c.in-Ok.is (keeps_rules c.args.self.now.limits c.args.distance _ c.row-row.result c.in-Ok.field-0 c.push.result c.args.self.now.machine c.args.self.now.table c.push.new.self c.push.ensures.pushes c.row-row.ensures.some)
