use Rattle.std.proofs.Common.{Err, subst, Bool, Ok}
use Rattle.frame_rows.specs.TableRows.{Pushes}
use Rattle.frame_rows.specs.declared.row_table.RowRange.{RowRange}
use Rattle.frame_rows.proofs.Adding.{added_fault, ranged, too_many_fault}
use Rattle.frame_rows.proofs.row_table_builder.RowTableBuilder.add_fault.Goals as goal

pub returns-then-not-branch-clause-rows : goal.returns-then-not-branch-clause-rows
returns-then-not-branch-clause-rows c start end common own bad =
    let limits = c.args.self.now.limits in
    let old = c.args.self.now.table in
    too_many_fault start end common own old limits c.args.e bad
    (subst (λ (b : Bool). Pushes limits 0 (Err c.args.e) 0 old (Ok b) c.push.new.self) c.if-not-branch.true c.in_ok-push.ensures.pushes)

pub returns-clause-rows : goal.returns-clause-rows
returns-clause-rows c start end common own bad =
    let limits = c.args.self.now.limits in
    let old = c.args.self.now.table in
    let range : RowRange = record { first = c.end-first.result; end = c.end.result } in
    ranged start end common own old limits range c.push.new.self c.end-first.ensures c.end.ensures
    (added_fault start end common own old limits c.args.e bad c.push.new.self
    (subst (λ (b : Bool). Pushes limits 0 (Err c.args.e) 0 old (Ok b) c.push.new.self) c.if-not-branch.false c.in_ok-push.ensures.pushes))
