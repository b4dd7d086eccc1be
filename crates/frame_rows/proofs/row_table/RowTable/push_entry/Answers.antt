use Rattle.std.proofs.Common.{map, length, sym, subst, arith}
use Rattle.frame_rows.specs.Rules.{entry_of}
use Rattle.frame_rows.specs.Bodies.{kept_answer}
use Rattle.frame_rows.specs.KeptRows.{KeptRows}
use Rattle.frame_rows.specs.SameRules.{IsRowWith}
use Rattle.frame_rows.proofs.Growing.{one_longer, pushed, still_there, table_still, table_with}
use Rattle.frame_rows.proofs.SameRows.{body_with, row_within}
use Rattle.frame_rows.proofs.row_table.RowTable.push_entry.Goals as goal

pub body_of-place-requires : goal.body_of-place-requires
body_of-place-requires c =
    let rows = subst (λ (t : KeptRows). IsRowWith t.rows c.args.like (map entry_of c.args.rules.now)) (sym c.self.view_is) c.requires.like in
    rw c.deref.ensures.value (row_within c.self.inside.bodies c.self.inside.rows.items (map entry_of c.args.rules.now) c.args.like rows)

pub keep-requires-clause-like : goal.keep-requires-clause-like
keep-requires-clause-like c =
    let rows = subst (λ (t : KeptRows). IsRowWith t.rows c.args.like (map entry_of c.args.rules.now)) (sym c.self.view_is) c.requires.like in
    let place = rw c.deref.ensures.value at c.body_of-place.ensures in
    body_with c.self.inside.bodies c.self.inside.rows.items (map entry_of c.args.rules.now) c.args.like c.body_of-place.result c.self.invariant.bodied rows place

pub returns-in_err-body-clause-grows : goal.returns-in_err-body-clause-grows
returns-in_err-body-clause-grows c =
    rw (sym c.self.view_is) (still_there c.self.inside.bodies c.keep.new.self c.in_err-body.ensures.grows c.self.inside.rows.items c.self.invariant.bodied)

pub invariant_of-self-in_err-push : goal.invariant_of-self-in_err-push
invariant_of-self-in_err-push c =
    let rows = c.in_err-push.ensures.items in
    rw rows (table_still c.self.inside.bodies c.keep.new.self c.in_ok-body.ensures.grows c.self.inside.rows.items c.self.inside.row_count c.self.invariant)

pub returns-in_err-push-clause-grows : goal.returns-in_err-push-clause-grows
returns-in_err-push-clause-grows c =
    let rows = c.in_err-push.ensures.items in
    rw (rows, sym c.self.view_is) (still_there c.self.inside.bodies c.keep.new.self c.in_ok-body.ensures.grows c.self.inside.rows.items c.self.invariant.bodied)

pub invariant_of-self-2 : goal.invariant_of-self-2
invariant_of-self-2 c =
    let rows = c.in_ok-push.ensures.items in
    rw rows (table_with c.self.inside.bodies c.keep.new.self c.in_ok-body.ensures.grows c.args.distance c.in_ok-body.body (kept_answer c.args.cfa (map entry_of c.args.rules.now) c.args.saved_args_size) c.in_ok-body.ensures.says c.self.inside.rows.items c.self.inside.row_count c.self.invariant (omega arith))

pub returns-clause-pushes : goal.returns-clause-pushes
returns-clause-pushes c =
    let rows = c.in_ok-push.ensures.items in
    rw (rows, sym c.self.view_is)
    (pushed c.self.inside.bodies c.keep.new.self c.in_ok-body.ensures.grows c.args.distance c.in_ok-body.body
    (kept_answer c.args.cfa (map entry_of c.args.rules.now) c.args.saved_args_size) c.in_ok-body.ensures.says
    c.args.limits c.self.inside.row_count c.self.inside.rule_count (length c.args.rules.now) c.self.inside.rows.items c.self.invariant.bodied (omega arith) (omega arith))

pub returns-clause-grows : goal.returns-clause-grows
returns-clause-grows c =
    let rows = c.in_ok-push.ensures.items in
    rw (rows, sym c.self.view_is)
    (one_longer c.self.inside.bodies c.keep.new.self c.in_ok-body.ensures.grows c.args.distance c.in_ok-body.body
    (kept_answer c.args.cfa (map entry_of c.args.rules.now) c.args.saved_args_size) c.in_ok-body.ensures.says c.self.inside.rows.items c.self.invariant.bodied)
