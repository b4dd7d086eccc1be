use Rattle.std.proofs.Common.{◌≡◌, map, sym, subst, List, Result}
use Rattle.unwind_definitions.specs.declared.error.Error.{Error as Fault}
use Rattle.frame_rows.specs.RowValue.{RowValue}
use Rattle.frame_rows.specs.Rules.{entry_of}
use Rattle.frame_rows.specs.Bodies.{Says, body_rules, kept_answer}
use Rattle.frame_rows.specs.SameRules.{HasRulesOf, IsBodyWith}
use Rattle.frame_rows.specs.declared.row_bodies.RowBody.{RowBody}
use Rattle.frame_rows.proofs.SameRows.{rules_like, says_at}
use Rattle.frame_rows.proofs.row_bodies.RowBodies.says.Goals as goal

pub returns-then-has_rules_of : goal.returns-then-has_rules_of
returns-then-has_rules_of c =
    let with = subst (λ (l : List (Result RowValue Fault)). IsBodyWith l c.args.like (map entry_of c.args.rules.now)) (sym c.self.view_is) c.requires in
    let has = subst (λ (l : List RowBody). HasRulesOf l c.args.like c.in-Some.body.now) c.deref-2.ensures.value (c.has_rules_of.ensures c.if-has_rules_of.true) in
    let own : body_rules c.self.inside.rules.items c.in-Some.body.now ≡ map entry_of c.args.rules.now =
    rules_like c.self.inside.rules.items c.self.inside.bodies.items c.in-Some.body.now c.args.like (map entry_of c.args.rules.now) has with in
    let place = c.in-Some.ensures.lookup.3 in
    let same : kept_answer c.in-Some.body.now.cfa (body_rules c.self.inside.rules.items c.in-Some.body.now) c.in-Some.body.now.saved_args_size ≡ kept_answer c.args.cfa (map entry_of c.args.rules.now) c.args.saved_args_size =
    rw (own, c.if-body-saved_args_size.false) (c.is_same_cfa.ensures c.if-not-is_same_cfa.false (map entry_of c.args.rules.now) c.args.saved_args_size) in
    λ _. subst (λ (l : List (Result RowValue Fault)). Says l c.args.place (kept_answer c.args.cfa (map entry_of c.args.rules.now) c.args.saved_args_size)) c.self.view_is
    (says_at c.self.inside.rules.items c.self.inside.bodies.items c.args.place c.in-Some.body.now (kept_answer c.args.cfa (map entry_of c.args.rules.now) c.args.saved_args_size)
    (rw c.deref.ensures.value at place.0) (rw c.deref.ensures.value at place.1) same)
