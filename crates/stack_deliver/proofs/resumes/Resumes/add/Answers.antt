use Rattle.std.proofs.Common.{sym, ap, subst, ◌∙◌}
use Rattle.stack_deliver.specs.Resumes.{LieBelow, return_of}
use Rattle.stack_deliver.proofs.Returns.{none_of, resume_last, resume_scattered}
use Rattle.stack_deliver.proofs.resumes.Resumes.add.Goals as goal

pub returns-in_ok-push-clause-added : goal.returns-in_ok-push-clause-added
returns-in_ok-push-clause-added c =
    let below = subst (LieBelow c.args.pad) c.deref.ensures.value (c.comes_last.ensures c.if-comes_last.true) in
    rw (← c.self.view_is) (resume_last c.self.inside.ascending.items c.self.inside.scattered.entries _ c.args.pad c.args.ret (c.is_empty.ensures.0 c.if-is_empty.true) below c.in_ok-push.ensures.items)

pub returns-in_ok-insert-clause-added : goal.returns-in_ok-insert-clause-added
returns-in_ok-insert-clause-added c =
    let none = ap (λ table. return_of table c.args.pad) c.self.view_is ∙ (sym c.find.ensures ∙ none_of c.find.result c.is_none.result c.is_none.ensures c.if-is_none.true) in
    rw (← c.self.view_is) (resume_scattered c.self.inside.ascending.items c.self.inside.scattered.entries _ c.args.pad c.args.ret none c.in_ok-insert.ensures.entries)
