use Rattle.std.proofs.Common.{sym, ap, ◌∙◌}
use Rattle.stack_deliver.specs.Resumes.{return_of}
use Rattle.stack_deliver.proofs.Returns.{found_first, found_else}
use Rattle.stack_deliver.proofs.resumes.Resumes.find.Goals as goal

pub returns-in-Some : goal.returns-in-Some
returns-in-Some c = rw (← c.self.view_is) (found_first c.self.inside.ascending.items c.self.inside.scattered.entries c.args.pad c.in-Some.ret (sym c.in-Some.is ∙ (c.find_ascending.ensures ∙ ap (λ es. return_of es c.args.pad) c.deref.ensures.value)))

pub returns-in-None : goal.returns-in-None
returns-in-None c = rw (← c.self.view_is) (c.copied.ensures ∙ (c.get.ensures.value ∙ found_else c.self.inside.ascending.items c.self.inside.scattered.entries c.args.pad (sym c.in-None.is ∙ (c.find_ascending.ensures ∙ ap (λ es. return_of es c.args.pad) c.deref.ensures.value))))
