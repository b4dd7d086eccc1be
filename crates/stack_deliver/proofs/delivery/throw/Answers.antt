use Rattle.stack_deliver.proofs.delivery.throw.Goals as goal

pub returns-in_err-ending-clause-known : goal.returns-in_err-ending-clause-known
returns-in_err-ending-clause-known c s callers frames starts = absurd (c.in_err-ending.ensures.known s callers frames starts)
