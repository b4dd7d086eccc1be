use Rattle.std.proofs.Common.{inl, inr, refl}
use Rattle.command_ends.specs.declared.status.Status.TheVariants.{WriteFault}
use Rattle.command_ends.proofs.VerdictLemmas.{told_from}
use Rattle.command_ends.proofs.answering.write_answer.Goals as goal

pub returns-in-Ok-clause-told : goal.returns-in-Ok-clause-told
returns-in-Ok-clause-told g c = λ due ready silent other.
    told_from due c.args.status c.args.text.now c.args.status _ _ ready silent other (inl (refl, c.in-Ok.ensures.all)) (λ apart. absurd (apart refl))

pub returns-in-Err-clause-told : goal.returns-in-Err-clause-told
returns-in-Err-clause-told g c = λ due ready silent other.
    told_from due c.args.status c.args.text.now WriteFault _ _ ready silent other (inr (refl, c.in-Err.ensures.part)) (λ apart. c.in-Err.ensures.some)
