use Rattle.core_stacks.specs.Due.{bytes_due}
use Rattle.core_stacks.proofs.PartLines.{told_text}
use Rattle.core_stacks.proofs.running.file_answer.Goals as goal

pub returns-in-Ok-Some-clause-told : goal.returns-in-Ok-Some-clause-told
returns-in-Ok-Some-clause-told g c = λ all tells.
    told_text c.in-Ok-Some.field-0 c.in-Ok-Some.text (bytes_due c.args.names all (all c.args.path.now)) c.in-Ok-Some.field-0-is (c.in-Ok-Some.ensures.told all tells)
