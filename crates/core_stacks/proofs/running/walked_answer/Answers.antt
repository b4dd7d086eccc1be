use Rattle.core_stacks.proofs.Ready.{lines_answered}
use Rattle.core_stacks.proofs.running.walked_answer.Goals as goal

pub returns-clause-told : goal.returns-clause-told
returns-clause-told g c = λ all tells.
    lines_answered c.args.names all c.args.bytes.now c.args.core.now c.lines_of.result c.report_answer.result.status c.report_answer.result.text c.requires (c.lines_of.ensures.told all tells) c.report_answer.ensures
