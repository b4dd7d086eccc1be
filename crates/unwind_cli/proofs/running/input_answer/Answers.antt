use Rattle.unwind_cli.proofs.Reading.{unread_input}
use Rattle.unwind_cli.proofs.running.input_answer.Goals as goal

pub returns-in-Err-clause-answer : goal.returns-in-Err-clause-answer
returns-in-Err-clause-answer g c = unread_input c.args.task (g.I.Source.left c.args.input.now) c.in-Err.answer.status c.in-Err.answer.text c.in-Err.ensures.unread
