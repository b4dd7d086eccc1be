use Rattle.std.proofs.Common.{rules, ◌≡◌, Some, None}
use Rattle.command_ends.specs.declared.status.Status.TheVariants.{Usage}
use Rattle.command_ends.specs.Verdicts.{IsReady, verdict}
use Rattle.unwind_cli.specs.declared.command.Command.TheVariants.{Generate}
use Rattle.unwind_cli.specs.Commands.{command_of}
use Rattle.unwind_cli.specs.Lines.{usage_line}
use Rattle.unwind_cli.proofs.Reading.{generated_answers, usage_answers}
use Rattle.unwind_cli.proofs.running.decide.Goals as goal

pub returns-in-Some-Generate-clause-answer : goal.returns-in-Some-Generate-clause-answer
returns-in-Some-Generate-clause-answer g c =
    let named : command_of c.args.words.now ≡ Some (Generate c.in-Some-Generate.count c.in-Some-Generate.seed) = search rules in
    generated_answers c.args.words.now c.in-Some-Generate.count c.in-Some-Generate.seed (g.I.Source.left c.args.input.now) c.case_answer.result.status c.case_answer.result.text named c.case_answer.ensures.answer

pub returns-in-None-clause-answer : goal.returns-in-None-clause-answer
returns-in-None-clause-answer g c =
    let named : command_of c.args.words.now ≡ None = search rules in
    let ready : IsReady (verdict Usage usage_line) c.text_answer.result.status c.text_answer.result.text = search rules in
    usage_answers c.args.words.now (g.I.Source.left c.args.input.now) c.text_answer.result.status c.text_answer.result.text named ready
