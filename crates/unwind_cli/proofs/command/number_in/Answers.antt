use Rattle.std.proofs.Common.{sym, ◌∙◌}
use Rattle.unwind_cli.proofs.Numerals.{parsed}
use Rattle.unwind_cli.proofs.command.number_in.Goals as goal

pub returns-then-is_numeral : goal.returns-then-is_numeral
returns-then-is_numeral c = c.ok.ensures.value ∙ parsed c.args.word.now c.parse.result (sym c.is_numeral.ensures ∙ c.if-is_numeral.true) c.parse.ensures.value.0
