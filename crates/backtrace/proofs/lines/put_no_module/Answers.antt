use Rattle.std.specs.Prelude.{codes}
use Rattle.std.proofs.lemmas.Result.{on_ok_weaker}
use Rattle.stack_report.specs.Digits.{word}
use Rattle.backtrace.specs.Lines.{no_module_text}
use Rattle.backtrace.proofs.Written.{two_pieces}
use Rattle.backtrace.proofs.lines.put_no_module.Goals as goal

pub returns : goal.returns
unfolding no_module_text
returns c =
    on_ok_weaker c.put_word.result (λ e. two_pieces c.args.report.now c.put.new.self c.put_word.new.self (codes "no module holds ") (word c.args.address) c.in_ok-put.ensures e) c.put_word.ensures
