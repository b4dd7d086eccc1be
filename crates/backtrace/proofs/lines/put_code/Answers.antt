use Rattle.std.proofs.Common.{◌≡◌, ◌∙◌, ap}
use Rattle.std.specs.Prelude.{◌++◌, codes}
use Rattle.std.proofs.lemmas.Result.{on_ok_weaker}
use Rattle.stack_snapshot.specs.Origins.{file_name}
use Rattle.stack_report.specs.Digits.{word}
use Rattle.backtrace.specs.Lines.{code_text, name_text}
use Rattle.backtrace.proofs.Written.{two_pieces}
use Rattle.backtrace.proofs.lines.put_code.Goals as goal

pub returns : goal.returns
unfolding code_text
returns c =
    let a = c.args.address in
    let file = file_name c.args.code.now.path in
    let name : c.name.result.now ≡ file = c.name.ensures in
    on_ok_weaker c.put_name.result
    (λ e. two_pieces c.args.report.now c.put.new.self c.put_name.new.report (codes "code without a table at ") (word a ++ name_text file) c.in_ok-put.ensures
    (two_pieces c.put.new.self c.put_word.new.self c.put_name.new.report (word a) (name_text file) c.in_ok-put_word.ensures (e ∙ ap (λ n. c.put_word.new.self ++ name_text n) name)))
    c.put_name.ensures
