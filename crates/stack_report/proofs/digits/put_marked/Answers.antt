use Rattle.std.proofs.Common.{refl}
use Rattle.std.specs.Prelude.{codes}
use Rattle.std.proofs.lemmas.Result.{on_ok_weaker}
use Rattle.stack_report.proofs.Steps.{marked}
use Rattle.stack_report.proofs.digits.put_marked.Goals as goal

pub returns : goal.returns
returns c =
    on_ok_weaker c.put_after-2.result
    (λ e. marked c.args.text.now.items (codes "0x") c.put_after.new.text.items c.put_after-2.new.text.items c.args.digits.now c.args.digits.now c.in_ok-put_after.ensures e refl)
    c.put_after-2.ensures
