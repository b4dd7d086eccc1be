use Rattle.std.specs.Prelude.{codes}
use Rattle.std.proofs.lemmas.Result.{on_ok_weaker}
use Rattle.backtrace.specs.Lines.{place_text, undescribed_text}
use Rattle.backtrace.proofs.Written.{two_pieces}
use Rattle.backtrace.proofs.lines.put_undescribed.Goals as goal

pub returns : goal.returns
unfolding undescribed_text
returns c =
    on_ok_weaker c.put_place.result (λ e. two_pieces c.args.report.now c.put.new.self c.put_place.new.report (codes "no description of ") (place_text c.args.origins.now c.args.address c.args.address) c.in_ok-put.ensures e) c.put_place.ensures
