use Rattle.std.proofs.Common.{map}
use Rattle.std.proofs.lemmas.Result.{on_ok_weaker}
use Rattle.frame_rows.specs.Rules.{entry_of}
use Rattle.frame_rows.proofs.row_bodies.RowBodies.add.Goals as goal

pub add_like-requires : goal.add_like-requires
add_like-requires c = (rw c.in-Some.is at c.requires.like).0

pub returns-in-Some-clause-added : goal.returns-in-Some-clause-added
returns-in-Some-clause-added c =
    on_ok_weaker c.add_like.result (λ added. added (map entry_of c.args.rules.now) (rw c.in-Some.is at c.requires.like)) c.add_like.ensures.added
