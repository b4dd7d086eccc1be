use Rattle.std.proofs.Common.{sym, refl}
use Rattle.std.proofs.lemmas.List.{append-nil}
use Rattle.folded_stacks.proofs.Walks.{refused_by, walked_by}
use Rattle.folded_stacks.proofs.folding.put_sample.Goals as goal

pub returns-in-Ok-clause-put : goal.returns-in-Ok-clause-put
returns-in-Ok-clause-put c =
    let stack = walked_by c.args.space.now c.args.limit c.args.sample.now _ c.in-Ok.ensures.exact in
    (rw stack c.in_ok-put_walk-in-Ok.ensures, rw stack refl)

pub returns-clause-put : goal.returns-clause-put
returns-clause-put c =
    let none = refused_by c.args.space.now c.args.limit c.args.sample.now _ c.in-Err.ensures.exact in
    (rw none (sym (append-nil c.args.stacks.now)), rw none refl)
