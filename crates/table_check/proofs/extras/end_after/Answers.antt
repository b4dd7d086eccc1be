use Rattle.std.proofs.Common.{ap, arith}
use Rattle.std.proofs.lemmas.Bool.{ltb-true}
use Rattle.table_check.specs.declared.claims.Claim.{Claim}
use Rattle.table_check.proofs.InOrder.{high_half}
use Rattle.table_check.proofs.extras.end_after.Goals as goal

pub returns : goal.returns
returns c late k d above below =
    let this : Claim = c.index-claims-index.result in
    let other = c.if-index-claims.false in let within = c.requires.within in
    let end = ap (λ (x : Claim). x.end) c.index-claims-index.is in
    let after = ltb-true c.args.address _ late in
    high_half c.args.claims.now c.requires.order c.args.index this c.index-claims-index.is (omega (arith, other, within)) c.args.address (omega (arith, end, after)) k d above below
