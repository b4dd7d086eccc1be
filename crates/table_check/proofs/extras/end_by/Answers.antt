use Rattle.std.proofs.Common.{◌-◌, ap, arith}
use Rattle.std.proofs.lemmas.Bool.{leb-true}
use Rattle.table_check.specs.declared.claims.Claim.{Claim}
use Rattle.table_check.proofs.InOrder.{low_half}
use Rattle.table_check.proofs.extras.end_by.Goals as goal

pub returns : goal.returns
returns c early k d below =
    let this : Claim = c.index-claims-index.result in
    let some = c.if-index-eq0.false in let within = c.requires.within in
    let end = ap (λ (x : Claim). x.end) c.index-claims-index.is in
    let by = leb-true _ c.args.address early in
    low_half c.args.claims.now c.requires.order (c.args.index - 1) this c.index-claims-index.is (omega (arith, some, within)) c.args.address (omega (arith, end, by)) k d (omega (arith, some, below))
