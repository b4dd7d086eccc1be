use Rattle.std.proofs.Common.{◌+◌, ◌-◌, ◌/◌, ap, arith}
use Rattle.table_check.specs.declared.claims.Claim.{Claim}
use Rattle.table_check.proofs.InOrder.{high_half, low_half}
use Rattle.table_check.proofs.extras.halved.Goals as goal

pub loop-low-preserved-then-claims-middle : goal.loop-low-preserved-then-claims-middle
loop-low-preserved-then-claims-middle c =
    let inv = c.loop-low.invariant in
    let a = c.loop-low-test.true in let b = inv.1 in
    let middle = c.loop-low.low + (c.loop-low.high - c.loop-low.low) / 2 in (
      omega (arith, a),
      inv.1,
      low_half c.args.claims.now c.requires middle c.index-claims-middle.result c.index-claims-middle.is (omega (arith, a, b)) c.args.address (let e = ap (λ (x : Claim). x.end) c.index-claims-middle.is in let t = c.if-claims-middle.true in omega (arith, e, t)),
      inv.3,
    )

pub loop-low-preserved : goal.loop-low-preserved
loop-low-preserved c =
    let inv = c.loop-low.invariant in
    let a = c.loop-low-test.true in let b = inv.1 in
    let middle = c.loop-low.low + (c.loop-low.high - c.loop-low.low) / 2 in (
      omega (arith, a),
      omega (arith, a, b),
      inv.2,
      high_half c.args.claims.now c.requires middle c.index-claims-middle.result c.index-claims-middle.is (omega (arith, a, b)) c.args.address (let e = ap (λ (x : Claim). x.end) c.index-claims-middle.is in let t = c.if-claims-middle.false in omega (arith, e, t)),
    )
