use Rattle.std.proofs.Common.{◌≤◌, ◌^◌, arith, lit<}
use Rattle.std.proofs.Math.Nat.{pow-le-pow_right}
use Rattle.stack_snapshot.proofs.fields.number_of.Goals as goal

pub with_digit-requires : goal.with_digit-requires
with_digit-requires c =
    let big : 16 ^ c.loop-digit.digit-index ≤ 16 ^ 15 = pow-le-pow_right (lit< tt) {j = 15} (omega arith) in
    omega (arith, big)
