use Rattle.std.proofs.Common.{◌≡◌, ◌-◌, ◌+◌, ◌*◌, suc, arith, length-set}
use Rattle.stack_report.proofs.Heads.{byte_placed}
use Rattle.stack_report.proofs.digits.sixteen_digits.Goals as goal

pub loop-place-preserved : goal.loop-place-preserved
loop-place-preserved c =
    let more : 16 - 2 * c.loop-place.place ≡ suc (suc (14 - 2 * c.loop-place.place)) = omega arith in
    let low : 15 - 2 * c.loop-place.place ≡ suc (14 - 2 * c.loop-place.place) = omega arith in
    let less : 16 - 2 * (c.loop-place.place + 1) ≡ 14 - 2 * c.loop-place.place = omega arith in
    let size = c.loop-place.invariant.digits in
    record {
      digits = rw (length-set, length-set) size;
      written = rw (less, low) (byte_placed (14 - 2 * c.loop-place.place) c.loop-place.rest _ _ c.loop-place.digits _ (omega (arith, size)) c.pair-high.ensures.high c.pair-high.ensures.low (rw more at c.loop-place.invariant.written));
    }
