use Rattle.std.proofs.Common.{◌≡◌, ◌<◌, ◌+◌, ◌-◌, arith, ◌∙◌, refl, length-set, length}
use Rattle.std.proofs.lemmas.List.{drop-set}
use Rattle.stack_report.proofs.Steps.{first_digit, next_digit, less_left_10, some_left_10}
use Rattle.stack_report.proofs.digits.decimal_digits.Goals as goal

pub digits-init : goal.digits-init
digits-init c = record {
  left = omega arith;
  start = omega arith;
  buffer = refl;
  digits = rw c.glyph.ensures (first_digit 10 c.args.number);
}

pub digits-preserved : goal.digits-preserved
digits-preserved c =
    let some : 0 < c.digits.start = some_left_10 _ _ c.digits.invariant.left c.digits-test.true in
    let inside : c.digits.start - 1 < length c.digits.buffer = omega arith in
    let back : c.digits.start - 1 + 1 ≡ c.digits.start = omega arith in record {
      left = less_left_10 _ _ _ (omega arith) c.digits.invariant.left;
      start = omega arith;
      buffer = rw length-set (omega arith);
      digits = rw (drop-set, c.glyph-in-digits.ensures) (rw back (next_digit _ _ 10 _ _ (omega arith) c.digits-test.true ∙ c.digits.invariant.digits));
    }
