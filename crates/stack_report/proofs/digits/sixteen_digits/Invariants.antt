use Rattle.std.proofs.Common.{◌≡◌, ◌-◌, ◌*◌, ◌++◌, length, drop}
use Rattle.stack_report.specs.Digits.{digits_of}
use Rattle.stack_report.proofs.digits.sixteen_digits.Given as goal

abbrev pub invariant-loop-place : goal.invariant-loop-place
invariant-loop-place l = record {
  digits : length l.digits ≡ 16;
  written : digits_of (16 - 2 * l.place) l.rest ++ drop (16 - 2 * l.place) l.digits ≡ digits_of 16 l.number;
}
