use Rattle.std.proofs.Common.{◌≡◌, ◌+◌, ◌<◌, ◌≤◌, ◌^◌, false, length, drop}
use Rattle.std.specs.Fmt.{digits}
use Rattle.stack_report.specs.Digits.{digits_before}
use Rattle.stack_report.proofs.digits.decimal_digits.Given as goal

abbrev pub invariant-digits : goal.invariant-digits
invariant-digits l = record {
  left : l.rest < 10 ^ (l.start);
  start : l.start ≤ 19;
  buffer : length l.buffer ≡ 20;
  digits : digits_before (44 + l.start) 10 l.rest (drop l.start l.buffer) ≡ digits 10 false l.number;
}

abbrev pub decreases-digits : goal.decreases-digits
decreases-digits l = l.start
