use Rattle.std.proofs.Common.{◌≡◌, ◌<◌, ◌^◌, drop}
use Rattle.stack_snapshot.specs.Words.{hex_number}
use Rattle.stack_snapshot.proofs.fields.number_of.Given as goal

abbrev pub invariant-loop-digit : goal.invariant-loop-digit
invariant-loop-digit l = record {
  small : l.number < 16 ^ l.digit-index;
  rest : hex_number l.number (drop l.digit-index l.digits) ≡ hex_number 0 l.digits;
}
