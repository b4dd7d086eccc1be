use Rattle.std.proofs.Common.{◌≡◌, ◌<◌, ◌^◌, drop, max}
use Rattle.core_file.specs.Fronts.{last_end}
use Rattle.core_file.proofs.program_header.last_end.Given as goal

abbrev pub invariant-loop-i : goal.invariant-loop-i
invariant-loop-i l = record {
  fits : l.end < 2 ^ 64;
  greatest : max l.end (last_end l.kind (drop l.i l.headers)) ≡ last_end l.kind l.headers;
}
