use Rattle.std.proofs.Common.{◌-◌, ◌≡◌, ◌^◌, length}
use Rattle.std.specs.Io.KnownBytes.{Keeps, prepend_known}
use Rattle.perf_data.specs.Streams.{GoesOn}
use Rattle.perf_data.proofs.stream.read_rest.Given as goal

abbrev pub invariant-loop : goal.invariant-loop
invariant-loop g l = record {
  kept : Keeps (prepend_known l.initial.bytes.items (g.I.Source.left l.initial.input)) (prepend_known l.bytes.items (g.I.Source.left l.input));
  on : GoesOn (g.I.Source.left l.initial.input) (g.I.Source.left l.input) (g.I.Source.faults l.initial.input) (g.I.Source.faults l.input);
  piece : length l.piece ≡ length l.initial.piece;
}

abbrev pub decreases-loop : goal.decreases-loop
decreases-loop g l = 2 ^ 64 - length l.bytes.items
