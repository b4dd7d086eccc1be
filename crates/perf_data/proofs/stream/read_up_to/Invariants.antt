use Rattle.std.proofs.Common.{◌-◌, ◌≡◌, ◌++◌, ℕ, List, length}
use Rattle.std.specs.Io.KnownBytes.{Keeps, prepend_known}
use Rattle.perf_data.specs.Streams.{GoesOn}
use Rattle.perf_data.proofs.stream.read_up_to.Given as goal

abbrev pub invariant-loop-input : goal.invariant-loop-input
invariant-loop-input g l = record {
  kept : Keeps (prepend_known l.initial.bytes.items (g.I.Source.left l.initial.input)) (prepend_known l.bytes.items (g.I.Source.left l.input));
  front : (more : List ℕ) × (l.bytes.items ≡ l.initial.bytes.items ++ more);
  on : GoesOn (g.I.Source.left l.initial.input) (g.I.Source.left l.input) (g.I.Source.faults l.initial.input) (g.I.Source.faults l.input);
  piece : length l.piece ≡ length l.initial.piece;
}

abbrev pub decreases-loop-input : goal.decreases-loop-input
decreases-loop-input g l = l.wanted - length l.bytes.items
