use Rattle.std.proofs.Common.{◌-◌, ◌≡◌, ◌≤◌, ◌^◌, ℕ, List, length, min}
use Rattle.std.specs.Io.KnownBytes.{Consumes}
use Rattle.perf_data.proofs.stream.pass_all.Given as goal

abbrev pub invariant-loop-passed : goal.invariant-loop-passed
invariant-loop-passed g l = record {
  taken : (taken : List ℕ) × Consumes (g.I.Source.left l.initial.input) (g.I.Source.left l.input) taken × (l.passed ≡ min (length taken) (2 ^ 64 - 1));
  later : g.I.Source.faults l.initial.input ≤ g.I.Source.faults l.input;
  piece : length l.piece ≡ length l.initial.piece;
}

abbrev pub decreases-loop-passed : goal.decreases-loop-passed
decreases-loop-passed g l = 18446744073709551615 - l.passed
