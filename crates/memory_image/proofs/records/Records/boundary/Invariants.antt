use Rattle.std.proofs.Common.{◌≡◌, ◌-◌, ◌≤◌, map, length}
use Rattle.memory_image.specs.Halving.{place_by_halving, is_at_or_before}
use Rattle.memory_image.proofs.records.Records.boundary.Given as goal

abbrev pub invariant-loop-low : goal.invariant-loop-low
invariant-loop-low g l = record {
  ordered : l.low ≤ l.high;
  within : l.high ≤ length l.self;
  same : place_by_halving (length l.self) (is_at_or_before (map g.T.Keyed.key l.self) l.p) l.low l.high
      ≡ place_by_halving (length l.self) (is_at_or_before (map g.T.Keyed.key l.self) l.p) 0 (length l.self);
}

abbrev pub decreases-loop-low : goal.decreases-loop-low
decreases-loop-low g l = l.high - l.low
