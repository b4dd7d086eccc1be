use Rattle.std.proofs.Common.{◌≡◌, drop}
use Rattle.stack_snapshot.specs.Owned.{spans_of}
use Rattle.stack_snapshot.specs.Ranges.{each_in, region_range}
use Rattle.stack_snapshot.proofs.Each.{with_front}
use Rattle.stack_snapshot.proofs.snapshot.region_ranges.Given as goal

abbrev pub invariant-loop-region : goal.invariant-loop-region
invariant-loop-region l =
    with_front l.ranges.items (each_in region_range (spans_of (drop l.region-index l.regions))) ≡ each_in region_range (spans_of l.regions)
