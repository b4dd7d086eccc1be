use Rattle.std.proofs.Common.{◌≡◌, drop}
use Rattle.stack_snapshot.specs.Content.{image_of, takes_regions}
use Rattle.stack_snapshot.specs.Owned.{spans_of}
use Rattle.stack_snapshot.proofs.snapshot.with_regions.Given as goal

abbrev pub invariant-loop-region : goal.invariant-loop-region
invariant-loop-region l = record {
  image : image_of l.image (spans_of (drop l.region-index l.regions)) ≡ image_of l.initial.image (spans_of l.regions);
  taken : takes_regions l.image (spans_of (drop l.region-index l.regions)) ≡ takes_regions l.initial.image (spans_of l.regions);
}
