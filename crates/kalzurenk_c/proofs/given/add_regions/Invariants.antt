use Rattle.std.proofs.Common.{◌≡◌, drop}
use Rattle.stack_steps.specs.Growing.{Grows}
use Rattle.kalzurenk_c.specs.Given.{image_after, spans_of}
use Rattle.kalzurenk_c.proofs.given.add_regions.Given as goal

abbrev pub invariant-loop-region : goal.invariant-loop-region
invariant-loop-region l = record {
  place : l.place ≡ l.region-index;
  image : image_after l.place l.image (spans_of (drop l.region-index l.regions)) ≡ image_after 0 l.fn.image (spans_of l.regions);
  grown : Grows l.fn.image l.image;
}
