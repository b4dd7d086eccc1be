-- An image below another has fewer regions.
use Rattle.std.specs.Prelude.{◌≤◌, max, length}
use Rattle.std.proofs.Common.{arith}
use Rattle.memory_image.specs.declared.image.Regions.{Regions}
use Rattle.memory_image.specs.declared.image.Regions.TheVariants.{Kept, Over}
use Rattle.memory_image.specs.declared.image.MemoryImage.TheDeep.{deep-Regions}
use Rattle.memory_image.specs.Overlays.{region_of, spans_in, length-with_span}

pub falls : (regions : Regions) → max (deep-Regions regions) 0 ≤ length (spans_in regions)
falls (Kept spans) = omega arith
falls (Over over) = omega (arith, length-with_span (region_of over) over.below.now)
