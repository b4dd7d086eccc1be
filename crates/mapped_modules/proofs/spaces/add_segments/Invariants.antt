use Rattle.std.proofs.Common.{◌≡◌, length}
use Rattle.core_file.specs.Left.{segments_left}
use Rattle.mapped_modules.specs.Spaces.{with_regions}
use Rattle.mapped_modules.proofs.spaces.add_segments.Given as goal

abbrev pub invariant-loop-address : goal.invariant-loop-address
invariant-loop-address l = with_regions l.image (segments_left l.segments) ≡ with_regions l.initial.image (segments_left l.fn.segments)

abbrev pub decreases-loop-address : goal.decreases-loop-address
decreases-loop-address l = length (segments_left l.segments)
