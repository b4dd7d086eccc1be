use Rattle.std.proofs.Common.{◌≡◌, length}
use Rattle.core_file.specs.Left.{places_left}
use Rattle.mapped_modules.specs.Places.{first_such}
use Rattle.core_parts.specs.Parts.{has_address}
use Rattle.core_parts.proofs.places.place_at.Given as goal

abbrev pub invariant-loop-place : goal.invariant-loop-place
invariant-loop-place l = first_such (has_address l.address) (places_left l.places) ≡ first_such (has_address l.address) l.front.places

abbrev pub decreases-loop-place : goal.decreases-loop-place
decreases-loop-place l = length (places_left l.places)
