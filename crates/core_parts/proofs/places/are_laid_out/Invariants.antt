use Rattle.std.proofs.Common.{◌≡◌, length}
use Rattle.core_file.specs.Left.{places_left}
use Rattle.core_parts.specs.Parts.{are_laid_out}
use Rattle.core_parts.proofs.places.are_laid_out.Given as goal

abbrev pub invariant-loop-place : goal.invariant-loop-place
invariant-loop-place l = are_laid_out l.front.end l.low (places_left l.places) ≡ are_laid_out l.front.end 0 l.front.places

abbrev pub decreases-loop-place : goal.decreases-loop-place
decreases-loop-place l = length (places_left l.places)
