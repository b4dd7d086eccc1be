use Rattle.std.proofs.Common.{◌≡◌, length}
use Rattle.core_file.specs.Left.{notes_left}
use Rattle.core_file.specs.MappedParts.{description_in}
use Rattle.core_file.proofs.mapped.description_in.Given as goal

abbrev pub invariant-loop-note : goal.invariant-loop-note
invariant-loop-note l = description_in (notes_left l.notes) ≡ description_in (notes_left l.fn.notes)

abbrev pub decreases-loop-note : goal.decreases-loop-note
decreases-loop-note l = length (notes_left l.notes)
