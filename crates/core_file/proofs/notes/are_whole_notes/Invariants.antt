use Rattle.std.proofs.Common.{◌≡◌, length}
use Rattle.core_file.specs.Notes.{are_whole_notes}
use Rattle.core_file.proofs.notes.are_whole_notes.Given as goal

abbrev pub invariant-loop-rest : goal.invariant-loop-rest
invariant-loop-rest l = are_whole_notes l.rest ≡ are_whole_notes l.bytes

abbrev pub decreases-loop-rest : goal.decreases-loop-rest
decreases-loop-rest l = length l.rest
