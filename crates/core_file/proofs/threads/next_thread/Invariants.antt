use Rattle.std.proofs.Common.{◌≡◌, length}
use Rattle.core_file.specs.CoreValue.{threads_in_notes}
use Rattle.core_file.specs.Left.{bytes_left, notes_left}
use Rattle.core_file.proofs.threads.next_thread.Given as goal

abbrev pub invariant-loop-note : goal.invariant-loop-note
invariant-loop-note l = threads_in_notes (bytes_left l.notes) ≡ threads_in_notes (bytes_left l.fn.notes)

abbrev pub decreases-loop-note : goal.decreases-loop-note
decreases-loop-note l = length (notes_left l.notes)
