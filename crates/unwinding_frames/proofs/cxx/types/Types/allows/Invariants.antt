use Rattle.std.proofs.Common.{◌≡◌, ℕ, ◌<◌, ◌+◌, length}
use Rattle.encoded_pointers.specs.PointerViews.{bases_of}
use Rattle.encoded_pointers.specs.CursorViews.{at}
use Rattle.unwinding_frames.specs.CxxTables.{allows_from}
use Rattle.unwinding_frames.specs.CxxViews.{exception_of, types_of}
use Rattle.unwinding_frames.proofs.cxx.types.Types.allows.Given as goal

-- with turns enough, the indices that are left say what all of them say
abbrev pub invariant-loop-index : goal.invariant-loop-index
invariant-loop-index l = (turns : ℕ) × (length l.rest.bytes.now < turns) ×
    (allows_from (length (at l.list).bytes + 1) l.image (bases_of l.bases) (exception_of l.exception) (types_of l.self) (at l.list) ≡ allows_from turns l.image (bases_of l.bases) (exception_of l.exception) (types_of l.self) (at l.rest))

abbrev pub decreases-loop-index : goal.decreases-loop-index
decreases-loop-index l = length l.rest.bytes.now
