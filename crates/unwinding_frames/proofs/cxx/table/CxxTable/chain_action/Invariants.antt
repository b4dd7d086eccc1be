use Rattle.std.proofs.Common.{◌≡◌, length, false}
use Rattle.encoded_pointers.specs.PointerViews.{bases_of}
use Rattle.encoded_pointers.specs.CursorViews.{at}
use Rattle.unwinding_frames.specs.CxxTables.{chain_from}
use Rattle.unwinding_frames.specs.CxxViews.{exception_of, table_of}
use Rattle.unwinding_frames.proofs.cxx.table.CxxTable.chain_action.Given as goal

-- the chain that is left, with the turns that are left, asks what all of it asks
abbrev pub invariant-loop-turns : goal.invariant-loop-turns
invariant-loop-turns l = chain_from (length (at l.self.actions).bytes) l.image (bases_of l.bases) (exception_of l.exception) (table_of l.self) l.pad l.first false
    ≡ chain_from l.turns l.image (bases_of l.bases) (exception_of l.exception) (table_of l.self) l.pad l.place l.met_cleanup

abbrev pub decreases-loop-turns : goal.decreases-loop-turns
decreases-loop-turns l = l.turns
