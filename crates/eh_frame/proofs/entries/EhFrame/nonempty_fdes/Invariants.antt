use Rattle.std.proofs.Common.{◌-◌, length}
use Rattle.encoded_pointers.specs.PointerViews.{bases_of}
use Rattle.eh_frame.specs.EntryViews.{table_of}
use Rattle.eh_frame.proofs.Collecting.{IsReadTo}
use Rattle.eh_frame.proofs.entries.EhFrame.nonempty_fdes.Given as goal

-- the entries up to an offset are read
abbrev pub invariant-loop-list : goal.invariant-loop-list
invariant-loop-list l = IsReadTo (bases_of l.bases) (table_of l.self) l.list.cies.items l.list.fdes.items l.offset

abbrev pub decreases-loop-list : goal.decreases-loop-list
decreases-loop-list l = length l.initial.self.bytes.now - l.offset
