use Rattle.std.proofs.Common.{◌≡◌, ◌-◌, ℕ, false, List, length}
use Rattle.unwind_definitions.specs.Entries.{Entry}
use Rattle.encoded_pointers.specs.PointerViews.{bases_of}
use Rattle.eh_frame.specs.EntryViews.{fde_of, table_of}
use Rattle.eh_frame.specs.Listing.{listing_of}
use Rattle.table_check.specs.Scanned.{ReadBefore}
use Rattle.table_check.proofs.Beside.{AreLeft}
use Rattle.table_check.proofs.extras.is_apart_from_each.Given as goal

abbrev pub invariant-loop-turn : goal.invariant-loop-turn
invariant-loop-turn l = (listing_of l.entries ≡ record { table = table_of l.frames; bases = bases_of l.bases; offset = l.entries.offset; is_over = false })
    × ((before : List Entry) (end : ℕ) → length before ≡ l.count → ReadBefore (bases_of l.bases) (table_of l.frames) 0 before end → AreLeft (bases_of l.bases) (table_of l.frames) (fde_of l.fde) before end l.entries.offset (l.count - l._turn))
