use Rattle.std.proofs.Common.{◌≡◌, ◌-◌, ◌≤◌, false, List, length}
use Rattle.unwind_definitions.specs.Entries.{Entry}
use Rattle.encoded_pointers.specs.PointerViews.{bases_of}
use Rattle.eh_frame.specs.EntryViews.{table_of}
use Rattle.eh_frame.specs.Listing.{listing_of}
use Rattle.table_check.specs.Scanned.{StandBefore}
use Rattle.table_check.proofs.entries.first_refused_entry.Given as goal

-- the entries so far stand, and the next one is to be read
abbrev pub invariant-loop : goal.invariant-loop
invariant-loop l = (before : List Entry) × StandBefore (bases_of l.bases) (table_of l.frames) 0 before l.entries.offset
    × (listing_of l.entries ≡ record { table = table_of l.frames; bases = bases_of l.bases; offset = l.entries.offset; is_over = false })
    × (l.entries.offset ≤ length (table_of l.frames).bytes)

abbrev pub decreases-loop : goal.decreases-loop
decreases-loop l = length (table_of l.frames).bytes - l.entries.offset
