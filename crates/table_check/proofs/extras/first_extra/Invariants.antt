use Rattle.std.proofs.Common.{◌≡◌, ◌-◌, ◌≤◌, [], false, List, length, map}
use Rattle.std.specs.List.{AllByRecursion}
use Rattle.unwind_definitions.specs.Entries.{Entry}
use Rattle.unwind_definitions.specs.Scan.{fdes_of}
use Rattle.encoded_pointers.specs.PointerViews.{bases_of}
use Rattle.eh_frame.specs.EntryViews.{table_of}
use Rattle.eh_frame.specs.Listing.{listing_of}
use Rattle.table_check.specs.ClaimViews.{function_of}
use Rattle.table_check.specs.Scanned.{AllMayStand, EndsBy, ReadBefore}
use Rattle.table_check.proofs.extras.first_extra.Given as goal

abbrev pub invariant-loop-entry : goal.invariant-loop-entry
invariant-loop-entry l = (before : List Entry) × (length before ≡ l.count) × ReadBefore (bases_of l.bases) (table_of l.frames) 0 before l.entries.offset
    × (listing_of l.entries ≡ record { table = table_of l.frames; bases = bases_of l.bases; offset = l.entries.offset; is_over = false })
    × (l.entries.offset ≤ length (table_of l.frames).bytes) × (l.count ≤ l.entries.offset)
    × AllMayStand (map function_of l.claims) [] (fdes_of before) × AllByRecursion (EndsBy l.highest) (fdes_of before)

abbrev pub decreases-loop-entry : goal.decreases-loop-entry
decreases-loop-entry l = length (table_of l.frames).bytes - l.entries.offset
