use Rattle.std.proofs.Common.{◌≡◌, ◌-◌, ◌≤◌, false, List, length, map}
use Rattle.unwind_definitions.specs.Entries.{Entry}
use Rattle.unwind_definitions.specs.Scan.{fdes_of}
use Rattle.encoded_pointers.specs.PointerViews.{bases_of}
use Rattle.eh_frame.specs.EntryViews.{table_of}
use Rattle.eh_frame.specs.Listing.{listing_of}
use Rattle.fde_finders.specs.NamedTables.{named_of}
use Rattle.table_check.specs.ClaimViews.{function_of}
use Rattle.table_check.specs.Findings.{Tells}
use Rattle.table_check.specs.Scanned.{StandBefore}
use Rattle.table_check.proofs.findings.go_through.Given as goal

-- the entries so far stand, and this is what they tell
abbrev pub invariant-loop-found : goal.invariant-loop-found
invariant-loop-found l = (before : List Entry) × StandBefore (bases_of l.table.bases) (table_of l.table.frames) 0 before l.entries.offset
    × (listing_of l.entries ≡ record { table = table_of l.table.frames; bases = bases_of l.table.bases; offset = l.entries.offset; is_over = false })
    × (l.entries.offset ≤ length (table_of l.table.frames).bytes) × (l.found.entries ≡ length before) × (l.found.entries ≤ l.entries.offset)
    × (l.found.descriptions ≡ length (fdes_of before)) × (l.found.descriptions ≤ l.found.entries)
    × (map function_of l.claims ≡ map function_of l.fn.claims) × Tells l.image (named_of l.table) (map function_of l.fn.claims) l.claims (fdes_of before) l.found

abbrev pub decreases-loop-found : goal.decreases-loop-found
decreases-loop-found l = length (table_of l.table.frames).bytes - l.entries.offset
