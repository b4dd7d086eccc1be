-- What is left of a frame table's entries, which are read one by one.
use Rattle.std.specs.Prelude.{ℕ, ◌<◌, ◌≤◌, length, Bool, true, Option, Some, None, Result, Ok, Err, if◌then◌else◌}
use Rattle.std.specs.Option.{option_map}
use Rattle.memory_image.specs.Results.{result_map}
use Rattle.unwind_definitions.specs.declared.error.Error.{Error as Fault}
use Rattle.unwind_definitions.specs.Input.{Input}
use Rattle.unwind_definitions.specs.Pointers.{Bases}
use Rattle.unwind_definitions.specs.Entries.{Entry, Found, entry_at}
use Rattle.encoded_pointers.specs.PointerViews.{bases_of}
use Rattle.eh_frame.specs.declared.listing.Entries.{Entries}
use Rattle.eh_frame.specs.EntryViews.{table_of}

-- where the next entry of a table stands, and whether there is none: the list has ended, or an entry couldn't be read
pub record Listing : Type 0 where
  pub table : Input
  pub bases : Bases
  pub offset : ℕ
  pub is_over : Bool

abbrev pub listing_of : Entries → Listing
listing_of e = record { table = table_of e.table; bases = bases_of e.bases; offset = e.offset; is_over = e.is_over }

-- what stands next
abbrev pub upcoming : Listing → Result (Option Found) Fault
upcoming l = if l.is_over then Ok None else entry_at l.bases l.table l.offset

abbrev pub entry_in : Result (Option Found) Fault → Result (Option Entry) Fault
entry_in = result_map (option_map (λ found. found.entry))

-- what is left after that
abbrev pub after : Listing → Result (Option Found) Fault → Listing
after l (Ok (Some found)) = record l { offset = found.next }
after l (Ok None) = record l { is_over = true }
after l (Err e) = record l { is_over = true }

-- unless it is past the table's end already, the next entry of the same table stands further on, and not past the end
abbrev pub MovesAhead : Listing → Listing → Type 0
MovesAhead old new = old.offset ≤ length old.table.bytes → (old.offset < new.offset) × (new.offset ≤ length old.table.bytes)
