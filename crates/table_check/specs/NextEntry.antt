-- The next entry of a table that is gone through. No public clause cites this.
use Rattle.std.specs.Prelude.{◌≡◌, ℕ, List, [], ◌∷◌, Option, Some, None, Ok}
use Rattle.unwind_definitions.specs.Entries.{Entry, AFde, Fde, entry_at}
use Rattle.unwind_definitions.specs.Scan.{fdes_of}
use Rattle.unwind_definitions.specs.Function.{Function}
use Rattle.eh_frame.specs.declared.entries.Entry.{Entry as CodeEntry}
use Rattle.eh_frame.specs.EntryViews.{entry_of}
use Rattle.eh_frame.specs.Listing.{Listing, MovesAhead}
use Rattle.table_check.specs.Scanned.{AllMayStand, MayStand}

abbrev pub IsNextEntry : Listing → Option CodeEntry → Listing → Type 0
IsNextEntry l None new = (e : Entry) (next : ℕ) → entry_at l.bases l.table l.offset ≡ Ok (Some (record { entry = e; next = next })) → ⊥
IsNextEntry l (Some e) new = (entry_at l.bases l.table l.offset ≡ Ok (Some (record { entry = entry_of e; next = new.offset }))) × (new ≡ record l { offset = new.offset }) × MovesAhead l new

-- an entry's description may not stand after others, and starts at an address; or it may, or the entry is none
abbrev pub TellsExtra : List Function → List Fde → Entry → Option ℕ → Type 0
TellsExtra functions before e None = AllMayStand functions before (fdes_of (e ∷ []))
TellsExtra functions before e (Some start) = (fde : Fde) × (e ≡ AFde fde) × (fde.start ≡ start) × (MayStand functions before fde → ⊥)
