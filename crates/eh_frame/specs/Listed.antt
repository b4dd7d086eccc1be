-- The descriptions of a table whose ranges aren't empty, in the table's order.
use Rattle.std.specs.Prelude.{◌≡◌, ℕ, ◌≤◌, Bool, List, nat_lt, Err}
use Rattle.std.specs.List.{count_by, filter}
use Rattle.unwind_definitions.specs.declared.error.Error.{Error as Fault}
use Rattle.unwind_definitions.specs.Input.{Input}
use Rattle.unwind_definitions.specs.Pointers.{Bases}
use Rattle.unwind_definitions.specs.Entries.{Fde, Entry, AreEntries, entry_at}
use Rattle.unwind_definitions.specs.Row.{covers_pc}
use Rattle.unwind_definitions.specs.Scan.{fdes_of}
use Rattle.eh_frame.specs.Search.{Precede}

abbrev pub has_bytes : Fde → Bool
has_bytes fde = nat_lt 0 fde.size

abbrev pub nonempty : List Entry → List Fde
nonempty entries = filter has_bytes (fdes_of entries)

-- two ranges share an address
abbrev pub SharesAddress : List Fde → Type 0
SharesAddress fdes = (pc : ℕ) × (2 ≤ count_by (λ fde. covers_pc fde pc) fdes)

-- an entry can't be read
pub record HasUnreadable (bases : Bases) (table : Input) : Type 0 where
  pub before : List Entry
  pub offset : ℕ
  pub precede : Precede bases table 0 before offset
  pub fault : Fault
  pub unread : entry_at bases table offset ≡ Err fault

-- all entries can be read, and these are the descriptions
pub record IsWhole (bases : Bases) (table : Input) (fdes : List Fde) : Type 0 where
  pub entries : List Entry
  pub are : AreEntries bases table 0 entries
  pub nonempty : fdes ≡ nonempty entries
