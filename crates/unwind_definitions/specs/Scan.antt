-- The description that a scan of a frame table finds for an address: the first in order that contains it.
use Rattle.std.specs.Prelude.{ℕ, zero, suc, List, length, Option, Some, None, Result, Ok, Err, if◌then◌else◌}
use Rattle.std.specs.List.{find, filter_map}
use Rattle.unwind_definitions.specs.Faults.{Fault, NoUnwindInfoForAddress, ◌>>=◌}
use Rattle.unwind_definitions.specs.Input.{Input}
use Rattle.unwind_definitions.specs.Pointers.{Bases}
use Rattle.unwind_definitions.specs.Entries.{Fde, Entry, ACie, AFde, Found, entry_at}
use Rattle.unwind_definitions.specs.Row.{covers_pc}

abbrev pub fde_of : Entry → Option Fde
fde_of (ACie cie) = None
fde_of (AFde fde) = Some fde

abbrev pub fdes_of : List Entry → List Fde
fdes_of entries = filter_map fde_of entries

-- the first description of a list that contains an address
abbrev pub first_covering : List Fde → ℕ → Option Fde
first_covering fdes pc = find (λ fde. covers_pc fde pc) fdes

-- the description, where it contains the address, or what a search after it gives
abbrev pub found_or : ℕ → Entry → Result Fde Fault → Result Fde Fault
found_or pc (ACie cie) later = later
found_or pc (AFde fde) later = if covers_pc fde pc then Ok fde else later

abbrev pub scan_after : ℕ → Option Found → (ℕ → Result Fde Fault) → Result Fde Fault
scan_after pc None later = Err NoUnwindInfoForAddress
scan_after pc (Some found) later = found_or pc found.entry (later found.next)

-- the entries from an offset on, at most so many
abbrev pub scan_from : ℕ → Bases → Input → ℕ → ℕ → Result Fde Fault
scan_from zero bases table pc offset = Err NoUnwindInfoForAddress
scan_from (suc turns) bases table pc offset = entry_at bases table offset >>= λ found. scan_after pc found (scan_from turns bases table pc)

-- The first description that contains the address, or the fault of an entry before it that can't be read. An entry takes a byte at least, so a table holds no more entries than bytes.
unfoldable pub scan : Bases → Input → ℕ → Result Fde Fault
scan bases table pc = scan_from (suc (length table.bytes)) bases table pc 0
