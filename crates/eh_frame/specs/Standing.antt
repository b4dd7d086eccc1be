-- The common information entries that are known of a table.
use Rattle.std.specs.Prelude.{◌≡◌, ℕ, Err, IfSome, None, Ok, Option, Result, Some, if◌then◌else◌}
use Rattle.std.proofs.Props.{props}
use Rattle.unwind_definitions.specs.declared.error.Error.{Error as Fault}
use Rattle.unwind_definitions.specs.Faults.{◌>>=◌}
use Rattle.unwind_definitions.specs.Input.{Input, skip}
use Rattle.unwind_definitions.specs.Pointers.{Bases}
use Rattle.unwind_definitions.specs.Entries.{ACie, AFde, Cie, Entry, Fde, body, cie_at, entry_in, fde_body}
use Rattle.unwind_definitions.specs.Row.{covers_pc}
use Rattle.unwind_definitions.specs.declared.error.Error.TheVariants.{NotFde}
use Rattle.eh_frame.specs.declared.cie.Cie.{Cie as ReadCie}
use Rattle.eh_frame.specs.declared.known_cies.KnownCies.{KnownCies}
use Rattle.eh_frame.specs.EntryViews.{cie_of}
use Rattle.eh_frame.specs.Shared.{StandsIn, stands_prop}

-- each is what the table has at its offset
abbrev pub AreStanding : Bases → Input → KnownCies → Type 0
AreStanding bases table known = IfSome known.last (λ cie. StandsIn bases table (cie_of cie)) × IfSome known.before (λ cie. StandsIn bases table (cie_of cie))

pub standing_prop : (bases : Bases) (table : Input) (known : KnownCies) → IsProp (AreStanding bases table known)
standing_prop bases table known = Prim.hlevel (props, λ (cie : ReadCie). stands_prop bases table (cie_of cie))

-- an entry at an offset has this body
abbrev pub IsBodyAt : Input → ℕ → Input → Type 0
IsBodyAt table offset b = (next : Input) × (body (skip offset table) ≡ Ok (Some b, next))

-- the description at an offset, by the offset of the common information entry that it names, and by what stands after that
abbrev pub naming : Bases → Input → ℕ → ℕ → Input → Result Entry Fault
naming bases table named offset rest = cie_at bases table named >>= λ cie. fde_body bases cie offset rest >>= λ fde. Ok (AFde fde)

-- an entry, where it is a description
abbrev pub description : Entry → Result Fde Fault
description (ACie cie) = Err NotFde
description (AFde fde) = Ok fde

-- the description at an offset, by its body
abbrev pub description_in : Bases → Input → ℕ → Input → Result Fde Fault
description_in bases table offset b = entry_in bases table offset b >>= λ entry. description entry

-- an entry, where it is a description that contains an address
abbrev pub covering : ℕ → Entry → Option Fde
covering pc (ACie cie) = None
covering pc (AFde fde) = if covers_pc fde pc then Some fde else None

-- the same of the entry at an offset, by its body
abbrev pub covering_in : Bases → Input → ℕ → Input → ℕ → Result (Option Fde) Fault
covering_in bases table offset b pc = entry_in bases table offset b >>= λ entry. Ok (covering pc entry)

-- and of a description, by what stands after its first four bytes
abbrev pub covering_body : Bases → Cie → ℕ → Input → ℕ → Result (Option Fde) Fault
covering_body bases cie offset rest pc = fde_body bases cie offset rest >>= λ fde. Ok (covering pc (AFde fde))
