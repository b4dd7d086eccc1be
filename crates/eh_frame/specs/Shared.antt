-- The common information entries of a table, which several of its descriptions share.
use Rattle.std.specs.Prelude.{◌≡◌, Ok}
use Rattle.std.proofs.Props.{props}
use mathlib.Core.Sum.{⊎_set}
use Rattle.unwind_definitions.specs.Input.{Input}
use Rattle.unwind_definitions.specs.Pointers.{Bases}
use Rattle.unwind_definitions.specs.Entries.{Cie, Entry, ACie, AFde, cie_at}

-- the entry itself, or the one that a description names
abbrev pub cie_of_entry : Entry → Cie
cie_of_entry (ACie cie) = cie
cie_of_entry (AFde fde) = fde.cie

-- a common information entry is what a table has at its offset
abbrev pub StandsIn : Bases → Input → Cie → Type 0
StandsIn bases table cie = cie_at bases table cie.offset ≡ Ok cie

pub stands_prop : (bases : Bases) (table : Input) (cie : Cie) → IsProp (StandsIn bases table cie)
stands_prop bases table cie = Prim.hlevel (props, ⊎_set)
