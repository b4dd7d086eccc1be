-- All entries of a frame table that read, and descriptions that share no address. No public clause cites this.
use Rattle.std.specs.Prelude.{◌≡◌, ℕ, ◌<◌, List, [], ◌∷◌, Some, Ok}
use Rattle.std.specs.List.{AllByRecursion}
use Rattle.unwind_definitions.specs.Input.{Input}
use Rattle.unwind_definitions.specs.Pointers.{Bases}
use Rattle.unwind_definitions.specs.Entries.{Entry, Fde, entry_at}
use Rattle.unwind_definitions.specs.Module.{DescriptionsApart}
use Rattle.table_check.specs.Scanned.{ReadBefore}

-- entries that read, each after the one before, and all of them
pub record AreAll (bases : Bases) (table : Input) (entries : List Entry) : Type 0 where
  pub end : ℕ
  pub read : ReadBefore bases table 0 entries end
  pub over : (e : Entry) (next : ℕ) → entry_at bases table end ≡ Ok (Some (record { entry = e; next = next })) → ⊥

-- a description isn't empty, and shares no address with those after it
abbrev pub AllApart : List Fde → Type 0
AllApart [] = Unit {0}
AllApart (x ∷ xs) = (0 < x.size) × AllByRecursion (DescriptionsApart x) xs × AllApart xs
