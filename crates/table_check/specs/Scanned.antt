-- What a check finds among the entries of a frame table: which of them doesn't read, and which description isn't one of
-- a claimed function, nor of code that shares no address with the others.
use Rattle.std.specs.Prelude.{◌≡◌, ◌⊎◌, ℕ, ◌+◌, ◌-◌, ◌^◌, ◌<◌, ◌≤◌, List, [], ◌∷◌, ◌++◌, Some, None, Ok, Err, IsTrue}
use Rattle.std.specs.Int.{w32}
use Rattle.std.specs.List.{AllByRecursion, Contains}
use Rattle.unwind_definitions.specs.declared.error.Error.{Error as Fault}
use Rattle.unwind_definitions.specs.Input.{Input, number, skip}
use Rattle.unwind_definitions.specs.Pointers.{Bases}
use Rattle.unwind_definitions.specs.Entries.{Fde, Entry, AFde, entry_at}
use Rattle.unwind_definitions.specs.Scan.{fdes_of}
use Rattle.unwind_definitions.specs.Function.{Function}
use Rattle.unwind_definitions.specs.FrameTable.{MeetsNot, has_range_of}
use Rattle.unwind_definitions.specs.Module.{DescriptionsApart}

-- ---- entries

-- what stands at an offset begins with a length that four bytes spell
abbrev pub IsShortAt : Input → ℕ → Type 0
IsShortAt table offset = (n : ℕ) × (rest : Input) × (number w32 (skip offset table) ≡ Ok (n, rest)) × (n < 2 ^ 32 - 1)

module _ (bases : Bases) (table : Input) where
  -- entries that read, with lengths of four bytes, each after the one before, from an offset on and up to another
  abbrev pub StandBefore : ℕ → List Entry → ℕ → Type 0
  StandBefore from [] end = from ≡ end
  StandBefore from (e ∷ es) end = (next : ℕ) × (entry_at bases table from ≡ Ok (Some (record { entry = e; next = next }))) × IsShortAt table from × StandBefore next es end

  -- an entry at an offset that doesn't read, or whose length isn't spelled by four bytes
  abbrev pub IsRefused : ℕ → Type 0
  IsRefused offset = ((fault : Fault) × (entry_at bases table offset ≡ Err fault))
      ⊎ ((e : Entry) × (next : ℕ) × (entry_at bases table offset ≡ Ok (Some (record { entry = e; next = next }))) × (IsShortAt table offset → ⊥))

  -- entries that read so, up to the end of the list
  pub record AllStand : Type 0 where
    pub entries : List Entry
    pub end : ℕ
    pub stand : StandBefore 0 entries end
    pub over : entry_at bases table end ≡ Ok None

  -- the first such entry
  pub record IsFirstRefused (offset : ℕ) : Type 0 where
    pub before : List Entry
    pub stand : StandBefore 0 before offset
    pub refused : IsRefused offset

-- ---- descriptions

-- a description is that of a function, or shares no address with it
abbrev pub FitsFunction : Fde → Function → Type 0
FitsFunction fde f = IsTrue (has_range_of f fde) ⊎ MeetsNot fde f

abbrev pub IsApartFrom : Fde → Fde → Type 0
IsApartFrom later earlier = DescriptionsApart earlier later

-- a description ends at or before an address
abbrev pub EndsBy : ℕ → Fde → Type 0
EndsBy highest fde = fde.start + fde.size ≤ highest

-- a description isn't empty, shares no address with those before it, and shares one with a function only where it has its range
pub record MayStand (functions : List Function) (before : List Fde) (fde : Fde) : Type 0 where
  pub some : 0 < fde.size
  pub apart : AllByRecursion (IsApartFrom fde) before
  pub fits : AllByRecursion (FitsFunction fde) functions

abbrev pub AllMayStand : List Function → List Fde → List Fde → Type 0
AllMayStand functions before [] = Unit {0}
AllMayStand functions before (fde ∷ fdes) = MayStand functions before fde × AllMayStand functions (before ++ fde ∷ []) fdes

-- entries that read, each after the one before, from an offset on and up to another
abbrev pub ReadBefore : Bases → Input → ℕ → List Entry → ℕ → Type 0
ReadBefore bases table from [] end = from ≡ end
ReadBefore bases table from (e ∷ es) end = (next : ℕ) × (entry_at bases table from ≡ Ok (Some (record { entry = e; next = next }))) × ReadBefore bases table next es end

-- the descriptions among all entries that read may stand so
pub record AllMayStandIn (bases : Bases) (table : Input) (functions : List Function) : Type 0 where
  pub entries : List Entry
  pub end : ℕ
  pub read : ReadBefore bases table 0 entries end
  pub over : (e : Entry) (next : ℕ) → entry_at bases table end ≡ Ok (Some (record { entry = e; next = next })) → ⊥
  pub stand : AllMayStand functions [] (fdes_of entries)

-- the first description that may not stand so starts at an address
pub record IsFirstExtra (bases : Bases) (table : Input) (functions : List Function) (start : ℕ) : Type 0 where
  pub before : List Entry
  pub offset : ℕ
  pub read : ReadBefore bases table 0 before offset
  pub stand : AllMayStand functions [] (fdes_of before)
  pub fde : Fde
  pub next : ℕ
  pub there : entry_at bases table offset ≡ Ok (Some (record { entry = AFde fde; next = next }))
  pub starts : fde.start ≡ start
  pub extra : MayStand functions (fdes_of before) fde → ⊥

-- one of the descriptions has a function's range
abbrev pub IsDescribedAmong : List Fde → Function → Type 0
IsDescribedAmong fdes f = (fde : Fde) × Contains fdes fde × IsTrue (has_range_of f fde)
