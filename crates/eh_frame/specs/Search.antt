-- What a search of a frame table for an address comes to, in the words of its entries.
use Rattle.std.specs.Prelude.{◌≡◌, ℕ, List, [], ◌∷◌, Some, None, Ok, Err, IsTrue}
use Rattle.unwind_definitions.specs.declared.error.Error.{Error as Fault}
use Rattle.unwind_definitions.specs.Input.{Input}
use Rattle.unwind_definitions.specs.Pointers.{Bases}
use Rattle.unwind_definitions.specs.Entries.{Fde, Entry, AFde, entry_at, AreEntries}
use Rattle.unwind_definitions.specs.Row.{covers_pc}
use Rattle.unwind_definitions.specs.Scan.{fdes_of, first_covering}

module _ (bases : Bases) (table : Input) where
  -- entries that can be read, each after the one before, from an offset on and up to another
  abbrev pub Precede : ℕ → List Entry → ℕ → Type 0
  Precede from [] end = from ≡ end
  Precede from (e ∷ es) end = (next : ℕ) × (entry_at bases table from ≡ Ok (Some (record { entry = e; next = next }))) × Precede next es end

module _ (bases : Bases) (table : Input) (pc : ℕ) where
  -- a description contains the address, and no entry before it does
  pub record IsFirst (from : ℕ) (fde : Fde) : Type 0 where
    pub before : List Entry
    pub offset : ℕ
    pub next : ℕ
    pub precede : Precede bases table from before offset
    pub none_before : first_covering (fdes_of before) pc ≡ None
    pub stands : entry_at bases table offset ≡ Ok (Some (record { entry = AFde fde; next = next }))
    pub contains : IsTrue (covers_pc fde pc)

  -- an entry can't be read, and no entry before it contains the address
  pub record IsUnreadable (from : ℕ) (fault : Fault) : Type 0 where
    pub before : List Entry
    pub offset : ℕ
    pub precede : Precede bases table from before offset
    pub none_before : first_covering (fdes_of before) pc ≡ None
    pub unread : entry_at bases table offset ≡ Err fault

  -- all entries can be read, and none contains the address
  pub record NoneContains (from : ℕ) : Type 0 where
    pub entries : List Entry
    pub are : AreEntries bases table from entries
    pub none : first_covering (fdes_of entries) pc ≡ None
