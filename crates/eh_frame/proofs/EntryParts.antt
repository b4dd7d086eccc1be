-- What stands at an offset of a frame table, by what is read there.
use Rattle.std.proofs.Common.{◌≡◌, ℕ, ◌-◌, ◌<◌, ◌≤◌, length, Option, Some, None, Result, Ok, Err, refl, sym, ap, ◌∙◌}
use Rattle.unwind_definitions.specs.Faults.{◌>>=◌}
use Rattle.std.specs.Int.{w32}
use Rattle.std.proofs.lemmas.Bool.{ne_eqb, le-ltb, lt-ltb}
use Rattle.unwind_definitions.specs.declared.error.Error.{Error as Fault}
use Rattle.unwind_definitions.specs.declared.error.Error.TheVariants.{NotCie, NotFde}
use Rattle.unwind_definitions.specs.Input.{Input, skip, number}
use Rattle.unwind_definitions.specs.Pointers.{Bases}
use Rattle.unwind_definitions.specs.Entries.{Cie, Fde, Entry, ACie, AFde, body, cie_body, cie_in, cie_at, fde_body, entry_in, found_in, entry_at}
use Rattle.unwind_definitions.specs.HeaderSearch.{fde_at, fde_in}
use Rattle.eh_frame.specs.Standing.{covering, covering_body, covering_in, description, description_in, naming}

-- a body is read at an offset
module _ (bases : Bases) (table : Input) (offset : ℕ) (c : Input) (stands : c ≡ skip offset table) where
  pub no_body : (e : Fault) → body c ≡ Err e → entry_at bases table offset ≡ Err e
  unfolding entry_at
  no_body e fault = ap (λ (x : Input). body x >>= λ r. found_in bases table offset r.0 r.1.offset) (sym stands) ∙ rw fault refl

  pub no_more : (next : Input) → body c ≡ Ok (None, next) → entry_at bases table offset ≡ Ok None
  unfolding entry_at
  no_more next none = ap (λ (x : Input). body x >>= λ r. found_in bases table offset r.0 r.1.offset) (sym stands) ∙ rw none refl

  pub cie_is : (found : Option Input) (next : Input) → body c ≡ Ok (found, next) → cie_at bases table offset ≡ cie_in bases offset found
  cie_is found next read = ap (λ (x : Input). body x >>= λ b. cie_in bases offset b.0) (sym stands) ∙ rw read refl

  module _ (b next : Input) (read : body c ≡ Ok (Some b, next)) where
    pub no_entry : (e : Fault) → entry_in bases table offset b ≡ Err e → entry_at bases table offset ≡ Err e
    unfolding entry_at
    no_entry e fault = ap (λ (x : Input). body x >>= λ r. found_in bases table offset r.0 r.1.offset) (sym stands) ∙ rw (read, fault) refl

    pub whole_entry : (entry : Entry) → entry_in bases table offset b ≡ Ok entry → entry_at bases table offset ≡ Ok (Some (record { entry = entry; next = next.offset }))
    unfolding entry_at
    whole_entry entry found = ap (λ (x : Input). body x >>= λ r. found_in bases table offset r.0 r.1.offset) (sym stands) ∙ rw (read, found) refl

-- a body is a common information entry's
module _ (bases : Bases) (table : Input) (offset : ℕ) (b rest : Input) (read : number w32 b ≡ Ok (0, rest)) where
  pub no_common : (e : Fault) → cie_body bases offset rest ≡ Err e → entry_in bases table offset b ≡ Err e
  no_common e fault = rw (read, fault) refl

  pub whole_common : (cie : Cie) → cie_body bases offset rest ≡ Ok cie → entry_in bases table offset b ≡ Ok (ACie cie)
  whole_common cie found = rw (read, found) refl

-- a distance leads out of the table
pub no_place : (bases : Bases) (table : Input) (offset : ℕ) (b rest : Input) (id : ℕ) → number w32 b ≡ Ok (id, rest) → (id ≡ 0 → ⊥) → b.offset < id → entry_in bases table offset b ≡ Err NotCie
no_place bases table offset b rest id read other out = rw (read, ne_eqb id 0 other, lt-ltb b.offset id out) refl

-- a body names a common information entry
module _ (bases : Bases) (table : Input) (offset : ℕ) (b rest : Input) (id place : ℕ) (read : number w32 b ≡ Ok (id, rest)) (other : id ≡ 0 → ⊥) (stands : place ≡ b.offset) (within : id ≤ place) where
  pub no_cie : (e : Fault) → cie_at bases table (place - id) ≡ Err e → entry_in bases table offset b ≡ Err e
  no_cie e fault = rw (read, ne_eqb id 0 other, ← stands, le-ltb place id within, fault) refl

  pub is_naming : entry_in bases table offset b ≡ naming bases table (place - id) offset rest
  is_naming = rw (read, ne_eqb id 0 other, ← stands, le-ltb place id within) refl

  module _ (cie : Cie) (found : cie_at bases table (place - id) ≡ Ok cie) where
    pub no_fde : (e : Fault) → fde_body bases cie offset rest ≡ Err e → entry_in bases table offset b ≡ Err e
    no_fde e fault = rw (read, ne_eqb id 0 other, ← stands, le-ltb place id within, found, fault) refl

    pub whole_fde : (fde : Fde) → fde_body bases cie offset rest ≡ Ok fde → entry_in bases table offset b ≡ Ok (AFde fde)
    whole_fde fde whole = rw (read, ne_eqb id 0 other, ← stands, le-ltb place id within, found, whole) refl

-- a description that is found with its end, without it
described : (next : ℕ) (given : Result Entry Fault) → ((given >>= λ e. Ok (Some (record { entry = e; next = next }))) >>= λ found. fde_in found) ≡ (given >>= λ e. description e)
described next (Err e) = refl
described next (Ok (ACie cie)) = refl
described next (Ok (AFde fde)) = refl

-- an offset is within the table
pub within_table : (bases : Bases) (table : Input) (offset : ℕ) → offset ≤ length table.bytes → fde_at bases table offset ≡ (entry_at bases table offset >>= λ found. fde_in found)
within_table bases table offset within = rw (le-ltb (length table.bytes) offset within) refl

-- a description is what its body says, and there is none without
module _ (bases : Bases) (table : Input) (offset : ℕ) (c : Input) (stands : c ≡ skip offset table) where
  pub by_fault : (e : Fault) → body c ≡ Err e → (entry_at bases table offset >>= λ found. fde_in found) ≡ Err e
  by_fault e fault = rw (no_body bases table offset c stands e fault) refl

  pub by_none : (next : Input) → body c ≡ Ok (None, next) → (entry_at bases table offset >>= λ found. fde_in found) ≡ Err NotFde
  by_none next none = rw (no_more bases table offset c stands next none) refl

  pub by_body : (b next : Input) → body c ≡ Ok (Some b, next) → (entry_at bases table offset >>= λ found. fde_in found) ≡ description_in bases table offset b
  unfolding entry_at
  by_body b next read = ap (λ (x : Input). (body x >>= λ r. found_in bases table offset r.0 r.1.offset) >>= λ found. fde_in found) (sym stands) ∙ rw read (described next.offset (entry_in bases table offset b))

-- a description that is read by its common information entry, where it contains an address
kept : (pc : ℕ) (given : Result Fde Fault) → ((given >>= λ fde. Ok (AFde fde)) >>= λ e. Ok (covering pc e)) ≡ (given >>= λ fde. Ok (covering pc (AFde fde)))
kept pc (Err e) = refl
kept pc (Ok fde) = refl

pub covering_by_cie : (bases : Bases) (table : Input) (offset : ℕ) (b rest : Input) (id place : ℕ) → number w32 b ≡ Ok (id, rest) → (id ≡ 0 → ⊥) → place ≡ b.offset → id ≤ place → (pc : ℕ) (cie : Cie) → cie_at bases table (place - id) ≡ Ok cie → covering_in bases table offset b pc ≡ covering_body bases cie offset rest pc
covering_by_cie bases table offset b rest id place read other stands within pc cie found = rw (read, ne_eqb id 0 other, ← stands, le-ltb place id within, found) (kept pc (fde_body bases cie offset rest))
