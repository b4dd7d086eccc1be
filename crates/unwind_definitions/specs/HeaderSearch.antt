-- What a search of a header's table may find for an address, whatever the table's bytes are.
-- LSB, section on the .eh_frame_hdr section: the pairs ascend, so that a search may halve.
use Rattle.std.specs.Prelude.{◌≡◌, ℕ, zero, suc, ◌+◌, ◌-◌, ◌/◌, ◌^◌, ◌<◌, ◌≤◌, Bool, true, false, length, Option, Some, None, Result, Ok, Err, nat_lt, nat_le, if◌then◌else◌}
use Rattle.memory_image.specs.Halving.{place_before}
use Rattle.unwind_definitions.specs.Faults.{Fault, UnexpectedEof, NotFde, NoUnwindInfoForAddress, ◌>>=◌}
use Rattle.unwind_definitions.specs.Input.{Input}
use Rattle.unwind_definitions.specs.Pointers.{Bases}
use Rattle.unwind_definitions.specs.Entries.{Fde, Entry, ACie, AFde, Found, entry_at}
use Rattle.unwind_definitions.specs.Row.{covers_pc}
use Rattle.unwind_definitions.specs.Header.{PairTable, pair_at}

-- ---- boundaries

-- the pair at an index can be read, and starts after an address
abbrev pub StartsAfter : PairTable → ℕ → ℕ → Type 0
StartsAfter t pc i = (p : ℕ × ℕ) × (pair_at t i ≡ Ok p) × (pc < p.0)

-- a pair starts at or before an address, and the next one, if there is one, after it
pub record IsBoundary (t : PairTable) (pc : ℕ) (p : ℕ × ℕ) : Type 0 where
  pub index : ℕ
  pub within : index < t.count
  pub reads : pair_at t index ≡ Ok p
  pub at_or_before : p.0 ≤ pc
  pub next_after : index + 1 < t.count → StartsAfter t pc (index + 1)

-- there is no pair, or the first one starts after an address
abbrev pub StartsAbove : PairTable → ℕ → Type 0
StartsAbove t pc = 0 < t.count → StartsAfter t pc 0

-- a pair can't be read
abbrev pub IsUnreadablePair : PairTable → Fault → Type 0
IsUnreadablePair t e = (i : ℕ) × (i < t.count) × (pair_at t i ≡ Err e)

-- A search finds a boundary; none, only where the table starts above the address; or the fault of a pair. Where the pairs
-- ascend there is one boundary at most, and of equal starts the last one is it.
abbrev pub Finds : PairTable → ℕ → Result (Option (ℕ × ℕ)) Fault → Type 0
Finds t pc (Ok (Some p)) = IsBoundary t pc p
Finds t pc (Ok None) = StartsAbove t pc
Finds t pc (Err e) = IsUnreadablePair t e

-- ---- the search by halving

-- Halving, as in a list of keys, by a test that may fault: at the first fault it ends.
unfoldable pub halved_or : ℕ → (ℕ → Result Bool Fault) → ℕ → ℕ → Result ℕ Fault
halved_or zero test low high = Ok low
halved_or (suc turns) test low high =
    if nat_lt low high then (test (low + (high - low) / 2) >>= λ holds. if holds then halved_or turns test (low + (high - low) / 2 + 1) high else halved_or turns test low (low + (high - low) / 2))
    else Ok low

-- whether the pair at an index starts at or before an address
abbrev pub starts_by : PairTable → ℕ → ℕ → Result Bool Fault
starts_by t pc i = pair_at t i >>= λ p. Ok (nat_le p.0 pc)

-- the pair at an index, if there is one
abbrev pub pair_of_place : PairTable → Option ℕ → Result (Option (ℕ × ℕ)) Fault
pair_of_place t None = Ok None
pair_of_place t (Some i) = pair_at t i >>= λ p. Ok (Some p)

-- The pair that halving answers: in a table whose starts ascend, the last one at or before an address. A pair on the way
-- that can't be read is a fault.
unfoldable pub boundary_in : PairTable → ℕ → Result (Option (ℕ × ℕ)) Fault
boundary_in t pc = halved_or t.count (starts_by t pc) 0 t.count >>= λ place. pair_of_place t (place_before place)

-- A search among so many takes so many steps: one at least where there is something to search, and no more than there are binary
-- digits in their number.
pub record SearchTakes (count taken : ℕ) : Type 0 where
  pub some : 0 < count → 0 < taken
  pub digits : (digits : ℕ) → count < 2 ^ digits → taken ≤ digits

-- ---- descriptions

-- an entry, where it is a description
abbrev pub fde_in : Option Found → Result Fde Fault
fde_in None = Err NotFde
fde_in (Some found) = described found.entry
  where
    described : Entry → Result Fde Fault
    described (ACie cie) = Err NotFde
    described (AFde fde) = Ok fde

-- a description, where it contains an address
abbrev pub containing : ℕ → Fde → Result Fde Fault
containing pc fde = if covers_pc fde pc then Ok fde else Err NoUnwindInfoForAddress

module _ (bases : Bases) (frame : Input) where
  -- the description at an offset of a frame table
  abbrev pub fde_at : ℕ → Result Fde Fault
  fde_at offset = if nat_lt (length frame.bytes) offset then Err UnexpectedEof else (entry_at bases frame offset >>= λ found. fde_in found)

  -- the same at an address, which isn't below the table's
  abbrev pub fde_at_address : ℕ → Result Fde Fault
  fde_at_address a = if nat_lt a frame.base then Err UnexpectedEof else fde_at (a - frame.base)

  -- what follows from what a search found: the description that a boundary names, where it contains the address
  abbrev pub found_by : ℕ → Result (Option (ℕ × ℕ)) Fault → Result Fde Fault
  found_by pc (Err e) = Err e
  found_by pc (Ok None) = Err NoUnwindInfoForAddress
  found_by pc (Ok (Some p)) = fde_at_address p.1 >>= λ fde. containing pc fde

  -- what a table answers for an address
  abbrev pub table_answer : PairTable → ℕ → Result Fde Fault
  table_answer t pc = found_by pc (boundary_in t pc)

  -- what the table may answer for an address
  pub record IsTableAnswer (t : PairTable) (pc : ℕ) (answer : Result Fde Fault) : Type 0 where
    pub place : Result (Option (ℕ × ℕ)) Fault
    pub finds : Finds t pc place
    pub is : answer ≡ found_by pc place

  -- ---- an answer, in words

  -- a boundary names a description that contains the address
  pub record IsNamed (t : PairTable) (pc : ℕ) (fde : Fde) : Type 0 where
    pub place : ℕ × ℕ
    pub boundary : IsBoundary t pc place
    pub stands : fde_at_address place.1 ≡ Ok fde
    pub contains : covers_pc fde pc ≡ true

  -- a boundary names a description that doesn't contain the address
  pub record IsNamedElsewhere (t : PairTable) (pc : ℕ) : Type 0 where
    pub place : ℕ × ℕ
    pub boundary : IsBoundary t pc place
    pub fde : Fde
    pub stands : fde_at_address place.1 ≡ Ok fde
    pub misses : covers_pc fde pc ≡ false

  -- what a boundary names can't be read, or is no description
  pub record IsUnreadableNamed (t : PairTable) (pc : ℕ) (e : Fault) : Type 0 where
    pub place : ℕ × ℕ
    pub boundary : IsBoundary t pc place
    pub unread : fde_at_address place.1 ≡ Err e
