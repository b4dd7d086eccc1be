-- The pairs of a header's table, read one by one. No public clause cites this.
use Rattle.std.specs.Prelude.{◌≡◌, ℕ, suc, ◌<◌, ◌≤◌, true, false, List, length, Option, Some, None, Ok, slice_index_or}
use Rattle.std.specs.List.{AllByRecursion, Contains}
use Rattle.unwind_definitions.specs.Entries.{Fde}
use Rattle.unwind_definitions.specs.Header.{PairTable, pair_at}
use Rattle.unwind_definitions.specs.Module.{StartsAscend, pair_of}
use Rattle.table_check.specs.declared.header_tables.ListedSoFar.{ListedSoFar}

-- a table's pairs, all of which read, and ascend by their starts
pub record AreRead (t : PairTable) (pairs : List (ℕ × ℕ)) : Type 0 where
  pub many : length pairs ≡ t.count
  pub reads : (k : ℕ) (d : ℕ × ℕ) → k < length pairs → pair_at t k ≡ Ok (slice_index_or pairs k d)
  pub ascend : StartsAscend pairs

-- the description's address in the pair with a start, where there is one
abbrev pub IsPlaceIn : List (ℕ × ℕ) → ℕ → Option ℕ → Type 0
IsPlaceIn pairs start None = (place : ℕ) → Contains pairs (start, place) → ⊥
IsPlaceIn pairs start (Some place) = Contains pairs (start, place) × ((other : ℕ) → Contains pairs (start, other) → other ≡ place)

-- each description of a table at an address has its pair
abbrev pub HavePairs : ℕ → List (ℕ × ℕ) → List Fde → Type 0
HavePairs frame pairs fdes = AllByRecursion (λ fde. Contains pairs (pair_of frame fde)) fdes

-- the last of so many pairs has a start, and none starts above it
abbrev pub LastIs : PairTable → ℕ → Option ℕ → List (ℕ × ℕ) → Type 0
LastIs t i None pairs = i ≡ 0
LastIs t i (Some start) pairs = (j : ℕ) × (place : ℕ) × (suc j ≡ i) × (pair_at t j ≡ Ok (start, place)) × AllByRecursion (λ (p : ℕ × ℕ). p.0 ≤ start) pairs

-- the first so many pairs of a table, which read and ascend by their starts, up to the last one's
pub record AreReadSoFar (t : PairTable) (i : ℕ) (last : Option ℕ) : Type 0 where
  pub pairs : List (ℕ × ℕ)
  pub many : length pairs ≡ i
  pub reads : (k : ℕ) (d : ℕ × ℕ) → k < length pairs → pair_at t k ≡ Ok (slice_index_or pairs k d)
  pub ascend : StartsAscend pairs
  pub last_is : LastIs t i last pairs

-- As many pairs as descriptions have been read, and each description has its own. Or not: then one of them has none, or
-- not all pairs read and ascend, unless the table has fewer.
pub record IsListedSoFar (t : PairTable) (frame : ℕ) (fdes : List Fde) (listed : ListedSoFar) : Type 0 where
  pub yes : listed.are_listed ≡ true → AreReadSoFar t (length fdes) listed.last_start × ((read : List (ℕ × ℕ)) → AreRead t read → HavePairs frame read fdes)
  pub no : listed.are_listed ≡ false → length fdes ≤ t.count → (read : List (ℕ × ℕ)) → AreRead t read → HavePairs frame read fdes → ⊥

-- the same of a header's table, which may be none
abbrev pub SaysListed : Option PairTable → ℕ → List Fde → ListedSoFar → Type 0
SaysListed pairs frame fdes listed = (t : PairTable) → pairs ≡ Some t → IsListedSoFar t frame fdes listed

-- there are as many pairs as descriptions, each of which has its own
pub record ListsEach (t : PairTable) (frame : ℕ) (fdes : List Fde) : Type 0 where
  pub count : t.count ≡ length fdes
  pub pairs : List (ℕ × ℕ)
  pub read : AreRead t pairs
  pub each : HavePairs frame pairs fdes

-- the same of a header's table, which may be none
abbrev pub ListsAll : Option PairTable → ℕ → List Fde → Type 0
ListsAll None frame fdes = length fdes ≡ 0
ListsAll (Some t) frame fdes = ListsEach t frame fdes
