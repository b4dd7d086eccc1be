-- The search for the record whose extent may hold an address.
use Rattle.std.specs.Prelude.{◌≡◌, ℕ, ◌+◌, ◌<◌, ◌≤◌, List, map, Option, Some, None, slice_get}
use Rattle.std.specs.Option.{option_and_then}
use Rattle.memory_image.specs.Halving.{boundary_of}

-- The record starts at or below the address, and the next one, where there is one, starts above it.
-- In an ascending list one record alone is such a boundary; in a list out of order several may be.
pub record IsBoundary {T : Type 0} (start : T → ℕ) (records : List T) (address : ℕ) (found : T) : Type 0 where
  pub index : ℕ
  pub at : slice_get records index ≡ Some found
  pub below : start found ≤ address
  pub above : (next : T) → slice_get records (index + 1) ≡ Some next → address < start next

-- The first record, where there is one, starts above the address.
abbrev pub StartsAbove : {T : Type 0} → (T → ℕ) → List T → ℕ → Type 0
StartsAbove start records address = (first : _) → slice_get records 0 ≡ Some first → address < start first

-- what a search may answer: a boundary, or none where the first record starts above the address
abbrev pub IsSearched : {T : Type 0} → (T → ℕ) → List T → ℕ → Option T → Type 0
IsSearched start records address None = StartsAbove start records address
IsSearched start records address (Some found) = IsBoundary start records address found

-- the record that a search by halving answers, also in a list out of order
abbrev pub boundary_in : {T : Type 0} → (T → ℕ) → List T → ℕ → Option T
boundary_in start records address = option_and_then (slice_get records) (boundary_of (map start records) address)

-- starts ascend, perhaps with equal ones
abbrev pub IsAscending : {T : Type 0} → (T → ℕ) → List T → Type 0
IsAscending start records = (i j : ℕ) (a b : _) → i ≤ j → slice_get records i ≡ Some a → slice_get records j ≡ Some b → start a ≤ start b
