-- The ranges of functions, by ascending address.
use Rattle.std.specs.Prelude.{ℕ, zero, suc, ◌<◌, ◌≤◌, List, [], ◌∷◌, map}
use Rattle.unwind_definitions.specs.Function.{AreWithin, Function, Range}

abbrev pub extent_of : Function → Range
extent_of f = record { from = f.start; to = f.end }

abbrev pub extents_of : List Function → List Range
extents_of functions = map extent_of functions

-- a range isn't empty, and lies inside low to high
abbrev pub IsWithin : ℕ → ℕ → Range → Type 0
IsWithin low high r = (low ≤ r.from) × (r.from < r.to) × (r.to ≤ high)

-- ranges ascend and share no address, inside low to high, up to the one at an index, which doesn't so
abbrev pub LeavesFirst : ℕ → ℕ → List Range → ℕ → Type 0
LeavesFirst low high [] i = ⊥
LeavesFirst low high (r ∷ ranges) zero = IsWithin low high r → ⊥
LeavesFirst low high (r ∷ ranges) (suc i) = IsWithin low high r × LeavesFirst r.to high ranges i

-- functions ascend and share no address
pub record AreInOrder (functions : List Function) : Type 0 where
  pub low : ℕ
  pub high : ℕ
  pub within : AreWithin low high (extents_of functions)
