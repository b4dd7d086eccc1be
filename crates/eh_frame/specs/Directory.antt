-- A directory of ascending addresses: which of them a search looks at, for each stretch of addresses. No public clause cites this.
use Rattle.std.specs.Prelude.{ℕ, ◌+◌, ◌*◌, ◌^◌, ◌<◌, ◌≤◌, List, length, slice_index, slice_index_or}
use Rattle.eh_frame.specs.declared.starts.Bounds.{Bounds}

-- so many at the head are before an address
abbrev pub AreBefore : List ℕ → ℕ → ℕ → Type 0
AreBefore starts count a = (i : ℕ) → i < count → slice_index starts i < a

-- for each address from one to before another a search looks only at those between bounds, of which the first
-- is at or before it, unless none stands before them
pub record AreBoundsOf (starts : List ℕ) (from to : ℕ) (w : Bounds) : Type 0 where
  pub within : w.high ≤ length starts
  pub reached : 0 < w.low → slice_index starts w.low ≤ from
  pub after : w.high < length starts → to ≤ slice_index starts w.high

-- the same for one address
pub record AreBoundsAt (starts : List ℕ) (pc : ℕ) (w : Bounds) : Type 0 where
  pub within : w.high ≤ length starts
  pub reached : 0 < w.low → slice_index starts w.low ≤ pc
  pub after : w.high < length starts → pc < slice_index starts w.high

-- a directory has stretches, one after another, each as long as a power of two
pub record IsDirectory (starts : List ℕ) (first digits : ℕ) (directory : List Bounds) : Type 0 where
  pub few : digits < 64
  pub each : (b : ℕ) (w : Bounds) → b < length directory → AreBoundsOf starts (first + b * 2 ^ digits) (first + (b + 1) * 2 ^ digits) (slice_index_or directory b w)
