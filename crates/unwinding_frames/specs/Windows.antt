-- A place of an image that was looked up. No public clause cites this.
use Rattle.std.specs.Prelude.{◌≡◌, ℕ, ◌+◌, ◌-◌, ◌<◌, ◌≤◌, List, length, drop}
use Rattle.memory_image.specs.Image.{Span, IsLaidOut, table_at}

-- The bytes from an address to the end of its region, and at how many places from there on a whole word stands.
pub record IsWindow (image : List Span) (start : ℕ) (bytes : List ℕ) (places : ℕ) : Type 0 where
  pub laid_out : IsLaidOut 0 image
  pub held : bytes ≡ table_at image start
  pub whole : places ≤ length bytes - 7

-- Bytes from an address on: each of them, with those after it, is what stands there to the end of the region.
abbrev pub AreKeptBytes : List Span → ℕ → List ℕ → Type 0
AreKeptBytes image start bytes = (k : ℕ) → k < length bytes → table_at image (start + k) ≡ drop k bytes
