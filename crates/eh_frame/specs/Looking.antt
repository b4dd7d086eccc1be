-- Which functions of an index a search for an address looks at. No public clause cites this.
use Rattle.std.specs.Prelude.{ℕ, ◌<◌, ◌≤◌, List, length, slice_index_or}
use Rattle.eh_frame.specs.Index.{Described}
use Rattle.eh_frame.specs.declared.starts.Bounds.{Bounds}

-- One at least lies between the bounds, the first of these starts at or before the address unless none stands before it, and
-- those above them start after it.
pub record Narrows (functions : List Described) (pc : ℕ) (w : Bounds) : Type 0 where
  pub some : w.low < w.high
  pub within : w.high ≤ length functions
  pub reached : (d : Described) → 0 < w.low → (slice_index_or functions w.low d).fde.start ≤ pc
  pub after : (d : Described) → w.high < length functions → pc < (slice_index_or functions w.high d).fde.start
