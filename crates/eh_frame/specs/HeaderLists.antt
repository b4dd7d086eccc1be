-- What the table of a header lists: one pair for each description, of its function's start and of its own address.
-- LSB, section on the .eh_frame_hdr section.
use Rattle.std.specs.Prelude.{◌≡◌, ℕ, ◌<◌, List, length, slice_index_or, Ok}
use Rattle.unwind_definitions.specs.Entries.{Fde}
use Rattle.unwind_definitions.specs.Header.{PairTable, pair_at}
use Rattle.unwind_definitions.specs.Module.{pair_of}

-- exactly these descriptions of the frame table at an address, in this order
pub record ListsEach (t : PairTable) (frame : ℕ) (fdes : List Fde) : Type 0 where
  pub as_many : t.count ≡ length fdes
  pub each : (i : ℕ) (d : Fde) → i < length fdes → pair_at t i ≡ Ok (pair_of frame (slice_index_or fdes i d))
