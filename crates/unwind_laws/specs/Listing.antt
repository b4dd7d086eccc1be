-- The header of a frame table whose descriptions its table lists.
use Rattle.std.specs.Prelude.{ℕ, List, length}
use Rattle.unwind_definitions.specs.Input.{Input}
use Rattle.unwind_definitions.specs.Pointers.{Bases, Direct}
use Rattle.unwind_definitions.specs.Entries.{Fde}
use Rattle.unwind_definitions.specs.Header.{FrameHeader, bases_in}
use Rattle.unwind_definitions.specs.PointerEncodings.{datarel_sdata4}

-- it leads to the frame table, and has one pair for each description, four signed bytes for each address
abbrev pub listing : ℕ → Bases → ℕ → List Fde → Input → FrameHeader
listing h bases frame fdes listed = record { frame = Direct frame; count = length fdes; encoding = datarel_sdata4; bases = bases_in h bases; pairs = listed }
