-- Finding by a table that is named.
use Rattle.std.specs.Prelude.{◌≡◌, ℕ, List, Option, Some, None}
use Rattle.memory_image.specs.Image.{Span}
use Rattle.unwind_definitions.specs.HeaderSearch.{SearchTakes}
use Rattle.fde_finders.specs.declared.custom.FrameInfo.{FrameInfo}
use Rattle.fde_finders.specs.declared.custom.FrameInfoKind.{FrameInfoKind}
use Rattle.fde_finders.specs.declared.custom.FrameInfoKind.TheVariants.{EhFrame, EhFrameHdr}
use Rattle.fde_finders.specs.Finding.{FoundFde, relative_to, found_in_text}
use Rattle.fde_finders.specs.HeaderFinding.{found_by_header, pairs_by_header}

-- by a frame table, or by a header
abbrev pub found_by_kind : Option ℕ → FrameInfoKind → List Span → ℕ → Option FoundFde
found_by_kind text (EhFrame frame) image pc = found_in_text text image frame pc
found_by_kind text (EhFrameHdr header) image pc = found_by_header (relative_to text None) image header pc

-- how many pairs of a header's table are searched: none without one
abbrev pub pairs_by_kind : Option ℕ → FrameInfoKind → List Span → ℕ
pairs_by_kind text (EhFrame frame) image = 0
pairs_by_kind text (EhFrameHdr header) image = pairs_by_header (relative_to text None) image header

-- by the table that a module names, of either kind
abbrev pub found_by : FrameInfo → List Span → ℕ → Option FoundFde
found_by info image pc = found_by_kind info.text_base info.kind image pc

abbrev pub pairs_by : FrameInfo → List Span → ℕ
pairs_by info image = pairs_by_kind info.text_base info.kind image

-- by the tables that are named, if any are
abbrev pub found_named : Option FrameInfo → List Span → ℕ → Option FoundFde
found_named None image pc = None
found_named (Some info) image pc = found_by info image pc

abbrev pub pairs_named : Option FrameInfo → List Span → ℕ
pairs_named None image = 0
pairs_named (Some info) image = pairs_by info image

-- What is found by what may name the tables, where that is set: nothing without it. Steps are counted in a search of a
-- header's table alone.
abbrev pub FindsBy : {E : Type 0} → (E → ℕ → Option FrameInfo → Type 0) → Option E → List Span → ℕ → Option FoundFde → ℕ → Type 0
FindsBy names None image pc answer ticks = (answer ≡ None) × (ticks ≡ 0)
FindsBy names (Some e) image pc answer ticks = (info : Option FrameInfo) × names e pc info × (answer ≡ found_named info image pc) × SearchTakes (pairs_named info image) ticks
