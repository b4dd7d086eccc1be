-- Finding inside one module, whose text and one of whose tables lie at known addresses.
use Rattle.std.specs.Prelude.{◌≡◌, ℕ, Bool, ◌&&◌, List, Option, Some, None, nat_le, nat_lt, if◌then◌else◌}
use Rattle.memory_image.specs.Image.{Span}
use Rattle.unwind_definitions.specs.HeaderSearch.{SearchTakes}
use Rattle.fde_finders.specs.Finding.{FoundFde, relative_to, found_in_text}
use Rattle.fde_finders.specs.HeaderFinding.{found_by_header, pairs_by_header}

-- where a module's text begins and ends, and where its table lies
pub record Placed : Type 0 where
  pub start : ℕ
  pub end : ℕ
  pub table : ℕ

abbrev pub in_text : Placed → ℕ → Bool
in_text p pc = nat_le p.start pc && nat_lt pc p.end

-- by a scan of the frame table
abbrev pub found_placed : Placed → List Span → ℕ → Option FoundFde
found_placed p image pc = if in_text p pc then found_in_text (Some p.start) image p.table pc else None

-- by the header
abbrev pub found_by_placed_header : Placed → List Span → ℕ → Option FoundFde
found_by_placed_header p image pc = if in_text p pc then found_by_header (relative_to (Some p.start) None) image p.table pc else None

abbrev pub pairs_by_placed_header : Placed → List Span → ℕ → ℕ
pairs_by_placed_header p image pc = if in_text p pc then pairs_by_header (relative_to (Some p.start) None) image p.table else 0

abbrev pub FindsPlaced : Placed → List Span → ℕ → Option FoundFde → ℕ → Type 0
FindsPlaced p image pc answer ticks = (answer ≡ found_placed p image pc) × (ticks ≡ 0)

abbrev pub FindsByPlacedHeader : Placed → List Span → ℕ → Option FoundFde → ℕ → Type 0
FindsByPlacedHeader p image pc answer ticks = (answer ≡ found_by_placed_header p image pc) × SearchTakes (pairs_by_placed_header p image pc) ticks
