-- A header that leads to no frame table has no table to search.
use Rattle.std.proofs.Common.{◌≡◌, ℕ, List, Option, Some, None, refl, arith}
use Rattle.std.specs.Option.{option_map}
use Rattle.memory_image.specs.Image.{Span}
use Rattle.unwind_definitions.specs.HeaderSearch.{SearchTakes}
use Rattle.unwind_definitions.specs.Pointers.{Bases}
use Rattle.fde_finders.specs.FrameTables.{FrameTable, led_table, table_by_header}
use Rattle.fde_finders.specs.HeaderFinding.{Led, at_header, led_at, pairs_by_header, pairs_led}

-- nothing is searched
pub none_searched : (count : ℕ) → count ≡ 0 → SearchTakes count 0
none_searched count none = record { some = λ listed. omega arith; digits = λ digits fits. omega arith }

pub unled : (known : Bases) (image : List Span) (h : ℕ) → table_by_header known image h ≡ None → pairs_by_header known image h ≡ 0
unfolding pairs_by_header
unled known image h none = go (led_at known image h) none
  where
    go : (o : Option Led) → option_map (led_table (at_header known h) image) o ≡ None → pairs_led o ≡ 0
    go None e = refl
    go (Some l) e = absurd cc
