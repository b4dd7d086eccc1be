-- Windows of a core's segments, over which its threads are walked in place of the segments.
use Rattle.std.specs.Prelude.{◌≡◌, ℕ, List, [], length, Some, None, slice_get}
use Rattle.std.specs.List.{AllByRecursion}
use Rattle.memory_image.specs.Image.{Span, lowest_overlap}
use Rattle.mapped_modules.specs.Loading.{LoadedValue}
use Rattle.mapped_modules.specs.Spaces.{tables_of, with_regions}
use Rattle.part_walks.specs.Parts.{IsWithin}

-- the image of the modules' tables alone
abbrev pub image_of_tables : List LoadedValue → List Span
image_of_tables loaded = with_regions [] (tables_of loaded)

-- it lies within a segment that shares no address with the tables
pub record IsWindowOf (tables segments : List Span) (window : Span) : Type 0 where
  pub place : ℕ
  pub segment : Span
  pub among : slice_get segments place ≡ Some segment
  pub apart : lowest_overlap tables segment.start (length segment.bytes) ≡ None
  pub within : IsWithin window segment

abbrev pub AreWindowsOf : List Span → List Span → List Span → Type 0
AreWindowsOf tables segments windows = AllByRecursion (IsWindowOf tables segments) windows
