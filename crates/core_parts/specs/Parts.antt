-- Which parts of a core's memory its threads are walked over.
use Rattle.std.specs.Prelude.{◌≡◌, ℕ, ◌+◌, ◌-◌, ◌^◌, ◌≤◌, ◌&&◌, ◌||◌, Bool, true, List, [], ◌∷◌, ◌++◌, Option, Some, None, min, slice_get, slice_index, IsTrue, nat_le, nat_lt, if◌then◌else◌}
use Rattle.std.specs.List.{list_any}
use Rattle.std.specs.Option.{option_and_then}
use Rattle.memory_image.specs.Image.{Span, end_of}
use Rattle.unwind_definitions.specs.Columns as column
use Rattle.unwind_arch.specs.declared.x86_64.Context.{Context}
use Rattle.core_file.specs.declared.places.SegmentPlace.{SegmentPlace}
use Rattle.core_file.specs.Fronts.{FrontValue}
use Rattle.mapped_modules.specs.Loading.{LoadedValue}
use Rattle.mapped_modules.specs.Places.{first_such}
use Rattle.mapped_modules.specs.Spaces.{codes_of, tables_of}
use Rattle.part_walks.specs.Parts.{HaveTables}
use Rattle.part_walks.specs.Windows.{image_of_tables}

-- the address after the last of a segment
abbrev pub end_at : SegmentPlace → ℕ
end_at p = p.address + p.size

abbrev pub has_address : ℕ → SegmentPlace → Bool
has_address a p = nat_le p.address a && nat_lt a (end_at p)

-- ---- segments

-- a segment that isn't empty lies from low on, not past the highest address, and within the file's first bytes
abbrev pub is_laid_out : ℕ → ℕ → SegmentPlace → Bool
is_laid_out size low p = nat_lt 0 p.size && nat_le (p.offset + p.size) size && nat_le low p.address && nat_lt (end_at p) (2 ^ 64)

-- each of these does, from the end of the one before on
abbrev pub are_laid_out : ℕ → ℕ → List SegmentPlace → Bool
are_laid_out size low [] = true
are_laid_out size low (p ∷ ps) = is_laid_out size low p && are_laid_out size (end_at p) ps

-- The segments of a core ascend and share no address, and the frame table of each module is found in its file.
pub record CanBeWalkedByParts (front : FrontValue) (loaded : List LoadedValue) : Type 0 where
  pub laid_out : IsTrue (are_laid_out front.end 0 front.places)
  pub tables : HaveTables (image_of_tables loaded) (codes_of loaded)

-- ---- parts of them

-- a segment lies before a region or after it
abbrev pub is_beside : SegmentPlace → Span → Bool
is_beside p t = nat_le (end_of t) p.address || nat_le (end_at p) t.start

-- it shares no address with the segments of files that have the modules' tables
abbrev pub is_apart : SegmentPlace → List Span → Bool
is_apart p [] = true
is_apart p (t ∷ ts) = is_beside p t && is_apart p ts

-- a part of a segment, from so many of its bytes on
pub record LiesIn (part place : SegmentPlace) : Type 0 where
  pub skip : ℕ
  pub address : part.address ≡ place.address + skip
  pub offset : part.offset ≡ place.offset + skip
  pub within : skip + part.size ≤ place.size

-- a part of one of the segments, which shares no address with the tables
pub record IsStackPart (places : List SegmentPlace) (tables : List Span) (part : SegmentPlace) : Type 0 where
  pub place : SegmentPlace
  pub index : ℕ
  pub among : slice_get places index ≡ Some place
  pub apart : IsTrue (is_apart place tables)
  pub lies : LiesIn part place

-- ---- which parts are read for stacks

-- how many bytes below a stack pointer are read
abbrev pub bytes_below : ℕ
bytes_below = 4096

-- how many bytes of a segment lie further below
abbrev pub bytes_before : ℕ → SegmentPlace → ℕ
bytes_before pointer p = min (pointer - p.address - bytes_below) p.size

-- what follows so many bytes of a segment, at most `size` bytes of it
abbrev pub part_after : ℕ → ℕ → SegmentPlace → SegmentPlace
part_after skip size p = record { address = p.address + skip; offset = p.offset + skip; size = min (p.size - skip) size }

-- a part whose address and place in the file are numbers of 64 bits
abbrev pub fitting : SegmentPlace → Option SegmentPlace
fitting p = if nat_lt p.address (2 ^ 64) && nat_lt p.offset (2 ^ 64) then Some p else None

-- the part of a segment for a stack pointer in it
abbrev pub part_from : ℕ → ℕ → SegmentPlace → Option SegmentPlace
part_from pointer size p = fitting (part_after (bytes_before pointer p) size p)

-- the same where the segment shares no address with the tables
abbrev pub apart_from : List Span → ℕ → ℕ → SegmentPlace → Option SegmentPlace
apart_from tables pointer size p = if is_apart p tables then part_from pointer size p else None

-- of the first segment that holds it
abbrev pub stack_part : List SegmentPlace → List Span → ℕ → ℕ → Option SegmentPlace
stack_part places tables pointer size = option_and_then (apart_from tables pointer size) (first_such (has_address pointer) places)

abbrev pub with_part : List SegmentPlace → Option SegmentPlace → List SegmentPlace
with_part parts None = parts
with_part parts (Some p) = parts ++ p ∷ []

-- these parts, and for a stack pointer that none of them holds its own
abbrev pub with_stack : List SegmentPlace → List Span → ℕ → List SegmentPlace → ℕ → List SegmentPlace
with_stack places tables size parts pointer = if list_any (has_address pointer) parts then parts else with_part parts (stack_part places tables pointer size)

abbrev pub stack_pointer : Context → ℕ
stack_pointer c = slice_index c.registers column.rsp

-- the same for each of these threads
abbrev pub with_stacks : List SegmentPlace → List Span → ℕ → List SegmentPlace → List Context → List SegmentPlace
with_stacks places tables size parts [] = parts
with_stacks places tables size parts (c ∷ cs) = with_stacks places tables size (with_stack places tables size parts (stack_pointer c)) cs

-- the parts for the stacks of a core's threads, each of at most `size` bytes
abbrev pub stack_parts : FrontValue → List LoadedValue → ℕ → List SegmentPlace
stack_parts front loaded size = with_stacks front.places (tables_of loaded) size [] front.threads
