-- What the first bytes of a core file say of all of it: which threads it has, where its memory lies, which files were mapped, and
-- how long it has to be. For that these bytes need the ELF header, the program headers and the notes.
use Rattle.std.specs.Prelude.{◌≡◌, ℕ, ◌+◌, ◌*◌, ◌^◌, ◌<◌, ◌≤◌, ◌==◌, ◌&&◌, Bool, true, false, List, [], ◌∷◌, length, take, drop, map, max, Option, Some, None, Ok, Err, IsOk, nat_le, nat_lt, if◌then◌else◌}
use Rattle.std.specs.Option.{option_and_then}
use Rattle.std.specs.List.{filter_map}
use Rattle.memory_image.specs.Image.{Span}
use Rattle.unwind_arch.specs.declared.x86_64.Context.{Context}
use Rattle.core_file.specs.declared.errors.CoreError.TheVariants.{Segments}
use Rattle.core_file.specs.declared.places.SegmentPlace.{SegmentPlace}
use Rattle.core_file.specs.declared.program_header.ProgramHeader.{ProgramHeader}
use Rattle.core_file.specs.ElfHeader.{has_core_header, header_count, headers_offset, header_size, program_header_size, PN_XNUM}
use Rattle.core_file.specs.ProgramHeaders.{PT_LOAD, PT_NOTE, has_memory, headers_of, headers_fit, program_headers}
use Rattle.core_file.specs.CoreValue.{core_of, threads_in, notes_are_whole}
use Rattle.core_file.specs.MappedParts.{PartValue, mapped_parts, parts_by_notes}

-- the segment that lies there, of a file's bytes
abbrev pub segment_by : List ℕ → SegmentPlace → Span
segment_by bytes p = record { start = p.address; bytes = take p.size (drop p.offset bytes) }

-- What a front says: the threads, where the memory lies, which files were mapped, and how long the file has to be.
pub record FrontValue : Type 0 where
  pub threads : List Context
  pub places : List SegmentPlace
  pub parts : Option (List PartValue)
  pub end : ℕ

-- A file that begins with these bytes, and is long enough, is a core file that holds this; and a shorter one isn't one.
pub record IsFrontOf (front : List ℕ) (value : FrontValue) : Type 0 where
  pub core : (bytes : List ℕ) → take (length front) bytes ≡ front → value.end ≤ length bytes
      → core_of bytes ≡ Ok (record { segments = map (segment_by bytes) value.places; threads = value.threads })
  pub parts : (bytes : List ℕ) → take (length front) bytes ≡ front → value.end ≤ length bytes → mapped_parts bytes ≡ value.parts
  pub short : (bytes : List ℕ) → take (length front) bytes ≡ front → length bytes < value.end → core_of bytes ≡ Err Segments

-- The bytes are those of a core file, of fewer than 2^64 bytes, that begins with these.
pub record IsCoreWithFront (front bytes : List ℕ) : Type 0 where
  pub core : IsOk (core_of bytes)
  pub begins : take (length front) bytes ≡ front
  pub few : length bytes < 2 ^ 64

-- ---- the segments of program headers

-- where a segment of memory lies of which the file has bytes
abbrev pub place_in : ProgramHeader → Option SegmentPlace
place_in h = if has_memory h then Some (record { address = h.p_vaddr; offset = h.p_offset; size = h.p_filesz }) else None

abbrev pub places_in : List ProgramHeader → List SegmentPlace
places_in hs = filter_map place_in hs

-- where a segment of this type ends in the file, and 0 for one of another type
abbrev pub end_of : ℕ → ProgramHeader → ℕ
end_of kind h = if h.p_type == kind then h.p_offset + h.p_filesz else 0

-- where those of this type end in the file: the greatest end
abbrev pub last_end : ℕ → List ProgramHeader → ℕ
last_end kind [] = 0
last_end kind (h ∷ hs) = max (end_of kind h) (last_end kind hs)

-- how long a file has to be for its segments of memory and of notes
abbrev pub segments_end : List ProgramHeader → ℕ
segments_end hs = max (last_end PT_LOAD hs) (last_end PT_NOTE hs)

-- ---- all of it

-- the header is that of a core file, and the number of program headers stands in it
abbrev pub is_counted : List ℕ → Bool
is_counted front = if has_core_header front then (if header_count front == PN_XNUM then false else true) else false

-- the notes lie within the front and are whole, and all ends are numbers of 64 bits
abbrev pub has_notes : List ℕ → List ProgramHeader → Bool
has_notes front hs = nat_lt (segments_end hs) (2 ^ 64) && nat_le (last_end PT_NOTE hs) (length front) && notes_are_whole front hs

-- what a front says with these program headers, where the file's segments end there
abbrev pub front_to : List ℕ → List ProgramHeader → ℕ → FrontValue
front_to front hs end = record { threads = threads_in front hs; places = places_in hs; parts = parts_by_notes front hs; end = end }

abbrev pub front_by : List ℕ → List ProgramHeader → Option FrontValue
front_by front hs = if has_notes front hs then Some (front_to front hs (segments_end hs)) else None

-- what a front says that has the header, the program headers and the notes
unfoldable pub front_of : List ℕ → Option FrontValue
front_of front = if is_counted front then option_and_then (front_by front) (program_headers front) else None

-- ---- how long a front has to be

abbrev pub headers_end : List ℕ → ℕ
headers_end bytes = headers_offset bytes + header_count bytes * program_header_size

-- where the notes end, as far as these bytes say it: 0 where they don't have the program headers
abbrev pub notes_end : List ℕ → ℕ
notes_end bytes = if headers_fit bytes then last_end PT_NOTE (headers_of bytes) else 0

-- up to where the ELF header, the program headers and the notes go
unfoldable pub front_end : List ℕ → ℕ
front_end bytes = max header_size (max (headers_end bytes) (notes_end bytes))

-- a number of 64 bits, where it is one
abbrev pub fitting : ℕ → Option ℕ
fitting n = if nat_lt n (2 ^ 64) then Some n else None

-- the same where these bytes begin with the header of a core file
abbrev pub front_size : List ℕ → Option ℕ
front_size bytes = if is_counted bytes then fitting (front_end bytes) else None
