-- The header of a perf.data file. Linux's tools/perf/Documentation/perf.data-file-format.txt: the magic number, the size of the
-- header, the size of an attribute, the sections of the attributes and of the records, and more that isn't read here.
use Rattle.std.specs.Prelude.{ℕ, ◌+◌, ◌==◌, ◌&&◌, ◌||◌, Bool, List, [], ◌∷◌, length, take, drop, Option, Some, None, nat_eq, nat_le, if◌then◌else◌}
use Rattle.std.specs.List.{starts_with}
use Rattle.memory_image.specs.Words.{u64_at}

-- "PERFILE2", and the same number in the other byte order
abbrev pub magic : List ℕ
magic = 0x50 ∷ 0x45 ∷ 0x52 ∷ 0x46 ∷ 0x49 ∷ 0x4c ∷ 0x45 ∷ 0x32 ∷ []

abbrev pub foreign_magic : List ℕ
foreign_magic = 0x32 ∷ 0x45 ∷ 0x4c ∷ 0x49 ∷ 0x46 ∷ 0x52 ∷ 0x45 ∷ 0x50 ∷ []

-- the sizes of the header of a file, of that of older files, without the bits of features, and of that of a pipe
abbrev pub header_size : ℕ
header_size = 104

abbrev pub older_header_size : ℕ
older_header_size = 72

abbrev pub pipe_header_size : ℕ
pipe_header_size = 16

abbrev pub own_header_size : List ℕ → ℕ
own_header_size bytes = u64_at bytes 8

-- the number was written by a machine of the other byte order
abbrev pub is_foreign : List ℕ → Bool
is_foreign bytes = starts_with nat_eq bytes foreign_magic

-- the magic number, and a header of this size, all of which is there
abbrev pub has_header_of : ℕ → List ℕ → Bool
has_header_of size bytes = nat_le size (length bytes) && starts_with nat_eq bytes magic && (own_header_size bytes == size)

abbrev pub is_pipe : List ℕ → Bool
is_pipe bytes = has_header_of pipe_header_size bytes

abbrev pub has_file_header : List ℕ → Bool
has_file_header bytes = has_header_of header_size bytes || has_header_of older_header_size bytes

-- the size of an attribute in the file, with the section of its identifiers
abbrev pub attribute_size : List ℕ → ℕ
attribute_size bytes = u64_at bytes 16

-- where the header tells of the attributes' section, and of the records'
abbrev pub attributes_place : ℕ
attributes_place = 24

abbrev pub records_place : ℕ
records_place = 40

-- A section is told by its offset in the file and its size: the offset and the bytes, where they lie within the file.
abbrev pub section_offset : List ℕ → ℕ → ℕ
section_offset bytes place = u64_at bytes place

abbrev pub section_size : List ℕ → ℕ → ℕ
section_size bytes place = u64_at bytes (place + 8)

abbrev pub section : List ℕ → ℕ → Option (ℕ × List ℕ)
section bytes place =
    if nat_le (section_offset bytes place + section_size bytes place) (length bytes) then
    Some (section_offset bytes place, take (section_size bytes place) (drop (section_offset bytes place) bytes))
    else None

-- the section of the records has no size: perf tells it when the recording ends
abbrev pub is_unfinished : List ℕ → Bool
is_unfinished bytes = section_size bytes records_place == 0
