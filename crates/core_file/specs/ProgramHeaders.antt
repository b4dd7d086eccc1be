-- The program headers: which parts of the file are which segments. System V gABI, chapter "Program Loading and Dynamic
-- Linking", part "Program Header", in its form of 64 bits.
use Rattle.std.specs.Prelude.{ℕ, ◌+◌, ◌*◌, ◌==◌, ◌&&◌, ◌||◌, Bool, true, List, length, take, drop, Option, Some, None, nat_le, nat_lt, if◌then◌else◌}
use Rattle.std.specs.List.{list_all, filter_map}
use Rattle.memory_image.specs.Image.{Span}
use Rattle.memory_image.specs.Records.{records_in}
use Rattle.memory_image.specs.Words.{u32_at, u64_at}
use Rattle.core_file.specs.declared.program_header.ProgramHeader.{ProgramHeader}
use Rattle.core_file.specs.ElfHeader.{program_header_size, headers_offset, header_count}

-- the type of a segment that is memory, and that of one that is notes
abbrev pub PT_LOAD : ℕ
PT_LOAD = 1

abbrev pub PT_NOTE : ℕ
PT_NOTE = 4

-- the program header that 56 bytes spell: p_type, p_flags, p_offset, p_vaddr, p_paddr, p_filesz, p_memsz and p_align
abbrev pub program_header_of : List ℕ → ProgramHeader
program_header_of bytes = record {
  p_type = u32_at bytes 0;
  p_flags = u32_at bytes 4;
  p_offset = u64_at bytes 8;
  p_vaddr = u64_at bytes 16;
  p_paddr = u64_at bytes 24;
  p_filesz = u64_at bytes 32;
  p_memsz = u64_at bytes 40;
  p_align = u64_at bytes 48;
}

-- the program headers of a file, and whether they lie within it
abbrev pub headers_of : List ℕ → List ProgramHeader
headers_of bytes = records_in program_header_size program_header_of (drop (headers_offset bytes) bytes) (header_count bytes)

abbrev pub headers_fit : List ℕ → Bool
headers_fit bytes = nat_le (headers_offset bytes + header_count bytes * program_header_size) (length bytes)

-- the program headers, where that is so
abbrev pub program_headers : List ℕ → Option (List ProgramHeader)
program_headers bytes = if headers_fit bytes then Some (headers_of bytes) else None

-- the part of the file that is a segment's
abbrev pub file_bytes : List ℕ → ProgramHeader → List ℕ
file_bytes bytes h = take h.p_filesz (drop h.p_offset bytes)

-- a segment of memory or of notes lies within a file of this size; segments of other types are passed over
abbrev pub is_within : ℕ → ProgramHeader → Bool
is_within size h = if (h.p_type == PT_LOAD) || (h.p_type == PT_NOTE) then nat_le (h.p_offset + h.p_filesz) size else true

abbrev pub are_within : List ℕ → List ProgramHeader → Bool
are_within bytes hs = list_all (is_within (length bytes)) hs

-- a segment is one of memory, and the file has bytes of it
abbrev pub has_memory : ProgramHeader → Bool
has_memory h = (h.p_type == PT_LOAD) && nat_lt 0 h.p_filesz

-- the memory of such a segment
abbrev pub segment_in : List ℕ → ProgramHeader → Option Span
segment_in bytes h = if has_memory h then Some (record { start = h.p_vaddr; bytes = file_bytes bytes h }) else None

-- the memory that the file has, in the order of the program headers
abbrev pub segments_in : List ℕ → List ProgramHeader → List Span
segments_in bytes hs = filter_map (segment_in bytes) hs
