-- Which parts of files were mapped: Linux's note NT_FILE (`fill_files_note` of fs/binfmt_elf.c). Its description has words of eight
-- bytes: how many parts there are, the size of a page, and of each part its first address, the address after its last, and how many
-- pages of the file stand before it. The paths follow, each up to a zero byte, in the order of the parts.
use Rattle.std.specs.Prelude.{ℕ, ◌+◌, ◌*◌, ◌%◌, ◌^◌, ◌==◌, ◌&&◌, Bool, List, [], ◌∷◌, length, take, drop, position, Option, Some, None, codes, nat_le, nat_lt, if◌then◌else◌}
use Rattle.std.specs.Option.{option_and_then, option_map, option_or}
use Rattle.std.specs.Str.{bytes_eq}
use Rattle.memory_image.specs.Records.{records_in}
use Rattle.memory_image.specs.Words.{u64_at}
use Rattle.core_file.specs.declared.mapped.PartEntry.{PartEntry}
use Rattle.core_file.specs.declared.program_header.ProgramHeader.{ProgramHeader}
use Rattle.core_file.specs.ElfHeader.{has_core_header}
use Rattle.core_file.specs.Notes.{Note, notes_of}
use Rattle.core_file.specs.ThreadStatus.{name_of}
use Rattle.core_file.specs.CoreValue.{note_bytes, headers_within}

-- a part of a file: its addresses, where it begins in the file, and the file's path
pub record PartValue : Type 0 where
  pub start : ℕ
  pub stop : ℕ
  pub offset : ℕ
  pub path : List ℕ

-- ---- the note

-- the type of a note on the files that were mapped
abbrev pub NT_FILE : ℕ
NT_FILE = 0x46494c45

abbrev pub is_on_files : Note → Bool
is_on_files note = (note.kind == NT_FILE) && bytes_eq (name_of note) (codes "CORE")

-- what the first such note tells
abbrev pub description_in : List Note → Option (List ℕ)
description_in [] = None
description_in (n ∷ ns) = if is_on_files n then Some n.description else description_in ns

-- of the notes of these segments
abbrev pub files_in : List ℕ → List ProgramHeader → Option (List ℕ)
files_in bytes [] = None
files_in bytes (h ∷ hs) = option_or (description_in (notes_of (note_bytes bytes h))) (files_in bytes hs)

-- ---- the parts

-- the words of a part in 24 bytes
abbrev pub part_entry_of : List ℕ → PartEntry
part_entry_of bytes = record { start = u64_at bytes 0; end = u64_at bytes 8; pages = u64_at bytes 16 }

-- the path that bytes begin with, and what stands after its zero byte
abbrev pub path_at : List ℕ → ℕ → List ℕ × List ℕ
path_at paths n = (take n paths, drop (n + 1) paths)

abbrev pub split_path : List ℕ → Option (List ℕ × List ℕ)
split_path paths = option_map (path_at paths) (position (λ b. b == 0) paths)

abbrev pub part_with : ℕ → PartEntry → List ℕ → PartValue
part_with page e path = record { start = e.start; stop = e.end; offset = (e.pages * page) % 2 ^ 64; path = path }

abbrev pub part_then : ℕ → PartEntry → Option (List ℕ × List ℕ) → (List ℕ → List PartValue) → List PartValue
part_then page e None later = []
part_then page e (Some p) later = part_with page e p.0 ∷ later p.1

-- parts with their paths, as many as there are of both
abbrev pub parts_from : ℕ → List PartEntry → List ℕ → List PartValue
parts_from page [] paths = []
parts_from page (e ∷ es) paths = part_then page e (split_path paths) (parts_from page es)

abbrev pub parts_after : List ℕ → ℕ → List PartValue
parts_after d count = parts_from (u64_at d 8) (records_in 24 part_entry_of (drop 16 d) count) (drop (16 + count * 24) d)

-- the parts of which a note tells, where they lie within it
abbrev pub parts_in : List ℕ → Option (List PartValue)
parts_in d = if nat_lt (length d) 16 then None else (if nat_le (16 + u64_at d 0 * 24) (length d) then Some (parts_after d (u64_at d 0)) else None)

-- the parts of which the notes of these segments tell
abbrev pub parts_by_notes : List ℕ → List ProgramHeader → Option (List PartValue)
parts_by_notes bytes hs = option_and_then parts_in (files_in bytes hs)

-- the parts of files that were mapped, where the bytes are a core file and a note tells of them
abbrev pub mapped_parts : List ℕ → Option (List PartValue)
mapped_parts bytes = if has_core_header bytes then option_and_then parts_in (option_and_then (files_in bytes) (headers_within bytes)) else None
