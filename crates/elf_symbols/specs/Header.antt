-- The header of an ELF file of 64 bits whose numbers have their lowest byte first. System V gABI, chapter "Object Files", part
-- "ELF Header".
use Rattle.std.specs.Prelude.{ℕ, ◌*◌, ◌==◌, ◌&&◌, Bool, List, [], ◌∷◌, length, Option, Some, None, nat_eq, nat_le, if◌then◌else◌}
use Rattle.std.specs.List.{starts_with}
use Rattle.memory_image.specs.Words.{u16_at, u64_at}
use Rattle.elf_symbols.specs.declared.part.FilePart.{FilePart}

-- the magic number, the class of 64 bits, and the form whose numbers have their lowest byte first
abbrev pub identification : List ℕ
identification = 0x7f ∷ 0x45 ∷ 0x4c ∷ 0x46 ∷ 2 ∷ 1 ∷ []

-- the fields e_shoff, e_shentsize and e_shnum
abbrev pub sections_offset : List ℕ → ℕ
sections_offset front = u64_at front 40

abbrev pub section_entry_size : List ℕ → ℕ
section_entry_size front = u16_at front 58

abbrev pub section_count : List ℕ → ℕ
section_count front = u16_at front 60

-- bytes begin with such a header, of a file with section headers of 64 bytes
abbrev pub has_header : List ℕ → Bool
has_header front = nat_le 64 (length front) && starts_with nat_eq front identification && (section_entry_size front == 64)

-- where the section headers lie
abbrev pub section_table : List ℕ → Option FilePart
section_table front = if has_header front then Some (record { offset = sections_offset front; size = section_count front * 64 }) else None
