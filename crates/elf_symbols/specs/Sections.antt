-- Section headers, and where the symbols of a file lie by them. System V gABI, chapter "Sections", parts "Section Header Table Entries"
-- and "Section Types"; chapter "String Table".
use Rattle.std.specs.Prelude.{ℕ, ◌/◌, ◌==◌, List, [], ◌∷◌, length, slice_get, Option, Some, None, if◌then◌else◌}
use Rattle.std.specs.Option.{option_and_then, option_map, option_or}
use Rattle.memory_image.specs.Records.{records_in}
use Rattle.memory_image.specs.Words.{u32_at, u64_at}
use Rattle.elf_symbols.specs.declared.part.FilePart.{FilePart}
use Rattle.elf_symbols.specs.declared.section.SectionHeader.{SectionHeader}
use Rattle.elf_symbols.specs.declared.section.SymbolParts.{SymbolParts}

-- a section header of 64 bytes
abbrev pub section_header_of : List ℕ → SectionHeader
section_header_of bytes = record {
  sh_name = u32_at bytes 0;
  sh_type = u32_at bytes 4;
  sh_flags = u64_at bytes 8;
  sh_addr = u64_at bytes 16;
  sh_offset = u64_at bytes 24;
  sh_size = u64_at bytes 32;
  sh_link = u32_at bytes 40;
  sh_info = u32_at bytes 44;
  sh_addralign = u64_at bytes 48;
  sh_entsize = u64_at bytes 56;
}

-- as many as the bytes spell whole
abbrev pub section_headers : List ℕ → List SectionHeader
section_headers bytes = records_in 64 section_header_of bytes (length bytes / 64)

abbrev pub first_of_type : ℕ → List SectionHeader → Option SectionHeader
first_of_type kind [] = None
first_of_type kind (h ∷ hs) = if h.sh_type == kind then Some h else first_of_type kind hs

-- SHT_SYMTAB, or SHT_DYNSYM where there is none
abbrev pub symbol_section : List SectionHeader → Option SectionHeader
symbol_section hs = option_or (first_of_type 2 hs) (first_of_type 11 hs)

abbrev pub if_strings : SectionHeader → Option SectionHeader
if_strings h = if h.sh_type == 3 then Some h else None

-- the section that sh_link of a symbol table names, SHT_STRTAB
abbrev pub strings_of : List SectionHeader → SectionHeader → Option SectionHeader
strings_of hs symbols = option_and_then if_strings (slice_get hs symbols.sh_link)

-- where a section's bytes lie
abbrev pub part_of : SectionHeader → FilePart
part_of h = record { offset = h.sh_offset; size = h.sh_size }

abbrev pub with_strings : SectionHeader → SectionHeader → SymbolParts
with_strings symbols strings = record { symbols = part_of symbols; strings = part_of strings }

abbrev pub parts_with : List SectionHeader → SectionHeader → Option SymbolParts
parts_with hs symbols = option_map (with_strings symbols) (strings_of hs symbols)

-- where the symbols lie, and their names
abbrev pub symbol_parts : List SectionHeader → Option SymbolParts
symbol_parts hs = option_and_then (parts_with hs) (symbol_section hs)
