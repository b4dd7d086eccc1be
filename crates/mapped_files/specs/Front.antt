-- The front of an ELF file of x86-64: its header, and the program headers where they lie within the front. System V gABI, chapter
-- "Object Files", part "ELF Header", in its form of 64 bits.
use Rattle.std.specs.Prelude.{ℕ, ◌+◌, ◌*◌, ◌==◌, ◌&&◌, Bool, List, length, drop, Option, Some, None, nat_eq, nat_le, if◌then◌else◌}
use Rattle.std.specs.List.{starts_with}
use Rattle.memory_image.specs.Records.{records_in}
use Rattle.core_file.specs.ElfHeader.{identification, header_size, program_header_size, EM_X86_64, machine_of, headers_offset, header_entry_size, header_count}
use Rattle.fde_finders.specs.declared.phdr.Phdr.{Phdr}
use Rattle.fde_finders.specs.ProgramHeaders.{phdr_of}

-- bytes begin with the ELF header of a file of this machine
abbrev pub has_elf_header : List ℕ → Bool
has_elf_header front =
    nat_le header_size (length front) && starts_with nat_eq front identification && (machine_of front == EM_X86_64) && (header_entry_size front == program_header_size)

abbrev pub headers_in : List ℕ → List Phdr
headers_in front = records_in 56 phdr_of (drop (headers_offset front) front) (header_count front)

abbrev pub headers_fit : List ℕ → Bool
headers_fit front = nat_le (headers_offset front + header_count front * 56) (length front)

-- the program headers of a file that begins so
abbrev pub program_headers : List ℕ → Option (List Phdr)
program_headers front = if has_elf_header front then (if headers_fit front then Some (headers_in front) else None) else None
