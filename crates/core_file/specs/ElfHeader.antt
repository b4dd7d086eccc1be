-- The ELF header of a core file of x86-64. System V gABI, chapter "Object Files", part "ELF Header", in its form of 64 bits;
-- the number of the machine is that of the x86-64 psABI.
use Rattle.std.specs.Prelude.{ℕ, ◌==◌, ◌&&◌, Bool, List, [], ◌∷◌, length, nat_eq, nat_le}
use Rattle.std.specs.List.{starts_with}
use Rattle.memory_image.specs.Words.{u16_at, u64_at}

-- the magic number, the class of 64 bits, and the form whose numbers have their lowest byte first
abbrev pub identification : List ℕ
identification = 0x7f ∷ 0x45 ∷ 0x4c ∷ 0x46 ∷ 2 ∷ 1 ∷ []

-- how many bytes the ELF header has, and how many a program header
abbrev pub header_size : ℕ
header_size = 64

abbrev pub program_header_size : ℕ
program_header_size = 56

-- the type of a core file
abbrev pub ET_CORE : ℕ
ET_CORE = 4

-- the machine x86-64
abbrev pub EM_X86_64 : ℕ
EM_X86_64 = 62

-- the count that says that the number of program headers stands elsewhere
abbrev pub PN_XNUM : ℕ
PN_XNUM = 0xffff

-- the fields e_type, e_machine, e_phoff, e_phentsize and e_phnum
abbrev pub type_of : List ℕ → ℕ
type_of bytes = u16_at bytes 16

abbrev pub machine_of : List ℕ → ℕ
machine_of bytes = u16_at bytes 18

abbrev pub headers_offset : List ℕ → ℕ
headers_offset bytes = u64_at bytes 32

abbrev pub header_entry_size : List ℕ → ℕ
header_entry_size bytes = u16_at bytes 54

abbrev pub header_count : List ℕ → ℕ
header_count bytes = u16_at bytes 56

-- bytes begin with the ELF header of a core file of this machine
abbrev pub has_core_header : List ℕ → Bool
has_core_header bytes =
    nat_le header_size (length bytes) && starts_with nat_eq bytes identification && (type_of bytes == ET_CORE) && (machine_of bytes == EM_X86_64)
    && (header_entry_size bytes == program_header_size)
