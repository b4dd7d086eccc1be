-- A section of 104 bytes with a compressed page, a regular page and the sentinel.
use Rattle.std.specs.Prelude.{ℕ, List, [], ◌∷◌, ◌++◌, Result, Ok, Err}
use Rattle.macho_unwind_info.specs.declared.error.Error.{Error}
use Rattle.macho_unwind_info.specs.declared.error.Error.TheVariants.{ReadError}
use Rattle.macho_unwind_info.specs.declared.error.ReadError.TheVariants.{LocalOpcodes}
use Rattle.macho_unwind_info.specs.declared.function.Function.{Function}

-- a little-endian word
abbrev pub le : ℕ → ℕ → ℕ → ℕ → List ℕ
le a b c d = a ∷ b ∷ c ∷ d ∷ []

-- version 1, one global opcode at 0x1c, no personalities, three pages at 0x20
abbrev pub header_bytes : List ℕ
header_bytes = le 1 0 0 0 ++ (le 0x1c 0 0 0 ++ (le 1 0 0 0 ++ (le 0 0 0 0 ++ (le 0 0 0 0 ++ (le 0x20 0 0 0 ++ le 3 0 0 0)))))

abbrev pub opcode_bytes : List ℕ
opcode_bytes = le 0 0 1 2

-- pages at 0x1000 and 0x2000, which lie at 0x44 and 0x58, and the sentinel at 0x3000
abbrev pub page_bytes : List ℕ
page_bytes =
    le 0 0x10 0 0 ++ (le 0x44 0 0 0 ++ (le 0 0 0 0 ++
    (le 0 0x20 0 0 ++ (le 0x58 0 0 0 ++ (le 0 0 0 0 ++
    (le 0 0x30 0 0 ++ (le 0 0 0 0 ++ le 0 0 0 0)))))))

-- two entries at 12, no opcodes of its own; the second entry 0x100 after the first, with the index of an opcode
abbrev pub compressed_bytes : ℕ → List ℕ
compressed_bytes index = le 3 0 0 0 ++ (le 0x0c 0 2 0 ++ (le 0x14 0 0 0 ++ (le 0 0 0 0 ++ le 0 1 0 index)))

-- one entry at 8
abbrev pub regular_bytes : List ℕ
regular_bytes = le 2 0 0 0 ++ (le 8 0 1 0 ++ (le 0 0x20 0 0 ++ le 1 0 1 1))

abbrev pub section_bytes : ℕ → List ℕ
section_bytes index = header_bytes ++ (opcode_bytes ++ (page_bytes ++ (compressed_bytes index ++ regular_bytes)))

abbrev pub function : ℕ → ℕ → ℕ → Result Function Error
function start end opcode = Ok (record { start_address = start; end_address = end; opcode = opcode })

-- each opcode is there
abbrev pub described_bytes : List ℕ
described_bytes = section_bytes 0

abbrev pub described_functions : List (Result Function Error)
described_functions = function 0x1000 0x1100 0x02010000 ∷ function 0x1100 0x2000 0x02010000 ∷ function 0x2000 0x3000 0x01010001 ∷ []

-- there is one global opcode, and index 1 would be the first of the page's own, of which there are none
abbrev pub damaged_bytes : List ℕ
damaged_bytes = section_bytes 1

abbrev pub damaged_places : List (Result Function Error)
damaged_places = function 0x1000 0x1100 0x02010000 ∷ Err (ReadError LocalOpcodes) ∷ function 0x2000 0x3000 0x01010001 ∷ []

-- ---- a section of 84 bytes with one function that has a language table
-- version 1, one global opcode at 0x1c, one personality at 0x20, two pages at 0x24
abbrev pub tabled_header : List ℕ
tabled_header = le 1 0 0 0 ++ (le 0x1c 0 0 0 ++ (le 1 0 0 0 ++ (le 0x20 0 0 0 ++ (le 1 0 0 0 ++ (le 0x24 0 0 0 ++ le 2 0 0 0)))))

-- the page at 0x1000, which lies at 0x44, and the sentinel at 0x2000; the page's part of the list of language tables is from 0x3c to 0x44
abbrev pub tabled_pages : List ℕ
tabled_pages = le 0 0x10 0 0 ++ (le 0x44 0 0 0 ++ (le 0x3c 0 0 0 ++ (le 0 0x20 0 0 ++ (le 0 0 0 0 ++ le 0x44 0 0 0))))

-- bit 30 of the opcode is set, and its personality is the first one; the table of the function at 0x1000 is at 0x1800
abbrev pub tabled_bytes : List ℕ
tabled_bytes =
    tabled_header ++ (le 0 0 1 0x52 ++ (le 0 0x30 0 0 ++ (tabled_pages ++ (le 0 0x10 0 0 ++ (le 0 0x18 0 0 ++
    (le 2 0 0 0 ++ (le 8 0 1 0 ++ (le 0 0x10 0 0 ++ le 0 0 1 0x52))))))))

abbrev pub tabled_function : Function
tabled_function = record { start_address = 0x1000; end_address = 0x2000; opcode = 0x52010000 }
