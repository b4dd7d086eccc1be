-- The section table of an image in its file layout.
use Rattle.std.specs.Prelude.{◌≡◌, ℕ, ◌+◌, ◌-◌, ◌*◌, ◌/◌, Bool, ◌||◌, List, Option, Some, None, length, take, drop, nat_lt, nat_le, ◌==◌, if◌then◌else◌}
use Rattle.memory_image.specs.Records.{records_in}
use Rattle.pe_unwind_info.specs.declared.x86_64.sections.Section.{Section}
use Rattle.pe_unwind_info.specs.declared.x86_64.sections.Sections.{Sections}
use Rattle.pe_unwind_info.specs.Numbers.{u16_at, u32_at}
use Rattle.pe_unwind_info.specs.Search.{IsSearched, boundary_in}

-- a section header of forty bytes
abbrev pub section_of : List ℕ → Section
section_of bytes = record { header = bytes }

abbrev pub virtual_size : Section → ℕ
virtual_size section = u32_at 8 section.header

abbrev pub virtual_address : Section → ℕ
virtual_address section = u32_at 12 section.header

abbrev pub raw_pointer : Section → ℕ
raw_pointer section = u32_at 20 section.header

-- where the COFF header stands: after the signature that the number at 0x3c leads to
abbrev pub coff_at : List ℕ → ℕ
coff_at image = u32_at 0x3c image + 4

-- how many sections the COFF header states, and where their headers begin
abbrev pub section_count : List ℕ → ℕ
section_count image = u16_at (coff_at image + 2) image

abbrev pub sections_at : List ℕ → ℕ
sections_at image = coff_at image + 20 + u16_at (coff_at image + 16) image

-- the bytes of the section headers, where the number at 0x3c, the COFF header and they fit in the image
abbrev pub section_table : List ℕ → Option (List ℕ)
section_table image =
    if nat_lt (length image) 0x40 then None
    else (if nat_lt (length image) (coff_at image + 20) then None
    else (if nat_lt (length image) (sections_at image + 40 * section_count image) then None
    else Some (take (40 * section_count image) (drop (sections_at image) image))))

-- the image and the bytes of the section headers that a view holds
abbrev pub image_of : Sections → List ℕ
image_of sections = sections.image.now

abbrev pub headers_of : Sections → List ℕ
headers_of sections = sections.headers.now

abbrev pub sections_in : List ℕ → List Section
sections_in headers = records_in 40 section_of headers (length headers / 40)

-- the section's extent holds the address, or it begins there
abbrev pub extends_over : Section → ℕ → Bool
extends_over section rva = (virtual_address section == rva) || nat_lt rva (virtual_address section + virtual_size section)

-- the image from an offset on, which may be its end
abbrev pub from_offset : ℕ → List ℕ → Option (List ℕ)
from_offset offset image = if nat_le offset (length image) then Some (drop offset image) else None

abbrev pub memory_in : List ℕ → ℕ → Option Section → Option (List ℕ)
memory_in image rva None = None
memory_in image rva (Some section) = if extends_over section rva then from_offset (raw_pointer section + (rva - virtual_address section)) image else None

-- what may be answered as the memory at a relative virtual address, by the section that the search finds
abbrev pub IsMemoryAt : List ℕ → List Section → ℕ → Option (List ℕ) → Type 0
IsMemoryAt image sections rva memory =
    (found : Option Section) × IsSearched virtual_address sections rva found × (memory ≡ memory_in image rva found)

-- the memory at each relative virtual address, by the section that halving answers
abbrev pub memory_by : List ℕ → List Section → ℕ → Option (List ℕ)
memory_by image sections rva = memory_in image rva (boundary_in virtual_address sections rva)
