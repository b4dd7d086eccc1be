-- Finding by the program headers of a loaded object. System V ABI, chapters on program loading and dynamic linking; LSB,
-- section on PT_GNU_EH_FRAME.
use Rattle.std.specs.Prelude.{◌≡◌, ℕ, ◌+◌, ◌/◌, ◌%◌, ◌^◌, Bool, ◌&&◌, ◌==◌, List, [], ◌∷◌, length, Option, Some, None, nat_le, nat_lt, if◌then◌else◌}
use Rattle.std.specs.Option.{option_or}
use Rattle.memory_image.specs.Image.{Span, table_at}
use Rattle.memory_image.specs.Records.{records_in}
use Rattle.memory_image.specs.Words.{u32_at, u64_at}
use Rattle.unwind_definitions.specs.HeaderSearch.{SearchTakes}
use Rattle.fde_finders.specs.declared.phdr.Phdr.{Phdr}
use Rattle.fde_finders.specs.declared.phdr.PhdrObject.{PhdrObject}
use Rattle.fde_finders.specs.declared.phdr.DynamicEntry.{DynamicEntry}
use Rattle.fde_finders.specs.Finding.{FoundFde, relative_to}
use Rattle.fde_finders.specs.HeaderFinding.{found_by_header, pairs_by_header}

-- ---- records

-- a program header of 56 bytes
abbrev pub phdr_of : List ℕ → Phdr
phdr_of bytes = record {
  p_type = u32_at bytes 0;
  p_flags = u32_at bytes 4;
  p_offset = u64_at bytes 8;
  p_vaddr = u64_at bytes 16;
  p_paddr = u64_at bytes 24;
  p_filesz = u64_at bytes 32;
  p_memsz = u64_at bytes 40;
  p_align = u64_at bytes 48;
}

-- an entry of a dynamic section
abbrev pub dynamic_entry_of : List ℕ → DynamicEntry
dynamic_entry_of bytes = record { tag = u64_at bytes 0; value = u64_at bytes 8 }

-- ---- which headers count

abbrev pub last_such : {A : Type 0} → (A → Bool) → List A → Option A
last_such test [] = None
last_such test (x ∷ xs) = option_or (last_such test xs) (if test x then Some x else None)

-- where a header's part of an object begins, which wraps
abbrev pub start_of : ℕ → Phdr → ℕ
start_of base h = (base + h.p_vaddr) % 2 ^ 64

-- an address lies in a range that doesn't pass 2 ^ 64
abbrev pub in_range : ℕ → ℕ → ℕ → Bool
in_range start size pc = nat_le (start + size) (2 ^ 64) && (nat_le start pc && nat_lt pc (start + size))

abbrev pub is_of_type : ℕ → Phdr → Bool
is_of_type kind h = h.p_type == kind

-- PT_LOAD, and the address lies in it
abbrev pub is_text : ℕ → ℕ → Phdr → Bool
is_text base pc h = is_of_type 1 h && in_range (start_of base h) h.p_memsz pc

-- ---- what pointers may be relative to

-- the value of the first DT_PLTGOT, before the first DT_NULL
abbrev pub plt_got : List DynamicEntry → Option ℕ
plt_got [] = None
plt_got (d ∷ ds) = if d.tag == 0 then None else (if d.tag == 3 then Some d.value else plt_got ds)

-- entries up to the end of the bytes
abbrev pub dynamic_entries : List ℕ → List DynamicEntry
dynamic_entries bytes = records_in 16 dynamic_entry_of bytes (length bytes / 16)

abbrev pub data_base_by : List Span → ℕ → Option Phdr → Option ℕ
data_base_by image base None = None
data_base_by image base (Some dynamic) = plt_got (dynamic_entries (table_at image (start_of base dynamic)))

-- by the last PT_DYNAMIC
abbrev pub data_base_of : List Span → PhdrObject → Option ℕ
data_base_of image o = data_base_by image o.base (last_such (is_of_type 2) o.headers)

-- ---- what is found

-- by the text that holds the address and by the header of the frame table, where both are there
abbrev pub found_by_parts : List Span → ℕ → PhdrObject → Option Phdr → Option Phdr → Option FoundFde
found_by_parts image pc o None header = None
found_by_parts image pc o (Some text) None = None
found_by_parts image pc o (Some text) (Some header) = found_by_header (relative_to (Some (start_of o.base text)) (data_base_of image o)) image (start_of o.base header) pc

abbrev pub pairs_by_parts : List Span → PhdrObject → Option Phdr → Option Phdr → ℕ
pairs_by_parts image o None header = 0
pairs_by_parts image o (Some text) None = 0
pairs_by_parts image o (Some text) (Some header) = pairs_by_header (relative_to (Some (start_of o.base text)) (data_base_of image o)) image (start_of o.base header)

-- by the last text that holds the address, and by the last PT_GNU_EH_FRAME
abbrev pub found_in_object : List Span → ℕ → PhdrObject → Option FoundFde
found_in_object image pc o = found_by_parts image pc o (last_such (is_text o.base pc) o.headers) (last_such (is_of_type 0x6474e550) o.headers)

abbrev pub pairs_in_object : List Span → ℕ → PhdrObject → ℕ
pairs_in_object image pc o = pairs_by_parts image o (last_such (is_text o.base pc) o.headers) (last_such (is_of_type 0x6474e550) o.headers)

abbrev pub FindsInObject : List Span → ℕ → PhdrObject → Option FoundFde → ℕ → Type 0
FindsInObject image pc o answer ticks = (answer ≡ found_in_object image pc o) × SearchTakes (pairs_in_object image pc o) ticks
