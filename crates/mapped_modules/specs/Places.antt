-- Where the code of a part of a file that was mapped lies, and its frame table. System V gABI, chapter "Program Loading and Dynamic
-- Linking", part "Program Header"; LSB, section on PT_GNU_EH_FRAME.
--
-- A part is code where an executable segment begins in the page of the file with which the part begins: so far as that page lies from
-- the segment's page, all of the file's addresses are moved.
use Rattle.std.specs.Prelude.{ℕ, ◌+◌, ◌-◌, ◌*◌, ◌/◌, ◌%◌, ◌^◌, ◌==◌, ◌&&◌, Bool, List, [], ◌∷◌, Option, Some, None, nat_le, nat_lt, if◌then◌else◌}
use Rattle.std.specs.Option.{option_and_then, option_map}
use Rattle.core_file.specs.MappedParts.{PartValue}
use Rattle.fde_finders.specs.declared.phdr.Phdr.{Phdr}
use Rattle.fde_finders.specs.declared.custom.FrameInfoKind.TheVariants.{EhFrameHdr}
use Rattle.stack_steps.specs.declared.space.Module.{Module}
use Rattle.stack_steps.specs.declared.space.ModuleTables.TheVariants.{Elf}
use Rattle.mapped_modules.specs.declared.places.Sought.{Sought}
use Rattle.mapped_modules.specs.declared.places.Sought.TheVariants.{Code, FrameHeader, Holder}
use Rattle.mapped_modules.specs.declared.places.ModulePlace.{ModulePlace}

-- the first that passes a test
abbrev pub first_such : {A : Type 0} → (A → Bool) → List A → Option A
first_such test [] = None
first_such test (x ∷ xs) = if test x then Some x else first_such test xs

-- where the page begins
abbrev pub page_of : ℕ → ℕ
page_of place = place / 4096 * 4096

-- PT_LOAD, with the flag PF_X, and its bytes begin in the page at this offset
abbrev pub is_code : ℕ → Phdr → Bool
is_code offset h = (h.p_type == 1) && (h.p_flags % 2 == 1) && (page_of h.p_offset == offset)

-- PT_GNU_EH_FRAME
abbrev pub is_frame_header : Phdr → Bool
is_frame_header h = h.p_type == 0x6474e550

-- PT_LOAD, and the address is that of one of its bytes in the file
abbrev pub has_bytes_at : ℕ → Phdr → Bool
has_bytes_at address h = (h.p_type == 1) && nat_le h.p_vaddr address && nat_lt (address - h.p_vaddr) h.p_filesz

abbrev pub is_sought : Sought → Phdr → Bool
is_sought (Code offset) h = is_code offset h
is_sought FrameHeader h = is_frame_header h
is_sought (Holder address) h = has_bytes_at address h

-- how far above its own addresses the file lies, where its code is this segment
abbrev pub bias_of : PartValue → Phdr → ℕ
bias_of part code = (part.start + (2 ^ 64 - page_of code.p_vaddr)) % 2 ^ 64

-- an address of the file, in memory
abbrev pub moved : ℕ → ℕ → ℕ
moved bias address = (bias + address) % 2 ^ 64

-- the code with the header of its frame table
abbrev pub module_with : ℕ → Phdr → Phdr → Module
module_with bias code frames = record {
  start = moved bias code.p_vaddr;
  end = moved (moved bias code.p_vaddr) code.p_memsz;
  tables = Elf (record { text_base = None; kind = EhFrameHdr (moved bias frames.p_vaddr) });
}

abbrev pub with_holder : ℕ → Phdr → Phdr → Phdr → ModulePlace
with_holder bias code frames holder = record {
  code = module_with bias code frames;
  address = moved bias holder.p_vaddr;
  offset = holder.p_offset;
  size = holder.p_filesz;
}

abbrev pub with_frames : List Phdr → ℕ → Phdr → Phdr → Option ModulePlace
with_frames hs bias code frames = option_map (with_holder bias code frames) (first_such (has_bytes_at frames.p_vaddr) hs)

abbrev pub with_code : List Phdr → PartValue → Phdr → Option ModulePlace
with_code hs part code = option_and_then (with_frames hs (bias_of part code) code) (first_such is_frame_header hs)

-- the module whose code a part of a file with these program headers is, and the segment that has its frame table
abbrev pub place_of : List Phdr → PartValue → Option ModulePlace
place_of hs part = option_and_then (with_code hs part) (first_such (is_code part.offset) hs)
