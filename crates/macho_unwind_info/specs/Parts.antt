-- The parts of a section of compact unwinding: where each lies, and the error of its not fitting in the section's bytes.
use Rattle.std.specs.Prelude.{ℕ, ◌+◌, ◌-◌, ◌/◌, ◌%◌, List, Result, Ok, Err, nat_le, ◌==◌, ◌&&◌, if◌then◌else◌}
use Rattle.std.specs.Option.{ok_or}
use Rattle.memory_image.specs.Results.{◌>>=◌}
use Rattle.macho_unwind_info.specs.Unaligned.{u32_in, u32_number, u16_number}
use Rattle.macho_unwind_info.specs.Format.{record_at, records_at, header_in, page_entry_in, regular_page_in, compressed_page_in, opcode_in, function_entry_in, lsda_entry_in}
use Rattle.macho_unwind_info.specs.declared.error.ReadError.{ReadError}
use Rattle.macho_unwind_info.specs.declared.error.ReadError.TheVariants.{Header, GlobalOpcodes, Pages, RegularPage as NoRegularPage, RegularPageFunctions, CompressedPage as NoCompressedPage, CompressedPageFunctions, LocalOpcodes, PageKind, Personalities, Lsda}
use Rattle.macho_unwind_info.specs.declared.raw.unaligned.U32.{U32}
use Rattle.macho_unwind_info.specs.declared.raw.format.CompactUnwindInfoHeader.{CompactUnwindInfoHeader}
use Rattle.macho_unwind_info.specs.declared.raw.format.PageEntry.{PageEntry}
use Rattle.macho_unwind_info.specs.declared.raw.format.RegularPage.{RegularPage}
use Rattle.macho_unwind_info.specs.declared.raw.format.CompressedPage.{CompressedPage}
use Rattle.macho_unwind_info.specs.declared.raw.format.Opcode.{Opcode}
use Rattle.macho_unwind_info.specs.declared.raw.format.RegularFunctionEntry.{RegularFunctionEntry}
use Rattle.macho_unwind_info.specs.declared.raw.format.LsdaEntry.{LsdaEntry}

-- ---- from the start of the section
abbrev pub header_of : List ℕ → Result CompactUnwindInfoHeader ReadError
header_of bytes = ok_or (record_at 28 header_in bytes 0) Header

abbrev pub global_opcodes_of : CompactUnwindInfoHeader → List ℕ → Result (List Opcode) ReadError
global_opcodes_of header bytes = ok_or (records_at 4 opcode_in bytes (u32_number header.global_opcodes_offset) (u32_number header.global_opcodes_len)) GlobalOpcodes

abbrev pub pages_of : CompactUnwindInfoHeader → List ℕ → Result (List PageEntry) ReadError
pages_of header bytes = ok_or (records_at 12 page_entry_in bytes (u32_number header.pages_offset) (u32_number header.pages_len)) Pages

abbrev pub personality_array_of : CompactUnwindInfoHeader → List ℕ → Result (List U32) ReadError
personality_array_of header bytes = ok_or (records_at 4 u32_in bytes (u32_number header.personalities_offset) (u32_number header.personalities_len)) Personalities

-- the entries from one offset up to another, which are whole
abbrev pub lsda_entries_between : List ℕ → ℕ → ℕ → Result (List LsdaEntry) ReadError
lsda_entries_between bytes start end =
    if nat_le start end && (end - start) % 8 == 0 then ok_or (records_at 8 lsda_entry_in bytes start ((end - start) / 8)) Lsda else Err Lsda

-- a page's part of the list of language tables ends where the next page's begins
abbrev pub lsda_entries_of : PageEntry → PageEntry → List ℕ → Result (List LsdaEntry) ReadError
lsda_entries_of page next bytes = lsda_entries_between bytes (u32_number page.lsda_index_offset) (u32_number next.lsda_index_offset)

-- ---- from the start of a page
abbrev pub kind_of : PageEntry → List ℕ → Result ℕ ReadError
kind_of page bytes = do
  word ← ok_or (record_at 4 u32_in bytes (u32_number page.page_offset)) PageKind
  Ok (u32_number word)

abbrev pub regular_page_of : List ℕ → ℕ → Result RegularPage ReadError
regular_page_of bytes offset = ok_or (record_at 8 regular_page_in bytes offset) NoRegularPage

abbrev pub regular_functions_of : RegularPage → List ℕ → ℕ → Result (List RegularFunctionEntry) ReadError
regular_functions_of page bytes offset = ok_or (records_at 8 function_entry_in bytes (offset + u16_number page.functions_offset) (u16_number page.functions_len)) RegularPageFunctions

abbrev pub compressed_page_of : List ℕ → ℕ → Result CompressedPage ReadError
compressed_page_of bytes offset = ok_or (record_at 12 compressed_page_in bytes offset) NoCompressedPage

abbrev pub compressed_functions_of : CompressedPage → List ℕ → ℕ → Result (List U32) ReadError
compressed_functions_of page bytes offset = ok_or (records_at 4 u32_in bytes (offset + u16_number page.functions_offset) (u16_number page.functions_len)) CompressedPageFunctions

abbrev pub local_opcodes_of : CompressedPage → List ℕ → ℕ → Result (List Opcode) ReadError
local_opcodes_of page bytes offset = ok_or (records_at 4 opcode_in bytes (offset + u16_number page.local_opcodes_offset) (u16_number page.local_opcodes_len)) LocalOpcodes
