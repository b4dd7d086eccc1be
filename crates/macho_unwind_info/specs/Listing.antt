-- The functions that a section of compact unwinding lists, in order, with the errors in their places.
use Rattle.std.specs.Prelude.{ℕ, ◌+◌, ◌-◌, ◌^◌, List, [], ◌∷◌, ◌++◌, map, length, Option, Some, None, Result, Ok, Err, slice_get, nat_lt, ◌==◌, if◌then◌else◌}
use Rattle.std.specs.Option.{ok_or}
use Rattle.std.specs.Result.{result_map_both}
use Rattle.macho_unwind_info.specs.Unaligned.{u32_number}
use Rattle.memory_image.specs.Results.{◌>>=◌}
use Rattle.macho_unwind_info.specs.Parts.{header_of, global_opcodes_of, pages_of, kind_of, regular_page_of, regular_functions_of, compressed_page_of, compressed_functions_of, local_opcodes_of}
use Rattle.macho_unwind_info.specs.Compressed.{opcode_index, relative_address}
use Rattle.macho_unwind_info.specs.declared.error.Error.{Error}
use Rattle.macho_unwind_info.specs.declared.error.Error.TheVariants as error
use Rattle.macho_unwind_info.specs.declared.error.ReadError.{ReadError}
use Rattle.macho_unwind_info.specs.declared.error.ReadError.TheVariants.{LocalOpcodes}
use Rattle.macho_unwind_info.specs.declared.raw.unaligned.U32.{U32}
use Rattle.macho_unwind_info.specs.declared.raw.format.CompactUnwindInfoHeader.{CompactUnwindInfoHeader}
use Rattle.macho_unwind_info.specs.declared.raw.format.PageEntry.{PageEntry}
use Rattle.macho_unwind_info.specs.declared.raw.format.Opcode.{Opcode}
use Rattle.macho_unwind_info.specs.declared.raw.format.RegularFunctionEntry.{RegularFunctionEntry}
use Rattle.macho_unwind_info.specs.declared.page.Page.{Page}
use Rattle.macho_unwind_info.specs.declared.page.Page.TheVariants.{Regular, Compressed}
use Rattle.macho_unwind_info.specs.declared.page.Entry.{Entry}
use Rattle.macho_unwind_info.specs.declared.function.Function.{Function}

-- ---- a section that was parsed
pub record Section : Type 0 where
  pub bytes : List ℕ
  pub header : CompactUnwindInfoHeader
  pub global_opcodes : List Opcode
  pub pages : List PageEntry

-- a part that was read, or that doesn't fit
abbrev pub part : {A : Type 0} → Result A ReadError → Result A Error
part = result_map_both (λ x. x) error.ReadError

-- header, global opcodes and pages, in this order
abbrev pub section_of : List ℕ → Result Section Error
section_of bytes = do
  header ← part (header_of bytes)
  global_opcodes ← part (global_opcodes_of header bytes)
  pages ← part (pages_of header bytes)
  Ok (record { bytes = bytes; header = header; global_opcodes = global_opcodes; pages = pages })

-- ---- a page that is opened: its kind, its header and its entries, in this order
abbrev pub regular_of : List ℕ → PageEntry → Result Page Error
regular_of bytes page = do
  header ← part (regular_page_of bytes (u32_number page.page_offset))
  functions ← part (regular_functions_of header bytes (u32_number page.page_offset))
  Ok (Regular functions)

abbrev pub compressed_of : List ℕ → PageEntry → Result Page Error
compressed_of bytes page = do
  header ← part (compressed_page_of bytes (u32_number page.page_offset))
  functions ← part (compressed_functions_of header bytes (u32_number page.page_offset))
  Ok (Compressed (u32_number page.first_address) functions (local_opcodes_of header bytes (u32_number page.page_offset)))

-- Kind 2 is a regular page, 3 a compressed one and 1 the sentinel.
abbrev pub page_of : List ℕ → PageEntry → Result Page Error
page_of bytes page = do
  kind ← part (kind_of page bytes)
  (if kind == 2 then regular_of bytes page
      else (if kind == 3 then compressed_of bytes page
      else (if kind == 1 then Err error.UnexpectedSentinelPage else Err error.InvalidPageKind)))

-- ---- the entries of a page
-- the opcode at a place of a list
abbrev pub opcode_at : List Opcode → ℕ → Result ℕ Error
opcode_at opcodes i = do
  opcode ← ok_or (slice_get opcodes i) (error.ReadError LocalOpcodes)
  Ok (u32_number opcode.0)

-- an index below the number of global opcodes names one of those, any other one of the page's own
abbrev pub opcode_named : List Opcode → Result (List Opcode) ReadError → ℕ → Result ℕ Error
opcode_named global local i =
    if nat_lt i (length global) then opcode_at global i else (part local >>= (λ opcodes. opcode_at opcodes (i - length global)))

-- an address so far from another
abbrev pub address_after : ℕ → ℕ → Result ℕ Error
address_after first distance = if nat_lt (first + distance) (2 ^ 32) then Ok (first + distance) else Err error.AddressOverflow

abbrev pub regular_entry : RegularFunctionEntry → Entry
regular_entry entry = record { address = Ok (u32_number entry.address); opcode = Ok (u32_number entry.opcode.0) }

abbrev pub compressed_entry : List Opcode → ℕ → Result (List Opcode) ReadError → U32 → Entry
compressed_entry global first local word = record {
  address = address_after first (relative_address (u32_number word));
  opcode = opcode_named global local (opcode_index (u32_number word));
}

abbrev pub entries_of : List Opcode → Page → List Entry
entries_of global (Regular functions) = map regular_entry functions
entries_of global (Compressed first functions local) = map (compressed_entry global first local) functions

-- ---- the functions of a page
-- a function ends where the next begins, the last one of a page where the next page begins
abbrev pub end_of : ℕ → Option Entry → Result ℕ Error
end_of next None = Ok next
end_of next (Some after) = after.address

abbrev pub function_of : ℕ → Entry → Option Entry → Result Function Error
function_of next entry after = do
  start ← entry.address
  end ← end_of next after
  opcode ← entry.opcode
  Ok (record { start_address = start; end_address = end; opcode = opcode })

abbrev pub functions_of : ℕ → List Entry → List (Result Function Error)
functions_of next [] = []
functions_of next (entry ∷ entries) = function_of next entry (slice_get entries 0) ∷ functions_of next entries

-- ---- the listing
-- a compressed page's own opcodes are read as the page is entered
abbrev pub whole_page : Page → Result Page Error
whole_page (Regular functions) = Ok (Regular functions)
whole_page (Compressed first functions (Ok opcodes)) = Ok (Compressed first functions (Ok opcodes))
whole_page (Compressed first functions (Err e)) = Err (error.ReadError e)

-- the places of a page, the one of a page that can't be read being its error
abbrev pub page_places : List Opcode → ℕ → Result Page Error → List (Result Function Error)
page_places global next (Ok page) = functions_of next (entries_of global page)
page_places global next (Err e) = Err e ∷ []

-- The places of all pages but the last, in order.
abbrev pub places_of : List ℕ → List Opcode → List PageEntry → List (Result Function Error)
places_of bytes global [] = []
places_of bytes global (page ∷ []) = []
places_of bytes global (page ∷ next ∷ pages) =
    page_places global (u32_number next.first_address) (page_of bytes page >>= whole_page) ++ places_of bytes global (next ∷ pages)

abbrev pub listing : Section → List (Result Function Error)
listing info = places_of info.bytes info.global_opcodes info.pages

-- the function at a place, or none where there is no place
abbrev pub answer_of : Option (Result Function Error) → Result (Option Function) Error
answer_of None = Ok None
answer_of (Some (Ok function)) = Ok (Some function)
answer_of (Some (Err e)) = Err e
