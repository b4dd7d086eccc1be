-- The personalities of a section, and the language tables of its functions.
use Rattle.std.specs.Prelude.{◌≡◌, ℕ, ◌+◌, ◌-◌, ◌*◌, ◌%◌, ◌<◌, ◌⊎◌, Bool, List, [], ◌∷◌, map, length, Option, Some, None, option_map, option_and_then, Result, Ok, Err, slice_get, nat_le, nat_lt, ◌==◌, ◌&&◌, IsTrue, if◌then◌else◌}
use Rattle.std.specs.List.{find}
use Rattle.memory_image.specs.Halving.{boundary_of}
use Rattle.memory_image.specs.Results.{◌>>=◌}
use Rattle.macho_unwind_info.specs.Unaligned.{u32_number}
use Rattle.macho_unwind_info.specs.Bits.{bits}
use Rattle.macho_unwind_info.specs.Parts.{personality_array_of, lsda_entries_of}
use Rattle.macho_unwind_info.specs.Listing.{Section, part}
use Rattle.macho_unwind_info.specs.Lookup.{first_address, page_addresses}
use Rattle.macho_unwind_info.specs.declared.error.Error.{Error}
use Rattle.macho_unwind_info.specs.declared.error.ReadError.{ReadError}
use Rattle.macho_unwind_info.specs.declared.raw.unaligned.U32.{U32}
use Rattle.macho_unwind_info.specs.declared.raw.format.PageEntry.{PageEntry}
use Rattle.macho_unwind_info.specs.declared.raw.format.LsdaEntry.{LsdaEntry}
use Rattle.macho_unwind_info.specs.declared.function.Function.{Function}

-- ---- personalities
abbrev pub personalities_of : Section → Result (List U32) ReadError
personalities_of info = personality_array_of info.header info.bytes

-- they end past the section's end
abbrev pub LacksPersonalities : Section → Type 0
LacksPersonalities info = length info.bytes < u32_number info.header.personalities_offset + u32_number info.header.personalities_len * 4

-- ---- the language table of a function
-- bit 30 of an opcode says that the function has a language table
abbrev pub has_language_table : ℕ → Bool
has_language_table opcode = bits opcode 30 1 == 1

abbrev pub function_address : LsdaEntry → ℕ
function_address entry = u32_number entry.address

abbrev pub table_offset : LsdaEntry → ℕ
table_offset entry = u32_number entry.lsda_offset

-- what an entry gives for the function that starts at an address
abbrev pub offset_for : ℕ → LsdaEntry → Option ℕ
offset_for start entry = if function_address entry == start then Some (table_offset entry) else None

-- what is given where a search among the entries ended
abbrev pub offset_at : List LsdaEntry → ℕ → Option ℕ → Option ℕ
offset_at entries start None = None
offset_at entries start (Some i) = option_and_then (offset_for start) (slice_get entries i)

abbrev pub offset_among : List LsdaEntry → ℕ → Option ℕ
offset_among entries start = offset_at entries start (boundary_of (map function_address entries) start)

-- what is answered from a page and the one after it, if there is one
abbrev pub table_from : List ℕ → ℕ → Option PageEntry → Option PageEntry → Result (Option ℕ) Error
table_from bytes start None next = Ok None
table_from bytes start (Some page) None = Ok None
table_from bytes start (Some page) (Some next) = part (lsda_entries_of page next bytes) >>= (λ entries. Ok (offset_among entries start))

abbrev pub table_by : List ℕ → List PageEntry → ℕ → Option ℕ → Result (Option ℕ) Error
table_by bytes pages start None = Ok None
table_by bytes pages start (Some i) = table_from bytes start (slice_get pages i) (slice_get pages (i + 1))

-- the language table of the function that starts at an address: pages and entries are searched by halving, so that also in
-- lists out of order the answer is always the same
unfoldable pub table_at : Section → ℕ → Result (Option ℕ) Error
table_at info start = table_by info.bytes info.pages start (boundary_of (page_addresses info) start)

abbrev pub lsda_of : Section → Function → Result (Option ℕ) Error
lsda_of info function = if has_language_table function.opcode then table_at info function.start_address else Ok None

-- ---- why it can't be read
-- a page's part of the list of language tables ends before it begins, holds no whole number of entries, or ends past the
-- section's end
abbrev pub IsNoPart : List ℕ → ℕ → ℕ → Type 0
IsNoPart bytes start end = (end < start) ⊎ ((0 < (end - start) % 8) ⊎ (length bytes < end))

-- the page to which the search for an address comes has no such part
pub record LacksPart (info : Section) (start : ℕ) : Type 0 where
  pub place : ℕ
  pub searched : boundary_of (page_addresses info) start ≡ Some place
  pub page : PageEntry
  pub is : slice_get info.pages place ≡ Some page
  pub next : PageEntry
  pub after : slice_get info.pages (place + 1) ≡ Some next
  pub lacks : IsNoPart info.bytes (u32_number page.lsda_index_offset) (u32_number next.lsda_index_offset)

-- the function has a language table, and its page no such part
abbrev pub LacksTables : Section → Function → Type 0
LacksTables info function = IsTrue (has_language_table function.opcode) × LacksPart info function.start_address

-- ---- sections that list language tables as a linker writes them
-- addresses strictly ascend
abbrev pub AscendByAddress : List LsdaEntry → Type 0
AscendByAddress [] = Unit {0}
AscendByAddress (entry ∷ []) = Unit {0}
AscendByAddress (entry ∷ after ∷ entries) = (function_address entry < function_address after) × AscendByAddress (after ∷ entries)

-- a page's part reads, and its entries ascend
pub record IsDescribedPart (bytes : List ℕ) (page next : PageEntry) : Type 0 where
  pub entries : List LsdaEntry
  pub reads : lsda_entries_of page next bytes ≡ Ok entries
  pub ascend : AscendByAddress entries

-- the addresses of pages strictly ascend, and the part of each page but the last is described
abbrev pub ArePartsDescribed : List ℕ → List PageEntry → Type 0
ArePartsDescribed bytes [] = Unit {0}
ArePartsDescribed bytes (page ∷ []) = Unit {0}
ArePartsDescribed bytes (page ∷ next ∷ pages) =
    (first_address page < first_address next) × IsDescribedPart bytes page next × ArePartsDescribed bytes (next ∷ pages)

abbrev pub HasDescribedTables : Section → Type 0
HasDescribedTables info = ArePartsDescribed info.bytes info.pages

-- the table of the function that starts at an address, of those that a part lists
abbrev pub listed_among : ℕ → Result (List LsdaEntry) ReadError → Option ℕ
listed_among start (Ok entries) = option_map table_offset (find (λ entry. function_address entry == start) entries)
listed_among start (Err e) = None

-- An address belongs to the page that begins at or before it and whose next page begins after it.
abbrev pub is_of_page : PageEntry → PageEntry → ℕ → Bool
is_of_page page next address = nat_le (first_address page) address && nat_lt address (first_address next)

abbrev pub listed_in : List ℕ → List PageEntry → ℕ → Option ℕ
listed_in bytes [] start = None
listed_in bytes (page ∷ []) start = None
listed_in bytes (page ∷ next ∷ pages) start =
    if is_of_page page next start then listed_among start (lsda_entries_of page next bytes) else listed_in bytes (next ∷ pages) start

-- the language table of the function that starts at an address, as the pages list them
abbrev pub listed_table : Section → ℕ → Option ℕ
listed_table info start = listed_in info.bytes info.pages start
