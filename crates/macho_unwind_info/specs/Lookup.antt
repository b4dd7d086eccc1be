-- The function of an address: a search among the pages, and one among the entries of a page.
use Rattle.std.specs.Prelude.{◌≡◌, ℕ, ◌+◌, ◌-◌, ◌<◌, ◌≤◌, List, map, length, Option, Some, None, Result, Ok, Err, MatchResult, slice_get, slice_index}
use Rattle.memory_image.specs.Halving.{boundary_of}
use Rattle.macho_unwind_info.specs.Unaligned.{u32_number}
use Rattle.memory_image.specs.Results.{◌>>=◌}
use Rattle.macho_unwind_info.specs.Compressed.{relative_address}
use Rattle.macho_unwind_info.specs.Listing.{Section, page_of, entries_of, functions_of, answer_of}
use Rattle.macho_unwind_info.specs.declared.error.Error.{Error}
use Rattle.macho_unwind_info.specs.declared.error.Error.TheVariants.{InvalidPageEntryFirstAddress}
use Rattle.macho_unwind_info.specs.declared.raw.unaligned.U32.{U32}
use Rattle.macho_unwind_info.specs.declared.raw.format.Opcode.{Opcode}
use Rattle.macho_unwind_info.specs.declared.raw.format.PageEntry.{PageEntry}
use Rattle.macho_unwind_info.specs.declared.raw.format.RegularFunctionEntry.{RegularFunctionEntry}
use Rattle.macho_unwind_info.specs.declared.page.Page.{Page}
use Rattle.macho_unwind_info.specs.declared.page.Page.TheVariants.{Regular, Compressed}
use Rattle.macho_unwind_info.specs.declared.function.Function.{Function}

-- ---- searches
-- the key at the index is at or before p, and the next one, if there is one, after it
pub record IsBoundary (keys : List ℕ) (p i : ℕ) : Type 0 where
  pub within : i < length keys
  pub at_or_before : slice_index keys i ≤ p
  pub next_after : i + 1 < length keys → p < slice_index keys (i + 1)

-- A search answers a boundary, and none only where there are no keys or the first one is after p.
abbrev pub Finds : List ℕ → ℕ → Option ℕ → Type 0
Finds keys p (Some i) = IsBoundary keys p i
Finds keys p None = 0 < length keys → p < slice_index keys 0

-- ---- the keys of the two searches
abbrev pub first_address : PageEntry → ℕ
first_address page = u32_number page.first_address

abbrev pub start_address : RegularFunctionEntry → ℕ
start_address entry = u32_number entry.address

abbrev pub start_distance : U32 → ℕ
start_distance word = relative_address (u32_number word)

abbrev pub page_addresses : Section → List ℕ
page_addresses info = map first_address info.pages

-- the first page's address, and the last one's; 0 and 0 without pages, since 0 stands after a list's end
abbrev pub range_start : Section → ℕ
range_start info = slice_index (page_addresses info) 0

abbrev pub range_end : Section → ℕ
range_end info = slice_index (page_addresses info) (length info.pages - 1)

-- the entries of a page are found by their addresses less a base: 0 in a regular page, the page's first address in a compressed one
abbrev pub keys_of : Page → List ℕ
keys_of (Regular functions) = map start_address functions
keys_of (Compressed first functions local) = map start_distance functions

abbrev pub base_of : Page → ℕ
base_of (Regular functions) = 0
base_of (Compressed first functions local) = first

-- ---- the answer
abbrev pub answer_at : List (Result Function Error) → Option ℕ → Result (Option Function) Error
answer_at places None = Err InvalidPageEntryFirstAddress
answer_at places (Some i) = answer_of (slice_get places i)

-- what the search among a page's entries answers, where the next page begins at an address
pub record IsPageLookup (global : List Opcode) (page : Page) (next pc : ℕ) (answer : Result (Option Function) Error) : Type 0 where
  pub place : Option ℕ
  pub finds : Finds (keys_of page) (pc - base_of page) place
  pub is : answer ≡ answer_at (functions_of next (entries_of global page)) place

-- what is answered from a page and the one after it, if there is one
abbrev pub IsAnswerFrom : Section → ℕ → Option PageEntry → Option PageEntry → Result (Option Function) Error → Type 0
IsAnswerFrom info pc None next answer = answer ≡ Ok None
IsAnswerFrom info pc (Some page) None answer = answer ≡ Ok None
IsAnswerFrom info pc (Some page) (Some next) answer =
    MatchResult (page_of info.bytes page) (λ opened. IsPageLookup info.global_opcodes opened (first_address next) pc answer) (λ e. answer ≡ Err e)

-- none after the pages that the search passed, or where they begin after the address
abbrev pub IsAnswerAt : Section → ℕ → Option ℕ → Result (Option Function) Error → Type 0
IsAnswerAt info pc None answer = answer ≡ Ok None
IsAnswerAt info pc (Some i) answer = IsAnswerFrom info pc (slice_get info.pages i) (slice_get info.pages (i + 1)) answer

-- The look-up of an address.
pub record IsLookup (info : Section) (pc : ℕ) (answer : Result (Option Function) Error) : Type 0 where
  pub page : Option ℕ
  pub finds : Finds (page_addresses info) pc page
  pub is : IsAnswerAt info pc page answer

-- ---- the answer of the look-up: its searches halve, so that also in lists out of order it is always the same

-- what is answered from an opened page that another one follows
abbrev pub page_lookup_of : List Opcode → ℕ → ℕ → Page → Result (Option Function) Error
page_lookup_of global next pc page = answer_at (functions_of next (entries_of global page)) (boundary_of (keys_of page) (pc - base_of page))

abbrev pub answer_from : Section → ℕ → Option PageEntry → Option PageEntry → Result (Option Function) Error
answer_from info pc None next = Ok None
answer_from info pc (Some page) None = Ok None
answer_from info pc (Some page) (Some next) = page_of info.bytes page >>= page_lookup_of info.global_opcodes (first_address next) pc

abbrev pub answer_by : Section → ℕ → Option ℕ → Result (Option Function) Error
answer_by info pc None = Ok None
answer_by info pc (Some i) = answer_from info pc (slice_get info.pages i) (slice_get info.pages (i + 1))

unfoldable pub lookup_of : Section → ℕ → Result (Option Function) Error
lookup_of info pc = answer_by info pc (boundary_of (page_addresses info) pc)
