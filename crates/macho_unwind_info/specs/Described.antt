-- Sections whose pages describe functions: what a linker writes.
use Rattle.std.specs.Prelude.{◌≡◌, ℕ, ◌+◌, ◌<◌, ◌≤◌, ◌⊎◌, List, [], ◌∷◌, Option, Some, Result, Ok, Contains}
use Rattle.memory_image.specs.Results.{◌>>=◌}
use Rattle.macho_unwind_info.specs.Listing.{Section, page_of, whole_page, entries_of, listing}
use Rattle.macho_unwind_info.specs.Lookup.{first_address, range_start, range_end}
use Rattle.macho_unwind_info.specs.declared.error.Error.{Error}
use Rattle.macho_unwind_info.specs.declared.raw.format.Opcode.{Opcode}
use Rattle.macho_unwind_info.specs.declared.raw.format.PageEntry.{PageEntry}
use Rattle.macho_unwind_info.specs.declared.page.Page.{Page}
use Rattle.macho_unwind_info.specs.declared.page.Entry.{Entry}
use Rattle.macho_unwind_info.specs.declared.function.Function.{Function}

-- ---- pages
-- an entry whose address lies from one address up to another, and whose opcode is there
pub record IsEntryWithin (low high : ℕ) (entry : Entry) : Type 0 where
  pub at : ℕ
  pub is : entry.address ≡ Ok at
  pub from_low : low ≤ at
  pub below_high : at < high
  pub opcode : ℕ
  pub reads : entry.opcode ≡ Ok opcode

-- entries that strictly ascend
abbrev pub AscendWithin : ℕ → ℕ → List Entry → Type 0
AscendWithin low high [] = Unit {0}
AscendWithin low high (entry ∷ entries) = (within : IsEntryWithin low high entry) × AscendWithin (within.at + 1) high entries

abbrev pub BeginAt : ℕ → List Entry → Type 0
BeginAt first [] = ⊥
BeginAt first (entry ∷ entries) = entry.address ≡ Ok first

-- A page reads, begins with an entry at the page's address, and its entries strictly ascend below the next page's.
pub record IsDescribedPage (bytes : List ℕ) (global : List Opcode) (page : PageEntry) (next : ℕ) : Type 0 where
  pub opened : Page
  pub reads : (page_of bytes page >>= whole_page) ≡ Ok opened
  pub begin : BeginAt (first_address page) (entries_of global opened)
  pub ascend : AscendWithin (first_address page) next (entries_of global opened)

-- the addresses of pages strictly ascend, and each page but the last is described
abbrev pub AreDescribed : List ℕ → List Opcode → List PageEntry → Type 0
AreDescribed bytes global [] = Unit {0}
AreDescribed bytes global (page ∷ []) = Unit {0}
AreDescribed bytes global (page ∷ next ∷ pages) =
    (first_address page < first_address next) × IsDescribedPage bytes global page (first_address next) × AreDescribed bytes global (next ∷ pages)

abbrev pub HasDescribedPages : Section → Type 0
HasDescribedPages info = AreDescribed info.bytes info.global_opcodes info.pages

-- ---- the functions of such pages
abbrev pub Covers : Function → ℕ → Type 0
Covers function pc = (function.start_address ≤ pc) × (pc < function.end_address)

abbrev pub IsInRange : Section → ℕ → Type 0
IsInRange info pc = (range_start info ≤ pc) × (pc < range_end info)

abbrev pub IsOutside : Section → ℕ → Type 0
IsOutside info pc = (pc < range_start info) ⊎ (range_end info ≤ pc)

-- a listed function that covers an address
pub record IsListedAt (info : Section) (pc : ℕ) (function : Function) : Type 0 where
  pub listed : Contains (listing info) (Ok function)
  pub covers : Covers function pc

-- the answer is a listed function that covers the address
abbrev pub FindsListed : Section → ℕ → Result (Option Function) Error → Type 0
FindsListed info pc answer = (function : Function) × (answer ≡ Ok (Some function)) × IsListedAt info pc function

-- each listed function that covers the address is the answer
abbrev pub FindsEachListed : Section → ℕ → Result (Option Function) Error → Type 0
FindsEachListed info pc answer = (function : Function) → IsListedAt info pc function → answer ≡ Ok (Some function)

-- functions that lie end to end from one address to another, without an error among them
pub record IsNext (low : ℕ) (place : Result Function Error) : Type 0 where
  pub function : Function
  pub is : place ≡ Ok function
  pub start : function.start_address ≡ low
  pub ends_after : low < function.end_address

abbrev pub LieEndToEnd : ℕ → ℕ → List (Result Function Error) → Type 0
LieEndToEnd low high [] = low ≡ high
LieEndToEnd low high (place ∷ places) = (next : IsNext low place) × LieEndToEnd next.function.end_address high places
