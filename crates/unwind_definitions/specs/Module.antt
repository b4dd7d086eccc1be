-- Modules of a stopped process, and when the tables of an ELF module describe functions.
-- LSB, sections on the .eh_frame and .eh_frame_hdr sections.
use Rattle.std.specs.Prelude.{◌≡◌, ◌⊎◌, ℕ, ◌+◌, ◌%◌, ◌^◌, ◌<◌, ◌≤◌, Bool, false, ◌&&◌, List, [], ◌∷◌, length, map, take, Option, Some, None, Result, Ok, Err, IsTrue, nat_lt, nat_le}
use Rattle.std.specs.Int.{w32}
use Rattle.std.specs.List.{Contains, AllPairs, AllByRecursion}
use Rattle.std.specs.List.Sorted.{IsPermutation}
use Rattle.memory_image.specs.Image.{Span, table_at, IsLaidOut}
use Rattle.unwind_definitions.specs.Faults.{Fault}
use Rattle.unwind_definitions.specs.Input.{Input, number, skip}
use Rattle.unwind_definitions.specs.PointerEncodings.{DW_EH_PE_udata4, pcrel_sdata4, datarel_sdata4}
use Rattle.unwind_definitions.specs.Pointers.{Bases, direct}
use Rattle.unwind_definitions.specs.Entries.{Fde, Entry, AreEntries}
use Rattle.unwind_definitions.specs.Header.{header_version}
use Rattle.unwind_definitions.specs.Row.{covers_pc}
use Rattle.unwind_definitions.specs.Scan.{fdes_of}
use Rattle.unwind_definitions.specs.Function.{Function}
use Rattle.unwind_definitions.specs.LanguageTable.{input_at}
use Rattle.unwind_definitions.specs.FrameTable.{DescribesFrames}

-- where a module's tables are: a frame table, or a header table that leads to one
pub data Tables : Type 0 where
  Frames Header : ℕ → Tables

-- the range of addresses of a module, its text's address, where it is known, and its tables
pub record Module : Type 0 where
  pub start : ℕ
  pub end : ℕ
  pub text : Option ℕ
  pub tables : Tables

-- the memory of a stopped process, and its modules
pub record Process : Type 0 where
  pub image : List Span
  pub modules : List Module

abbrev pub in_module : ℕ → Module → Bool
in_module a m = nat_le m.start a && nat_lt a m.end

abbrev pub AreApart : Module → Module → Type 0
AreApart m n = (m.end ≤ n.start) ⊎ (n.end ≤ m.start)

-- a nonempty range below 2^64
abbrev pub IsModuleRange : Module → Type 0
IsModuleRange m = (m.start < m.end) × (m.end < 2 ^ 64)

-- no address is in two regions, or in two modules
pub record IsElfProcess (p : Process) : Type 0 where
  pub regions : IsLaidOut 0 p.image
  pub ranges : AllByRecursion IsModuleRange p.modules
  pub apart : AllPairs AreApart p.modules

-- ---- header tables

abbrev pub no_bases : Bases
no_bases = record { text = None; data_base = None; func = None; hdr = None; frame = None }

-- In a header table addresses are relative to the header.
abbrev pub header_bases : ℕ → Bases
header_bases h = record no_bases { data_base = Some h }

-- a header's version, and its encodings of the frame table's address, of the count, and of addresses in the table
abbrev pub header_form : List ℕ
header_form = header_version ∷ pcrel_sdata4 ∷ DW_EH_PE_udata4 ∷ datarel_sdata4 ∷ []

-- the frame table's address: four signed bytes after those, relative to their place
abbrev pub header_pointer : List Span → ℕ → Result (ℕ × Input) Fault
header_pointer image h = direct pcrel_sdata4 no_bases (skip 4 (input_at image h))

-- one pair of addresses after another, four signed bytes each
abbrev pub ArePairs : ℕ → Input → List (ℕ × ℕ) → Type 0
ArePairs h c [] = Unit {0}
ArePairs h c (p ∷ ps) = (middle : Input) × (next : Input) × (direct datarel_sdata4 (header_bases h) c ≡ Ok (p.0, middle)) × (direct datarel_sdata4 (header_bases h) middle ≡ Ok (p.1, next)) × ArePairs h next ps

-- a description's start, and its own address in the frame table
abbrev pub pair_of : ℕ → Fde → ℕ × ℕ
pair_of frame fde = (fde.start, (frame + fde.offset) % 2 ^ 64)

-- each pair starts above the one before
abbrev pub StartsAscend : List (ℕ × ℕ) → Type 0
StartsAscend [] = Unit {0}
StartsAscend (p ∷ []) = Unit {0}
StartsAscend (p ∷ q ∷ ps) = (p.0 < q.0) × StartsAscend (q ∷ ps)

-- A header table lists the descriptions of a frame table: how many there are, and one pair for each, by ascending start.
pub record IsHeaderTable (image : List Span) (h frame : ℕ) (fdes : List Fde) : Type 0 where
  pub form : take 4 (table_at image h) ≡ header_form
  pub counted : Input
  pub pointer : header_pointer image h ≡ Ok (frame, counted)
  pub listed : Input
  pub count : number w32 counted ≡ Ok (length fdes, listed)
  pub pairs : List (ℕ × ℕ)
  pub reads : ArePairs h listed pairs
  pub each : IsPermutation (map (pair_of frame) fdes) pairs
  pub ascend : StartsAscend pairs

-- ---- a module's frame table

abbrev pub address_in : Result (ℕ × Input) Fault → Option ℕ
address_in (Ok r) = Some r.0
address_in (Err e) = None

-- the frame table's address, which may be known by the header alone
abbrev pub frame_address : List Span → Tables → Option ℕ
frame_address image (Frames a) = Some a
frame_address image (Header h) = address_in (header_pointer image h)

abbrev pub header_of : Tables → Option ℕ
header_of (Frames a) = None
header_of (Header h) = Some h

-- what the pointers in a module's frame table may be relative to
abbrev pub bases_of : Module → ℕ → Bases
bases_of m frame = record { text = m.text; data_base = None; func = None; hdr = header_of m.tables; frame = Some frame }

-- a header table, where the module has one, lists the frame table's descriptions
abbrev pub HeaderLists : List Span → Tables → ℕ → List Fde → Type 0
HeaderLists image (Frames a) frame fdes = Unit {0}
HeaderLists image (Header h) frame fdes = IsHeaderTable image h frame fdes

abbrev pub DescriptionsApart : Fde → Fde → Type 0
DescriptionsApart a b = (a.start + a.size ≤ b.start) ⊎ (b.start + b.size ≤ a.start)

-- An ELF module describes functions, which lie inside it: its frame table does, whose descriptions have nonempty ranges
-- that share no address, and its header table lists them all.
pub record DescribesModule (image : List Span) (m : Module) (functions : List Function) : Type 0 where
  pub frame : ℕ
  pub address : frame_address image m.tables ≡ Some frame
  pub entries : List Entry
  pub frames : DescribesFrames image (bases_of m frame) (input_at image frame) entries functions
  pub nonempty : AllByRecursion (λ (fde : Fde). 0 < fde.size) (fdes_of entries)
  pub apart : AllPairs DescriptionsApart (fdes_of entries)
  pub inside : AllByRecursion (λ (f : Function). (m.start ≤ f.start) × (f.end ≤ m.end)) functions
  pub header : HeaderLists image m.tables frame (fdes_of entries)

-- An ELF module's frame table reads, none of its descriptions contains an address, and its header table lists them all.
pub record CoversNot (image : List Span) (m : Module) (a : ℕ) : Type 0 where
  pub frame : ℕ
  pub address : frame_address image m.tables ≡ Some frame
  pub entries : List Entry
  pub reads : AreEntries (bases_of m frame) (input_at image frame) 0 entries
  pub uncovered : AllByRecursion (λ (fde : Fde). covers_pc fde a ≡ false) (fdes_of entries)
  pub header : HeaderLists image m.tables frame (fdes_of entries)

-- an address is in no module, or in one none of whose descriptions contains it
abbrev pub IsUncovered : Process → ℕ → Type 0
IsUncovered p a = (m : Module) → Contains p.modules m → IsTrue (in_module a m) → CoversNot p.image m a
