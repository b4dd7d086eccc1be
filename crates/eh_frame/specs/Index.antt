-- A prepared index of a frame table: the descriptions whose ranges aren't empty, by ascending start, each with the rows that are kept of it.
use Rattle.std.specs.Prelude.{◌≡◌, ◌⊎◌, ℕ, ◌+◌, ◌^◌, ◌<◌, ◌≤◌, true, false, List, [], ◌∷◌, length, map, slice_index_or, Option, Some, None, Result, Ok, Err}
use Rattle.std.specs.List.{AllByRecursion, sum_by}
use Rattle.std.specs.List.Sorted.{IsPermutation}
use Rattle.unwind_definitions.specs.declared.error.Error.{Error as Fault}
use Rattle.unwind_definitions.specs.declared.error.Error.TheVariants.{NoUnwindInfoForAddress}
use Rattle.unwind_definitions.specs.Input.{Input}
use Rattle.unwind_definitions.specs.Instructions.{Program, program}
use Rattle.unwind_definitions.specs.Pointers.{Bases}
use Rattle.unwind_definitions.specs.Entries.{Fde, Entry, AreEntries, coding_of}
use Rattle.unwind_definitions.specs.Row.{covers_pc}
use Rattle.frame_rows.specs.RowValue.{RowValue}
use Rattle.frame_rows.specs.KeptRows.{Kept, KeptRows, AreKeptOf, kept_rule_count, location_of, reached_locations, rows_from}
use Rattle.eh_frame.specs.Listed.{HasUnreadable, SharesAddress, nonempty}
use Rattle.eh_frame.specs.EntryViews.{fde_of}
use Rattle.eh_frame.specs.FdeLists.{IsListedIn, fde_in}
use Rattle.eh_frame.specs.declared.cie.Cie.{Cie as CodeCie}
use Rattle.eh_frame.specs.declared.prepared.Found.{Found}
use Rattle.eh_frame.specs.declared.prepared.PreparedFunction.{PreparedFunction}

-- a description, and what is kept of it
pub record Described : Type 0 where
  pub fde : Fde
  pub kept : List Kept

pub record Index : Type 0 where
  pub functions : List Described
  pub row_count : ℕ
  pub rule_count : ℕ

abbrev pub described_fde : Described → Fde
described_fde d = d.fde

-- the address after a range's last
abbrev pub end_of : Fde → ℕ
end_of fde = fde.start + fde.size

-- Ranges aren't empty, ascend and share no address, from one on.
abbrev pub AscendApart : {X : Type 0} → (X → Fde) → ℕ → List X → Type 0
AscendApart fde low [] = Unit {0}
AscendApart fde low (x ∷ xs) = (low ≤ (fde x).start) × (0 < (fde x).size) × AscendApart fde (end_of (fde x)) xs

-- ---- what an index is made from

abbrev pub common_program : Bases → Fde → Program
common_program bases fde = program (coding_of bases fde.cie) fde.cie.program

abbrev pub own_program : Bases → Fde → Program
own_program bases fde = program (coding_of bases fde.cie) fde.program

-- how many rows and faults, and how many rules of registers, are kept of a description
unfoldable pub rows_due : Bases → Fde → ℕ
rows_due bases fde = length (reached_locations fde.start (end_of fde) (common_program bases fde) (own_program bases fde))

unfoldable pub rules_due : Bases → Fde → ℕ
rules_due bases fde = kept_rule_count fde.start (end_of fde) (common_program bases fde) (own_program bases fde)

-- of a description its rows are kept
abbrev pub IsRowedBy : Bases → Described → Type 0
IsRowedBy bases d = AreKeptOf d.fde.start (end_of d.fde) (common_program bases d.fde) (own_program bases d.fde) d.kept

-- an index of a table, all of whose entries can be read
pub record IsPreparedFrom (bases : Bases) (table : Input) (index : Index) : Type 0 where
  pub from_start : table.offset ≡ 0
  pub entries : List Entry
  pub are : AreEntries bases table 0 entries
  pub each : IsPermutation (nonempty entries) (map described_fde index.functions)
  pub some : 0 < length index.functions
  pub apart : AscendApart described_fde 0 index.functions
  pub rowed : AllByRecursion (IsRowedBy bases) index.functions
  pub row_count : index.row_count ≡ sum_by (rows_due bases) (nonempty entries)
  pub rule_count : index.rule_count ≡ sum_by (rules_due bases) (nonempty entries)

-- ---- which tables have none

-- no range holds a byte, two share an address, or too much would be kept
abbrev pub IsUnfit : Bases → ℕ → ℕ → List Fde → Type 0
IsUnfit bases rows rules fdes = (fdes ≡ []) ⊎ (SharesAddress fdes ⊎ ((rows < sum_by (rows_due bases) fdes) ⊎ (rules < sum_by (rules_due bases) fdes)))

-- all entries can be read, and the descriptions are unfit
pub record HasUnfit (bases : Bases) (table : Input) (rows rules : ℕ) : Type 0 where
  pub entries : List Entry
  pub are : AreEntries bases table 0 entries
  pub unfit : IsUnfit bases rows rules (nonempty entries)

-- a table that can't be prepared within so many rows and rules
abbrev pub CannotBePrepared : Bases → Input → ℕ → ℕ → Type 0
CannotBePrepared bases table rows rules = HasUnreadable bases table ⊎ HasUnfit bases table rows rules

-- a table is prepared within so many rows and rules, or can't be
abbrev pub Prepares : Bases → Input → ℕ → ℕ → Option Index → Type 0
Prepares bases table rows rules (Some index) = IsPreparedFrom bases table index × (index.row_count ≤ rows) × (index.rule_count ≤ rules)
Prepares bases table rows rules None = CannotBePrepared bases table rows rules

-- the rows of descriptions are kept, or would be too many
pub record AreKept (fdes : List Fde) (rows rules : ℕ) (bases : Bases) (index : Index) : Type 0 where
  pub each : map described_fde index.functions ≡ fdes
  pub rowed : AllByRecursion (IsRowedBy bases) index.functions
  pub row_count : index.row_count ≡ sum_by (rows_due bases) fdes
  pub rule_count : index.rule_count ≡ sum_by (rules_due bases) fdes
  pub rows_fit : index.row_count ≤ rows
  pub rules_fit : index.rule_count ≤ rules

abbrev pub KeepsRows : List Fde → ℕ → ℕ → Bases → Option Index → Type 0
KeepsRows fdes rows rules bases (Some index) = AreKept fdes rows rules bases index
KeepsRows fdes rows rules bases None = (rows < sum_by (rows_due bases) fdes) ⊎ (rules < sum_by (rules_due bases) fdes)

-- ---- what an index finds

-- an index's description contains an address
pub record IsFoundAt (functions : List Described) (pc i : ℕ) (fde : Fde) : Type 0 where
  pub within : i < length functions
  pub stands : (d : Described) → (slice_index_or functions i d).fde ≡ fde
  pub contains : covers_pc fde pc ≡ true

-- one that contains the address, or none where none does
abbrev pub FindsFde : List Described → ℕ → Option Found → Type 0
FindsFde functions pc (Some found) = IsFoundAt functions pc found.index (fde_of found.fde)
FindsFde functions pc None = AllByRecursion (λ d. covers_pc d.fde pc ≡ false) functions

-- the same by the index alone
abbrev pub FindsIndex : List Described → ℕ → Option ℕ → Type 0
FindsIndex functions pc (Some i) = (i < length functions) × ((d : Described) → covers_pc (slice_index_or functions i d).fde pc ≡ true)
FindsIndex functions pc None = AllByRecursion (λ d. covers_pc d.fde pc ≡ false) functions

-- what a scan answers for the same address
abbrev pub scan_answer : Option Found → Result Fde Fault
scan_answer (Some found) = Ok (fde_of found.fde)
scan_answer None = Err NoUnwindInfoForAddress

-- what an index shows at an address: the description that contains it, and its row or fault there
pub record ShownFrame : Type 0 where
  pub fde : Fde
  pub row : Result RowValue Fault

-- what is shown is of one of the index's descriptions, which contains the address, or none does
pub record IsShownFrom (functions : List Described) (pc : ℕ) (fde : Fde) : Type 0 where
  pub index : ℕ
  pub found : IsFoundAt functions pc index fde

abbrev pub ShowsFrame : List Described → ℕ → Option ShownFrame → Type 0
ShowsFrame functions pc (Some frame) = IsShownFrom functions pc frame.fde
ShowsFrame functions pc None = AllByRecursion (λ d. covers_pc d.fde pc ≡ false) functions

-- what a scan answers for the same address
abbrev pub shown_answer : Option ShownFrame → Result Fde Fault
shown_answer (Some frame) = Ok frame.fde
shown_answer None = Err NoUnwindInfoForAddress

-- ---- how an index stands in the code

abbrev pub described_in : List CodeCie → List Kept → PreparedFunction → Described
described_in cies rows f = record { fde = fde_in cies f.fde; kept = rows_from f.fde.initial_address rows f.rows }

abbrev pub start_of : PreparedFunction → ℕ
start_of f = f.fde.initial_address

-- a function has rows among those of all, from its start on
pub record HasRows (cies : List CodeCie) (rows : List Kept) (f : PreparedFunction) : Type 0 where
  pub listed : IsListedIn cies f.fde
  pub some : f.rows.first < f.rows.end
  pub within : f.rows.end ≤ length rows
  pub begun : (d : Kept) → location_of (slice_index_or rows f.rows.first d) ≡ 0

pub record IsIndex (cies : List CodeCie) (starts : List ℕ) (functions : List PreparedFunction) (rows : KeptRows) : Type 0 where
  pub starts_are : starts ≡ map start_of functions
  pub some : 0 < length functions
  pub apart : AscendApart described_fde 0 (map (described_in cies rows.rows) functions)
  pub rowed : AllByRecursion (HasRows cies rows.rows) functions
  pub rows_fit : rows.row_count < 2 ^ 32
  pub rules_fit : rows.rule_count < 2 ^ 32

-- so many steps are taken, one at least, and no more than there are binary digits in a count
pub record AreFewSteps (count old new : ℕ) : Type 0 where
  pub one : old < new
  pub digits : (digits : ℕ) → count < 2 ^ digits → new ≤ old + digits
