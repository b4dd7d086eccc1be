-- Descriptions whose common information entries stand in a list, as they stand in the code. No public clause cites this.
use Rattle.std.specs.Prelude.{◌≡◌, ℕ, ◌+◌, ◌<◌, ◌≤◌, Bool, true, false, List, [], ◌∷◌, ◌++◌, length, map, slice_index_or, Option, Some, None, Result, Ok, Err, is_some, nat_lt, if◌then◌else◌}
use Rattle.std.specs.Option.{option_map}
use Rattle.std.specs.List.{AllByRecursion}
use Rattle.std.specs.List.Sorted.{IsNonDecreasingBy}
use Rattle.unwind_definitions.specs.Input.{Input}
use Rattle.unwind_definitions.specs.Pointers.{Bases}
use Rattle.unwind_definitions.specs.declared.error.Error.{Error as Fault}
use Rattle.unwind_definitions.specs.Entries.{Cie, Entry, Fde, cie_at, entry_in, is_pointing}
use Rattle.encoded_pointers.specs.CursorViews.{at}
use Rattle.encoded_pointers.specs.PointerViews.{pointer_of}
use Rattle.eh_frame.specs.Listed.{HasUnreadable, IsWhole, nonempty}
use Rattle.eh_frame.specs.Shared.{StandsIn, cie_of_entry}
use Rattle.eh_frame.specs.EntryViews.{cie_of}
use Rattle.eh_frame.specs.declared.cie.Cie.{Cie as CodeCie}
use Rattle.eh_frame.specs.declared.fde_list.FdeList.{FdeList}
use Rattle.eh_frame.specs.declared.indexed_fde.IndexedFde.{IndexedFde}
use Rattle.eh_frame.specs.declared.prepared.PreparedFunction.{PreparedFunction}

-- an entry of no use, past the end of a list
abbrev pub no_cie : Cie
no_cie = record {
  offset = 0;
  version = 0;
  code_factor = 0;
  data_factor = 0;
  return_column = 0;
  augmentation = [];
  letters = record { language = None; personality = None; address = None; signal = false };
  program = record { base = 0; offset = 0; bytes = [] };
}

abbrev pub fde_with : Cie → IndexedFde → Fde
fde_with cie f = record {
  offset = f.offset;
  cie = cie;
  start = f.initial_address;
  size = f.len;
  language = option_map pointer_of f.lsda;
  program = at f.program;
}

abbrev pub cie_in : List CodeCie → ℕ → Cie
cie_in cies i = slice_index_or (map cie_of cies) i no_cie

abbrev pub fde_in : List CodeCie → IndexedFde → Fde
fde_in cies f = fde_with (cie_in cies f.cie) f

-- a description has a language table where its common information entry says so
abbrev pub IsTold : Cie → IndexedFde → Type 0
IsTold cie f = is_some f.lsda ≡ is_pointing cie.letters.language

-- a description's common information entry is in a list
pub record IsListedIn (cies : List CodeCie) (f : IndexedFde) : Type 0 where
  pub within : f.cie < length cies
  pub told : IsTold (cie_in cies f.cie) f

-- the same of a description beside which its rows are noted
abbrev pub function_in : List CodeCie → PreparedFunction → Fde
function_in cies f = fde_in cies f.fde

abbrev pub IsFunctionIn : List CodeCie → PreparedFunction → Type 0
IsFunctionIn cies f = IsListedIn cies f.fde

abbrev pub fdes_in : FdeList → List Fde
fdes_in list = map (function_in list.cies.items) list.fdes.items

-- a list's descriptions are these, and its common information entries those of a table
pub record IsListOf (bases : Bases) (table : Input) (cies : List CodeCie) (listed : List PreparedFunction) (fdes : List Fde) : Type 0 where
  pub stand : AllByRecursion (StandsIn bases table) (map cie_of cies)
  pub named : AllByRecursion (IsFunctionIn cies) listed
  pub are : map (function_in cies) listed ≡ fdes

-- a common information entry of a table stands in a list of some, to which it may be added
pub record KeepsCie (old : List CodeCie) (cie : Cie) (index : ℕ) (new : List CodeCie) : Type 0 where
  pub more : List CodeCie
  pub grown : new ≡ old ++ more
  pub within : index < length new
  pub is : (bases : Bases) (table : Input) → AllByRecursion (StandsIn bases table) (map cie_of old) → StandsIn bases table cie → cie_in new index ≡ cie
  pub stand : (bases : Bases) (table : Input) → AllByRecursion (StandsIn bases table) (map cie_of old) → StandsIn bases table cie → AllByRecursion (StandsIn bases table) (map cie_of new)

-- the common information entry at an offset stands in a list of some, or can't be read
abbrev pub ListsCie : Bases → Input → ℕ → List CodeCie → Option ℕ → List CodeCie → Type 0
ListsCie bases table offset old (Some index) new = (cie : Cie) × (cie_at bases table offset ≡ Ok cie) × KeepsCie old cie index new
ListsCie bases table offset old None new = (fault : Fault) × (cie_at bases table offset ≡ Err fault)

-- a common information entry is added to others, or can't be read
abbrev pub AddsCie : Result Cie Fault → List CodeCie → Bool → List CodeCie → Type 0
AddsCie read old true new = (code : CodeCie) × (read ≡ Ok (cie_of code)) × (new ≡ old ++ code ∷ [])
AddsCie read old false new = (fault : Fault) × (read ≡ Err fault)

-- a description is added to others where its range isn't empty, or can't be read
abbrev pub AddsFde : Result Fde Fault → List CodeCie → List PreparedFunction → Bool → List PreparedFunction → Type 0
AddsFde read cies old true new = (f : PreparedFunction) × (read ≡ Ok (function_in cies f)) × IsFunctionIn cies f × (new ≡ (if nat_lt 0 f.fde.len then old ++ f ∷ [] else old))
AddsFde read cies old false new = (fault : Fault) × (read ≡ Err fault)

-- the entry of a body at an offset is listed, or can't be read
abbrev pub ListsEntry : Bases → Input → ℕ → Input → FdeList → Bool → FdeList → Type 0
ListsEntry bases table offset body old true new = (entry : Entry) × (entry_in bases table offset body ≡ Ok entry) ×
    ((fdes : List Fde) → IsListOf bases table old.cies.items old.fdes.items fdes → StandsIn bases table (cie_of_entry entry) → IsListOf bases table new.cies.items new.fdes.items (fdes ++ nonempty (entry ∷ [])))
ListsEntry bases table offset body old false new = (fault : Fault) × (entry_in bases table offset body ≡ Err fault)

-- all entries can be read, and these are the descriptions whose ranges aren't empty
abbrev pub ListsFdes : Bases → Input → Option FdeList → Type 0
ListsFdes bases table (Some list) = IsWhole bases table (fdes_in list) × AllByRecursion (IsFunctionIn list.cies.items) list.fdes.items
ListsFdes bases table None = HasUnreadable bases table

-- Descriptions stand one after another, the end of each at or before the start of the next.
abbrev pub AreApart : List PreparedFunction → Type 0
AreApart fdes = (i : ℕ) (d : PreparedFunction) → i + 1 < length fdes → (slice_index_or fdes i d).fde.initial_address + (slice_index_or fdes i d).fde.len ≤ (slice_index_or fdes (i + 1) d).fde.initial_address

-- one starts before the end of the one before it
abbrev pub ShareOne : List PreparedFunction → Type 0
ShareOne fdes = (i : ℕ) × (i + 1 < length fdes) × ((d : PreparedFunction) → (slice_index_or fdes (i + 1) d).fde.initial_address < (slice_index_or fdes i d).fde.initial_address + (slice_index_or fdes i d).fde.len)

-- starts don't descend
abbrev pub AreSorted : List PreparedFunction → Type 0
AreSorted fdes = IsNonDecreasingBy (λ (f : PreparedFunction). f.fde.initial_address) fdes
