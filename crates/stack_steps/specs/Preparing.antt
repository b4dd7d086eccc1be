-- Which modules of a space are prepared, by what index, and which become so.
-- LSB, sections on .eh_frame and .eh_frame_hdr.
use Rattle.std.specs.Prelude.{◌≡◌, ◌⊎◌, ℕ, ◌-◌, ◌<◌, ◌≤◌, List, [], ◌∷◌, length, map, set, slice_get, Option, Some, None, IfSome, IsSome, is_some, if◌then◌else◌}
use Rattle.std.specs.List.{Contains, count_by, sum_by}
use Rattle.memory_image.specs.Image.{Span}
use Rattle.unwind_definitions.specs.Entries.{Fde}
use Rattle.unwind_definitions.specs.Header.{PairTable}
use Rattle.eh_frame.specs.HeaderLists.{ListsEach}
use Rattle.eh_frame.specs.Index.{Index, IsPreparedFrom, CannotBePrepared, described_fde}
use Rattle.fde_finders.specs.declared.custom.FrameInfo.{FrameInfo}
use Rattle.fde_finders.specs.declared.custom.FrameInfoKind.{FrameInfoKind}
use Rattle.fde_finders.specs.declared.custom.FrameInfoKind.TheVariants.{EhFrame, EhFrameHdr}
use Rattle.fde_finders.specs.FrameTables.{FrameTable, table_by}
use Rattle.stack_steps.specs.declared.space.ModuleTables.{ModuleTables}
use Rattle.stack_steps.specs.declared.space.ModuleTables.TheVariants.{Elf}
use Rattle.stack_steps.specs.Modules.{Added, SpaceValue, contains, module_at}

-- ---- the index of a module

-- the descriptions that an index holds: those whose ranges aren't empty, ascending by start
abbrev pub fdes_in : Index → List Fde
fdes_in index = map described_fde index.functions

-- a header has a table, which lists exactly these descriptions of the frame table at an address, in this order
abbrev pub HeaderLists : Option PairTable → ℕ → List Fde → Type 0
HeaderLists None frame fdes = ⊥
HeaderLists (Some pairs) frame fdes = ListsEach pairs frame fdes

-- The same of the header that a module names. Where it names a frame table itself nothing is asked.
abbrev pub Lists : FrameInfoKind → FrameTable → List Fde → Type 0
Lists (EhFrame frame) table fdes = Unit {0}
Lists (EhFrameHdr h) table fdes = HeaderLists table.pairs table.entries.base fdes

-- An index of the frame table that a module names. A header that leads to it lists exactly the descriptions whose ranges aren't
-- empty, ascending by start.
pub record IsIndexOf (image : List Span) (tables : FrameInfo) (index : Index) : Type 0 where
  pub table : FrameTable
  pub names : table_by tables image ≡ Some table
  pub prepared : IsPreparedFrom table.bases table.entries index
  pub listed : Lists tables.kind table (fdes_in index)

-- ---- why a module can't be prepared within so many rows and rules

-- its frame table has no index that keeps no more
pub record HasNoIndex (image : List Span) (tables : FrameInfo) (rows rules : ℕ) : Type 0 where
  pub table : FrameTable
  pub names : table_by tables image ≡ Some table
  pub unfit : CannotBePrepared table.bases table.entries rows rules

-- it has one, but the header lists something else
pub record IsUnlisted (image : List Span) (tables : FrameInfo) : Type 0 where
  pub table : FrameTable
  pub names : table_by tables image ≡ Some table
  pub index : Index
  pub prepared : IsPreparedFrom table.bases table.entries index
  pub unlisted : ¬ Lists tables.kind table (fdes_in index)

abbrev pub CannotPrepare : List Span → FrameInfo → ℕ → ℕ → Type 0
CannotPrepare image tables rows rules = (table_by tables image ≡ None) ⊎ (HasNoIndex image tables rows rules ⊎ IsUnlisted image tables)

-- the same of a module: only an ELF module can be prepared
abbrev pub IsIndexIn : List Span → ModuleTables → Index → Type 0
IsIndexIn image (Elf tables) index = IsIndexOf image tables index
IsIndexIn image _ index = ⊥

abbrev pub HasNoIndexIn : List Span → ModuleTables → ℕ → ℕ → Type 0
HasNoIndexIn image (Elf tables) rows rules = HasNoIndex image tables rows rules
HasNoIndexIn image _ rows rules = Unit {0}

abbrev pub CannotPrepareIn : List Span → ModuleTables → ℕ → ℕ → Type 0
CannotPrepareIn image (Elf tables) rows rules = CannotPrepare image tables rows rules
CannotPrepareIn image _ rows rules = Unit {0}

-- ---- the indexes of a space

abbrev pub rows_of : Option Index → ℕ
rows_of None = 0
rows_of (Some index) = index.row_count

abbrev pub rules_of : Option Index → ℕ
rules_of None = 0
rules_of (Some index) = index.rule_count

abbrev pub index_of : Added → Option Index
index_of m = m.index

-- how many more rows, and rules, the indexes of a space may keep: 1,048,576 and 4,194,304 in all
abbrev pub rows_left : List Added → ℕ
rows_left ms = 1048576 - sum_by (λ m. rows_of (index_of m)) ms

abbrev pub rules_left : List Added → ℕ
rules_left ms = 4194304 - sum_by (λ m. rules_of (index_of m)) ms

-- the index of the module that contains an address, if one does and is prepared
abbrev pub index_at : List Added → ℕ → Option Index
index_at [] a = None
index_at (m ∷ ms) a = if contains m.holder a then m.index else index_at ms a

abbrev pub len_of : Option Index → ℕ
len_of None = 0
len_of (Some index) = length index.functions

-- A module in the order of adding is one of those by start, and its index is one of its frame table.
pub record IsAddedTo (space : SpaceValue) (m : Added) : Type 0 where
  pub among : Contains space.modules m.holder
  pub indexed : IfSome m.index (IsIndexIn space.image m.holder.tables)

-- how many descriptions the index of that module has
abbrev pub prepared_len : SpaceValue → ℕ → ℕ
prepared_len space a = len_of (index_at space.added a)

-- ---- which modules become prepared

-- a module that wasn't prepared gets an index, which keeps no more rows and rules than are left
pub record Becomes (image : List Span) (rows rules : ℕ) (m : Added) (index : Index) : Type 0 where
  pub unprepared : m.index ≡ None
  pub is_index : IsIndexIn image m.holder.tables index
  pub rows_fit : index.row_count ≤ rows
  pub rules_fit : index.rule_count ≤ rules
  pub some : 0 < index.row_count
  pub fits : ¬ HasNoIndexIn image m.holder.tables rows rules

-- it gets none where it has one, or can't be prepared
abbrev pub Stays : List Span → ℕ → ℕ → Added → Type 0
Stays image rows rules m = IsSome m.index ⊎ CannotPrepareIn image m.holder.tables rows rules

abbrev pub BecomesBy : List Span → ℕ → ℕ → Added → Option Index → Type 0
BecomesBy image rows rules m None = Stays image rows rules m
BecomesBy image rows rules m (Some index) = Becomes image rows rules m index

-- These indexes are made for modules, one after another; so many rows and rules are left, and then so many.
abbrev pub Make : List Span → ℕ → ℕ → List Added → List (Option Index) → ℕ → ℕ → Type 0
Make image rows rules [] [] rows_after rules_after = (rows_after ≡ rows) × (rules_after ≡ rules)
Make image rows rules (m ∷ ms) (o ∷ made) rows_after rules_after = BecomesBy image rows rules m o × Make image (rows - rows_of o) (rules - rules_of o) ms made rows_after rules_after
Make image rows rules [] (o ∷ made) rows_after rules_after = ⊥
Make image rows rules (m ∷ ms) [] rows_after rules_after = ⊥

-- a module with an index that was made for it
abbrev pub with_index : Added → Option Index → Added
with_index m None = m
with_index m (Some index) = record m { index = Some index }

abbrev pub with_indexes : List Added → List (Option Index) → List Added
with_indexes [] made = []
with_indexes (m ∷ ms) [] = m ∷ ms
with_indexes (m ∷ ms) (o ∷ made) = with_index m o ∷ with_indexes ms made

-- Modules of a space become prepared: in the order in which they were added each that wasn't and that can be, within what is left.
-- So many became so, and nothing else changes.
pub record Prepares (old : SpaceValue) (count : ℕ) (new : SpaceValue) : Type 0 where
  pub made : List (Option Index)
  pub rows_after : ℕ
  pub rules_after : ℕ
  pub make : Make old.image (rows_left old.added) (rules_left old.added) old.added made rows_after rules_after
  pub counted : count ≡ count_by is_some made
  pub is : new ≡ record old { added = with_indexes old.added made }

-- The module at a place in the order of adding is the one that contains an address.
pub record HoldsAt (space : SpaceValue) (a : ℕ) (place : ℕ) : Type 0 where
  pub added : Added
  pub stands : slice_get space.added place ≡ Some added
  pub holds : module_at space.modules a ≡ Some added.holder
  pub indexed : index_at space.added a ≡ added.index

-- The module that contains an address becomes prepared, within what is left, and nothing else changes.
pub record PreparesAt (old : SpaceValue) (a : ℕ) (new : SpaceValue) : Type 0 where
  pub place : ℕ
  pub at : HoldsAt old a place
  pub index : Index
  pub becomes : Becomes old.image (rows_left old.added) (rules_left old.added) at.added index
  pub is : new ≡ record old { added = set old.added place (with_index at.added (Some index)) }

-- None does: no module contains the address, or the one that does is prepared or can't be.
pub record StaysAt (space : SpaceValue) (a : ℕ) : Type 0 where
  pub place : ℕ
  pub at : HoldsAt space a place
  pub stays : Stays space.image (rows_left space.added) (rules_left space.added) at.added

abbrev pub PreparesNoneAt : SpaceValue → ℕ → Type 0
PreparesNoneAt space a = (module_at space.modules a ≡ None) ⊎ StaysAt space a

-- Of a space nothing changes but the indexes of its modules.
abbrev pub ChangesIndexes : SpaceValue → SpaceValue → Type 0
ChangesIndexes old new = (added : List Added) × (new ≡ record old { added = added })
