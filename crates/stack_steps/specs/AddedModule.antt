-- How a space keeps its modules: by start, each with its place in the order of adding, and in that order, each with its index.
use Rattle.std.specs.Prelude.{◌≡◌, ℕ, ◌-◌, ◌<◌, ◌≤◌, List, [], ◌∷◌, map, slice_get, Option, Some, None}
use Rattle.std.specs.List.{AllByRecursion, Contains}
use Rattle.std.specs.Option.{option_map}
use Rattle.memory_image.specs.Image.{Span, IsLaidOut}
use Rattle.unwind_definitions.specs.Header.{PairTable}
use Rattle.encoded_pointers.specs.PointerViews.{bases_of}
use Rattle.eh_frame.specs.Index.{Index, IsPreparedFrom}
use Rattle.eh_frame.specs.EntryViews.{table_of}
use Rattle.fde_finders.specs.declared.custom.FrameInfo.{FrameInfo}
use Rattle.fde_finders.specs.FrameTables.{FrameTable, table_by}
use Rattle.stack_steps.specs.declared.prepared.Left.{Left}
use Rattle.stack_steps.specs.declared.prepared.PreparedTable.{PreparedTable}
use Rattle.stack_steps.specs.declared.shared_table.Tried.{Tried}
use Rattle.stack_steps.specs.declared.space.ModuleEntry.{ModuleEntry}
use Rattle.stack_steps.specs.declared.space.AddedModule.{AddedModule}
use Rattle.stack_steps.specs.declared.space.Module.{Module}
use Rattle.stack_steps.specs.declared.space.ModuleTables.{ModuleTables}
use Rattle.stack_steps.specs.declared.space.ModuleTables.TheVariants.{Elf}
use Rattle.stack_steps.specs.Modules.{Added, AreApart, IsPlaced, module_of, modules_in}
use Rattle.stack_steps.specs.Preparing.{HasNoIndexIn, Lists, CannotPrepare, Stays, fdes_in, rows_left, rules_left}

-- ---- an index, and the table that it is of

abbrev pub index_in : PreparedTable → Index
index_in t = t.index

-- the table that a module names, as it is kept beside an index
abbrev pub kept_table : PreparedTable → Option PairTable → FrameTable
kept_table t pairs = record { entries = table_of t.frames; bases = bases_of t.bases; pairs = pairs }

pub record IsTableOf (image : List Span) (tables : FrameInfo) (t : PreparedTable) : Type 0 where
  pub pairs : Option PairTable
  pub names : table_by tables image ≡ Some (kept_table t pairs)
  pub prepared : IsPreparedFrom (bases_of t.bases) (table_of t.frames) t.index
  pub listed : Lists tables.kind (kept_table t pairs) (fdes_in t.index)

-- only an ELF module has such a table
abbrev pub IsTableIn : List Span → ModuleTables → PreparedTable → Type 0
IsTableIn image (Elf tables) t = IsTableOf image tables t
IsTableIn image _ t = ⊥

-- a table that is prepared keeps no more than is left
pub record IsTableWithin (image : List Span) (tables : ModuleTables) (left : Left) (t : PreparedTable) : Type 0 where
  pub is_table : IsTableIn image tables t
  pub rows_fit : t.index.row_count ≤ left.rows
  pub rules_fit : t.index.rule_count ≤ left.rules
  pub fits : ¬ HasNoIndexIn image tables left.rows left.rules

abbrev pub PreparesTable : List Span → FrameInfo → Left → Option PreparedTable → Type 0
PreparesTable image tables left None = CannotPrepare image tables left.rows left.rules
PreparesTable image tables left (Some t) = IsTableWithin image (Elf tables) left t

-- ---- modules in the order of adding

abbrev pub added_of : AddedModule → Added
added_of h = record { holder = h.holder; index = option_map index_in h.table }

abbrev pub holder_of : AddedModule → Module
holder_of h = h.holder

abbrev pub IsTable : List Span → ModuleTables → Option PreparedTable → Type 0
IsTable image tables None = Unit {0}
IsTable image tables (Some t) = IsTableIn image tables t

pub record IsAddedModule (image : List Span) (h : AddedModule) : Type 0 where
  pub is_table : IsTable image h.holder.tables h.table
  pub placed : IsPlaced h.holder

-- ---- what is made for modules

-- for a module that wasn't prepared its table with an index, if there is one
abbrev pub MakesTable : List Span → Left → AddedModule → Option PreparedTable → Type 0
MakesTable image left h None = Stays image left.rows left.rules (added_of h)
MakesTable image left h (Some t) = (h.table ≡ None) × IsTableWithin image h.holder.tables left t

-- what an index leaves, which keeps a row at least
pub record LeavesBy (left : Left) (index : Index) (after : Left) : Type 0 where
  pub some : 0 < index.row_count
  pub rows : after.rows ≡ left.rows - index.row_count
  pub rules : after.rules ≡ left.rules - index.rule_count

abbrev pub Leaves : Left → Option PreparedTable → Left → Type 0
Leaves left None after = after ≡ left
Leaves left (Some t) after = LeavesBy left t.index after

-- what holds of what is left holds of what an index leaves, if one is made
abbrev pub LeavesAfter : {X : Type 0} → (Left → X → Type 0) → Left → Option PreparedTable → X → Type 0
LeavesAfter Holds left made x = (after : Left) → Leaves left made after → Holds after x

-- what is made of tables that a module names: one of them with an index, or they can't be prepared within what is left
abbrev pub IsMadeOf : List Span → Left → FrameInfo → Option PreparedTable → Type 0
IsMadeOf image left tables None = CannotPrepare image tables left.rows left.rules
IsMadeOf image left tables (Some t) = IsTableOf image tables t

abbrev pub IsTried : List Span → Left → Option Tried → Type 0
IsTried image left None = Unit {0}
IsTried image left (Some tried) = IsMadeOf image left tried.tables tried.table

-- an index keeps no more than is left
abbrev pub FitsWithin : Left → Option PreparedTable → Type 0
FitsWithin left None = Unit {0}
FitsWithin left (Some t) = (t.index.row_count ≤ left.rows) × (t.index.rule_count ≤ left.rules)

-- tables are made for modules, one after another
abbrev pub AreMade : List Span → Left → List AddedModule → List (Option PreparedTable) → Left → Type 0
AreMade image left [] [] after = after ≡ left
AreMade image left (h ∷ hs) (o ∷ made) after = (next : Left) × MakesTable image left h o × Leaves left o next × AreMade image next hs made after
AreMade image left [] (o ∷ made) after = ⊥
AreMade image left (h ∷ hs) [] after = ⊥

abbrev pub with_table : AddedModule → Option PreparedTable → AddedModule
with_table h None = h
with_table h (Some t) = record h { table = Some t }

abbrev pub with_tables : List AddedModule → List (Option PreparedTable) → List AddedModule
with_tables [] made = []
with_tables (h ∷ hs) [] = h ∷ hs
with_tables (h ∷ hs) (o ∷ made) = with_table h o ∷ with_tables hs made

-- ---- both orders

-- the module by start at a place of the order of adding
abbrev pub entry_at : ℕ → Module → ℕ × ModuleEntry
entry_at place m = (m.start, record { end = m.end; tables = m.tables; place = place })

-- each module by start stands at its place
abbrev pub StandsAt : List AddedModule → ℕ × ModuleEntry → Type 0
StandsAt added_module e = slice_get (map holder_of added_module) e.1.place ≡ Some (module_of e)

-- each module at a place stands in the other order
abbrev pub StandsBack : List (ℕ × ModuleEntry) → List AddedModule → Type 0
StandsBack es added_module = (place : ℕ) (m : Module) → slice_get (map holder_of added_module) place ≡ Some m → Contains es (entry_at place m)

pub record IsSpace (image : List Span) (es : List (ℕ × ModuleEntry)) (added_module : List AddedModule) (left : Left) : Type 0 where
  pub apart : AreApart 0 (modules_in es)
  pub laid_out : IsLaidOut 0 image
  pub stand : AllByRecursion (StandsAt added_module) es
  pub back : StandsBack es added_module
  pub are_held : AllByRecursion (IsAddedModule image) added_module
  pub rows : left.rows ≡ rows_left (map added_of added_module)
  pub rules : left.rules ≡ rules_left (map added_of added_module)
