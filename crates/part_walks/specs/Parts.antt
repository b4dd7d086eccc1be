-- Images that map a part of what another one maps, and what is asked of a walk over a part so that it is the walk over the whole.
use Rattle.std.specs.Prelude.{◌≡◌, ◌≢◌, ℕ, ◌+◌, ◌-◌, true, List, [], take, drop, Option, Some, None, Result, Ok, Err, slice_get}
use Rattle.std.specs.List.{AllByRecursion}
use Rattle.memory_image.specs.Image.{Span, byte_at, holds}
use Rattle.fde_finders.specs.FrameTables.{FrameTable, table_by}
use Rattle.stack_steps.specs.declared.error.DeliverError.{DeliverError}
use Rattle.stack_steps.specs.declared.error.DeliverError.TheVariants.{Unmapped}
use Rattle.stack_steps.specs.declared.space.Module.{Module}
use Rattle.stack_steps.specs.declared.space.ModuleTables.{ModuleTables}
use Rattle.stack_steps.specs.declared.space.ModuleTables.TheVariants.{Elf}

-- ---- memory

-- each byte that the part maps is so in the whole
abbrev pub IsPartOf : List Span → List Span → Type 0
IsPartOf part whole = (a b : ℕ) → byte_at part a ≡ Some b → byte_at whole a ≡ Some b

-- an image has a region's bytes at its addresses
abbrev pub HasRegion : List Span → Span → Type 0
HasRegion image s = (a : ℕ) → holds s a ≡ true → byte_at image a ≡ slice_get s.bytes (a - s.start)

-- a region lies within another one: at most so many of its bytes, from so far on
pub record IsWithin (inner outer : Span) : Type 0 where
  pub from : ℕ
  pub count : ℕ
  pub start : inner.start ≡ outer.start + from
  pub bytes : inner.bytes ≡ take count (drop from outer.bytes)

-- ---- tables

-- there is a frame table, and at least one byte of it is mapped
abbrev pub HasBytes : Option FrameTable → Type 0
HasBytes None = ⊥
HasBytes (Some t) = t.entries.bytes ≢ []

-- The frame table that a module names is found among these regions. Only an ELF module has one.
abbrev pub HasTables : List Span → ModuleTables → Type 0
HasTables tables (Elf info) = HasBytes (table_by info tables)
HasTables tables _ = ⊥

abbrev pub HaveTables : List Span → List Module → Type 0
HaveTables tables modules = AllByRecursion (λ (m : Module). HasTables tables m.tables) modules

-- ---- answers

-- an error other than that memory wasn't mapped
abbrev pub IsOtherError : DeliverError → Type 0
IsOtherError (Unmapped a) = ⊥
IsOtherError _ = Unit {0}

-- a step, or a walk, met nothing that isn't mapped
abbrev pub IsMapped : {A : Type 0} → Result A DeliverError → Type 0
IsMapped (Ok v) = Unit {0}
IsMapped (Err e) = IsOtherError e
