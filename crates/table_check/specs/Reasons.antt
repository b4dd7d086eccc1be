-- Why functions that are claimed, or a frame table beside them, are refused.
use Rattle.std.specs.Prelude.{◌≡◌, ℕ, List, Some, None}
use Rattle.std.specs.List.{AllByRecursion}
use Rattle.memory_image.specs.Image.{Span}
use Rattle.unwind_definitions.specs.Input.{Input}
use Rattle.unwind_definitions.specs.Pointers.{Bases}
use Rattle.unwind_definitions.specs.Prologue.{SystemV}
use Rattle.unwind_definitions.specs.Function.{AreWithin, Function, IsFunction}
use Rattle.fde_finders.specs.declared.custom.FrameInfo.{FrameInfo}
use Rattle.fde_finders.specs.FrameTables.{FrameTable, table_by}
use Rattle.table_check.specs.declared.reason.Reason.{Reason}
use Rattle.table_check.specs.declared.reason.Reason.TheVariants as reason
use Rattle.table_check.specs.First.{FailsFirst}
use Rattle.table_check.specs.Ranges.{LeavesFirst, extents_of}
use Rattle.table_check.specs.Scanned.{AllMayStandIn, AllStand, IsFirstExtra, IsFirstRefused}

-- functions of an ELF module that ascend, share no address, and lie from start to before end
pub record AreFunctionsIn (start end : ℕ) (functions : List Function) : Type 0 where
  pub each : AllByRecursion (IsFunction SystemV) functions
  pub ranges : AreWithin start end (extents_of functions)

-- the first claim that isn't one of a function; or where all are, the first that isn't in its place
abbrev pub RefusesClaims : ℕ → ℕ → List Function → Reason → Type 0
RefusesClaims start end functions (reason.Claim i) = FailsFirst (IsFunction SystemV) functions i
RefusesClaims start end functions (reason.Range i) = AllByRecursion (IsFunction SystemV) functions × LeavesFirst start end (extents_of functions) i
RefusesClaims start end functions _ = ⊥

-- all entries of a frame table read and have short lengths, and its descriptions may stand beside each other and functions
pub record AllStandBeside (bases : Bases) (table : Input) (functions : List Function) : Type 0 where
  pub entries : AllStand bases table
  pub descriptions : AllMayStandIn bases table functions

-- the first entry that doesn't; or where all do, the first description that may not stand so
abbrev pub RefusesTable : Bases → Input → List Function → Reason → Type 0
RefusesTable bases table functions (reason.Entry offset) = IsFirstRefused bases table offset
RefusesTable bases table functions (reason.Extra start) = AllStand bases table × IsFirstExtra bases table functions start
RefusesTable bases table functions _ = ⊥

-- a module's frame table is found, whose entries and descriptions stand beside its functions
pub record StandsSoFar (image : List Span) (start end : ℕ) (frame : FrameInfo) (functions : List Function) : Type 0 where
  pub claims : AreFunctionsIn start end functions
  pub table : FrameTable
  pub named : table_by frame image ≡ Some table
  pub beside : AllStandBeside table.bases table.entries functions

-- a claim is refused; or where none is, no frame table is found; or where one is, an entry or a description is refused
abbrev pub Refuses : List Span → ℕ → ℕ → FrameInfo → List Function → Reason → Type 0
Refuses image start end frame functions reason.Header = AreFunctionsIn start end functions × (table_by frame image ≡ None)
Refuses image start end frame functions (reason.Claim i) = RefusesClaims start end functions (reason.Claim i)
Refuses image start end frame functions (reason.Range i) = RefusesClaims start end functions (reason.Range i)
Refuses image start end frame functions (reason.Entry offset) = AreFunctionsIn start end functions × (table : FrameTable) × (table_by frame image ≡ Some table) × RefusesTable table.bases table.entries functions (reason.Entry offset)
Refuses image start end frame functions (reason.Extra first) = AreFunctionsIn start end functions × (table : FrameTable) × (table_by frame image ≡ Some table) × RefusesTable table.bases table.entries functions (reason.Extra first)
Refuses image start end frame functions _ = ⊥
