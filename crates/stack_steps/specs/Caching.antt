-- Rows that were found at addresses of a space, kept for look-ups that repeat. No public clause cites this.
use Rattle.std.specs.Prelude.{◌≡◌, ◌⊎◌, ℕ, ◌<◌, List, length, Option, Some, None, IfSome, Result, Ok, Err, slice_index_or, slice_set}
use Rattle.std.specs.List.{AllByRecursion}
use Rattle.memory_image.specs.Image.{Span, IsLaidOut}
use Rattle.eh_frame.specs.Index.{Index}
use Rattle.frame_rows.specs.Rows.{IsRowOf}
use Rattle.stack_steps.specs.declared.error.DeliverError.{DeliverError}
use Rattle.stack_steps.specs.declared.frame_cache.CachedRow.{CachedRow}
use Rattle.stack_steps.specs.declared.functions.DescribedFunction.{DescribedFunction}
use Rattle.stack_steps.specs.declared.space.AddedModule.{AddedModule}
use Rattle.stack_steps.specs.declared.space.Module.{Module}
use Rattle.stack_steps.specs.AddedModule.{IsAddedModule, added_of, holder_of}
use Rattle.stack_steps.specs.Frames.{FrameAt, DescribedFrame, Described}
use Rattle.stack_steps.specs.Functions.{described_function}
use Rattle.stack_steps.specs.Growing.{Grows}
use Rattle.stack_steps.specs.Modules.{SpaceValue, module_at}
use Rattle.stack_steps.specs.Preparing.{index_at}
use Rattle.stack_steps.specs.Stepping.{frame_in}

-- ---- what a row that is kept says

-- A frame is due that call frame information describes: its row is kept, where its function begins, and whether it is a signal's frame.
pub record IsRowDue (due : Result (Option FrameAt) DeliverError) (k : CachedRow) : Type 0 where
  pub frame : DescribedFrame
  pub is_due : due ≡ Ok (Some (Described frame))
  pub row : IsRowOf k.row frame.run
  pub start : k.start ≡ frame.found.fde.start
  pub signal : k.signal ≡ frame.found.fde.cie.letters.signal

-- The row of the frame that is due, if one is.
abbrev pub GivesRowDue : Result (Option CachedRow) DeliverError → Result (Option FrameAt) DeliverError → Type 0
GivesRowDue (Ok None) due = due ≡ Ok None
GivesRowDue (Ok (Some k)) due = IsRowDue due k
GivesRowDue (Err e) due = due ≡ Err e

-- the function that the description of a row is of
abbrev pub cached_function : CachedRow → DescribedFunction
cached_function k = record { start = k.start; signal = k.signal }

-- A row is what the search at its address answers, over each image that maps what the space's own does. The module there is
-- prepared, so that a search is counted, and the function is the one that is described there.
pub record IsCached (space : SpaceValue) (k : CachedRow) : Type 0 where
  pub holder : Module
  pub holds : module_at space.modules k.address ≡ Some holder
  pub index : Index
  pub prepared : index_at space.added k.address ≡ Some index
  pub some : 0 < length index.functions
  pub described : IsLaidOut 0 space.image → described_function space k.address ≡ Some (cached_function k)
  pub found : (image : List Span) → IsLaidOut 0 image → Grows space.image image → IsRowDue (frame_in image k.address (module_at space.modules k.address)) k

-- ---- the places for rows

abbrev pub IsCachedPlace : SpaceValue → Option CachedRow → Type 0
IsCachedPlace space place = IfSome place (IsCached space)

abbrev pub AreCached : SpaceValue → List (Option CachedRow) → Type 0
AreCached space places = AllByRecursion (IsCachedPlace space) places

abbrev pub IsFree : Option CachedRow → Type 0
IsFree place = place ≡ None

-- a row of an address stands in one of the places
pub record Finds (places : List (Option CachedRow)) (a : ℕ) (k : CachedRow) : Type 0 where
  pub index : ℕ
  pub within : index < length places
  pub there : slice_index_or places index None ≡ Some k
  pub is_of : k.address ≡ a

-- a row takes one of the places, whatever stood there, or none
abbrev pub Keeps : List (Option CachedRow) → CachedRow → List (Option CachedRow) → Type 0
Keeps old k new = (new ≡ old) ⊎ ((index : ℕ) × (new ≡ slice_set old index (Some k)))

-- ---- the module at an address

-- a module of a space holds an address
pub record IsHolder (space : SpaceValue) (a : ℕ) (m : AddedModule) : Type 0 where
  pub holds : module_at space.modules a ≡ Some (holder_of m)
  pub indexed : index_at space.added a ≡ (added_of m).index
  pub added : IsAddedModule space.image m
