-- Rows that were made at addresses of modules that aren't prepared, in walks over one image.
use Rattle.std.specs.Prelude.{◌≡◌, ℕ, ◌<◌, List, length, Option, Some, None, IfSome, Ok, slice_index_or, slice_set}
use Rattle.std.specs.List.{AllByRecursion}
use Rattle.frame_rows.specs.Rows.{IsRowOf}
use Rattle.stack_steps.specs.declared.made_rows.MadeRow.{MadeRow}
use Rattle.stack_steps.specs.Frames.{DescribedFrame, Described}
use Rattle.stack_steps.specs.Modules.{SpaceValue, module_at}
use Rattle.stack_steps.specs.Stepping.{frame_in}

-- A row is that of the frame that the tables of the module at its address give there, which call frame information describes, and
-- it is known whether this is a signal's frame.
pub record IsMade (space : SpaceValue) (k : MadeRow) : Type 0 where
  pub frame : DescribedFrame
  pub is_due : frame_in space.image k.address (module_at space.modules k.address) ≡ Ok (Some (Described frame))
  pub row : IsRowOf k.row frame.run
  pub signal : k.signal ≡ frame.found.fde.cie.letters.signal

abbrev pub IsMadePlace : SpaceValue → Option MadeRow → Type 0
IsMadePlace space place = IfSome place (IsMade space)

abbrev pub AreMade : SpaceValue → List (Option MadeRow) → Type 0
AreMade space places = AllByRecursion (IsMadePlace space) places

abbrev pub IsFreePlace : Option MadeRow → Type 0
IsFreePlace place = place ≡ None

-- a row of an address stands in one of the places
pub record FindsMade (places : List (Option MadeRow)) (a : ℕ) (k : MadeRow) : Type 0 where
  pub index : ℕ
  pub within : index < length places
  pub there : slice_index_or places index None ≡ Some k
  pub is_of : k.address ≡ a

-- a row takes one of the places, whatever stood there
abbrev pub KeepsMade : List (Option MadeRow) → MadeRow → List (Option MadeRow) → Type 0
KeepsMade old k new = (index : ℕ) × (new ≡ slice_set old index (Some k))
