-- Images that have grown, and spaces that are seen over them.
use Rattle.std.specs.Prelude.{◌≡◌, ◌≢◌, ℕ, Bool, true, false, ◌&&◌, List, [], ◌∷◌, Option, Some, None, is_some}
use Rattle.memory_image.specs.Image.{Span, table_at}
use Rattle.format_frames.specs.declared.machine.Stepped.{Stepped}
use Rattle.stack_steps.specs.Modules.{Added, SpaceValue}

-- What the old image maps is so in the new one, which may map more.
abbrev pub Grows : List Span → List Span → Type 0
Grows old new = (a : ℕ) → table_at old a ≢ [] → table_at new a ≡ table_at old a

-- the same modules and indexes over another image
abbrev pub over_image : SpaceValue → List Span → SpaceValue
over_image space image = record space { image = image }

-- a space, seen over an image that maps what its own does
pub record IsSeenOver (space seen : SpaceValue) : Type 0 where
  pub same : seen ≡ over_image space seen.image
  pub grows : Grows space.image seen.image

-- each module has an index
abbrev pub all_prepared : List Added → Bool
all_prepared [] = true
all_prepared (a ∷ rest) = is_some a.index && all_prepared rest

-- the caller that stands in a state's place, where there is one
abbrev pub advanced_to : Stepped → Bool → Option Stepped
advanced_to s true = Some s
advanced_to s false = None
