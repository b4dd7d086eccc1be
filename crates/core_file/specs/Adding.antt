-- What an image holds after regions were added to it, one after another.
use Rattle.std.specs.Prelude.{◌≡◌, ℕ, suc, ◌+◌, ◌<◌, ◌⊎◌, List, [], ◌∷◌, length, Contains, Option, Some, None, is_some, option_map, slice_get, IsTrue, if◌then◌else◌}
use Rattle.memory_image.specs.declared.errors.ImageError.{ImageError}
use Rattle.memory_image.specs.declared.errors.ImageError.TheVariants.{Empty, Wraps, Overlap, NoMemory}
use Rattle.core_file.specs.declared.errors.AddError.{AddError}
use Rattle.core_file.specs.declared.errors.AddError.TheVariants as adds
use Rattle.memory_image.specs.Image.{Span, holds, byte_at, refusal, with_span}

-- the image with these regions, each at its place
abbrev pub with_spans : List Span → List Span → List Span
with_spans image [] = image
with_spans image (s ∷ ss) = with_spans (with_span s image) ss

-- the index of the first region that an image refuses, where those before it were taken
abbrev pub first_refused : List Span → List Span → Option ℕ
first_refused image [] = None
first_refused image (s ∷ ss) = if is_some (refusal image s.start s.bytes) then Some 0 else option_map suc (first_refused (with_span s image) ss)

-- how a refusal of the region of this index is told
abbrev pub error_at : ℕ → ImageError → AddError
error_at i NoMemory = adds.NoMemory
error_at i Empty = adds.Region i
error_at i Wraps = adds.Region i
error_at i (Overlap start) = adds.Region i

-- The new image holds what the old one held and the bytes of these regions, and nothing else.
pub record HoldsAlso (old : List Span) (spans : List Span) (new : List Span) : Type 0 where
  pub kept : (a b : ℕ) → byte_at old a ≡ Some b → byte_at new a ≡ Some b
  pub added : (s : Span) (k : ℕ) → Contains spans s → k < length s.bytes → byte_at new (s.start + k) ≡ slice_get s.bytes k
  pub only : (a b : ℕ) → byte_at new a ≡ Some b → (byte_at old a ≡ Some b) ⊎ ((s : Span) × Contains spans s × IsTrue (holds s a))
