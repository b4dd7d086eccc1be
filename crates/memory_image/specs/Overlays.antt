-- What an image stands for: the regions that it keeps, or those of an image that is lent with one more.
use Rattle.std.specs.Prelude.{◌≡◌, ◌+◌, List, [], ◌∷◌, length}
use Rattle.std.proofs.Common.{arith, true, false, cond, ltb}
use Rattle.memory_image.specs.Image.{Span, IsLaidOut, IsTaken, with_span}
use Rattle.memory_image.specs.declared.image.Regions.{Regions}
use Rattle.memory_image.specs.declared.image.Regions.TheVariants.{Kept, Over}
use Rattle.memory_image.specs.declared.image.Overlay.{Overlay}

-- the region of an overlay
abbrev pub region_of : Overlay → Span
region_of over = record { start = over.start; bytes = over.bytes.now }

abbrev pub spans_in : Regions → List Span
spans_in (Kept spans) = spans
spans_in (Over over) = with_span (region_of over) over.below.now

-- the region of an overlay shares no address with the image below it
abbrev pub IsApart : Regions → Type 0
IsApart (Kept spans) = Unit {0}
IsApart (Over over) = IsTaken over.below.now over.start over.bytes.now × IsLaidOut 0 over.below.now

-- one span more
pub length-with_span : (s : Span) (ss : List Span) → length (with_span s ss) ≡ length ss + 1
length-with_span s [] = omega arith
length-with_span s (t ∷ ts) =
    elim (ltb s.start t.start) as (λ b. length (cond b (s ∷ t ∷ ts) (t ∷ with_span s ts)) ≡ length (t ∷ ts) + 1) [
      | true ↦ omega arith
      | false ↦ omega (arith, length-with_span s ts)
    ]
