-- Addresses that an image doesn't have, it doesn't have with one more region either that hasn't got them.
use Rattle.std.proofs.Common.{◌≡◌, ℕ, Bool, true, false, ltb, List, [], ◌∷◌, Option, Some, None, refl}
use Rattle.memory_image.specs.Image.{Span, lower, lowest_overlap, overlaps, refusal, with_span}
use Rattle.memory_image.specs.declared.errors.ImageError.{ImageError}
use Rattle.mapped_modules.specs.Spaces.{with_region}

some-not_none : (b : ℕ) (o : Option ℕ) → lower b o ≡ None → ⊥
some-not_none b None e = cc
some-not_none b (Some c) e = cc

first_apart : (t : Span) (ts : List Span) (a n : ℕ) → lowest_overlap (t ∷ ts) a n ≡ None → overlaps a n t ≡ false
first_apart t ts a n none = go (overlaps a n t) refl
  where
    go : (b : Bool) → overlaps a n t ≡ b → overlaps a n t ≡ false
    go true is = let shared : lower t.start (lowest_overlap ts a n) ≡ None = rw is at none in absurd (some-not_none t.start (lowest_overlap ts a n) shared)
    go false is = is

others_apart : (t : Span) (ts : List Span) (a n : ℕ) → lowest_overlap (t ∷ ts) a n ≡ None → lowest_overlap ts a n ≡ None
others_apart t ts a n none = let free = first_apart t ts a n none in rw free at none

apart_span : (s : Span) (ts : List Span) (a n : ℕ) → overlaps a n s ≡ false → lowest_overlap ts a n ≡ None → lowest_overlap (with_span s ts) a n ≡ None
apart_span s [] a n free none = rw free refl
apart_span s (t ∷ ts) a n free none = go (ltb s.start t.start) refl (first_apart t ts a n none) (apart_span s ts a n free (others_apart t ts a n none))
  where
    go : (b : Bool) → ltb s.start t.start ≡ b → overlaps a n t ≡ false → lowest_overlap (with_span s ts) a n ≡ None → lowest_overlap (with_span s (t ∷ ts)) a n ≡ None
    go true is beside later = rw (is, free) none
    go false is beside later = rw (is, beside) later

pub apart_region : (image : List Span) (s : Span) (a n : ℕ) → overlaps a n s ≡ false → lowest_overlap image a n ≡ None → lowest_overlap (with_region image s) a n ≡ None
apart_region image s a n free none = go (refusal image s.start s.bytes) refl
  where
    go : (o : Option ImageError) → refusal image s.start s.bytes ≡ o → lowest_overlap (with_region image s) a n ≡ None
    go (Some e) is = rw is none
    go None is = rw is (apart_span s image a n free none)
