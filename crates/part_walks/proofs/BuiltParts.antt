-- Images as they are built, region after region: one that is a part of the whole stays so, and what was mapped stays.
use Rattle.std.proofs.Common.{inl, inr, ◌≡◌, ◌⊎◌, ℕ, zero, suc, ◌+◌, ◌-◌, ◌^◌, ◌<◌, ◌≤◌, ◌==◌, Bool, true, false, cond, ltb, is_some, List, [], ◌∷◌, length, take, drop, slice_get, Option, Some, None, refl, sym, ap, subst, ◌∙◌, arith}
use Rattle.std.proofs.lemmas.List.{length-drop, length-take}
use Rattle.std.specs.List.{AllByRecursion}
use Rattle.memory_image.specs.declared.errors.ImageError.{ImageError}
use Rattle.std.proofs.lemmas.Bool.Decides.{nat_tests}
use Rattle.std.proofs.lemmas.Option.{slice_get-get_or}
use Rattle.std.specs.Prelude.{get_or}
use Rattle.memory_image.specs.Image.{Span, IsLaidOut, byte_at, end_of, holds, lower, lowest_overlap, overlaps, refusal, table_at, with_span}
use Rattle.memory_image.proofs.SpanAdds.{IsApart, apart, unmapped}
use Rattle.memory_image.proofs.OverLemmas.{is_taken}
use Rattle.stack_steps.specs.Growing.{Grows}
use Rattle.mapped_modules.specs.Spaces.{with_region, with_regions}
use Rattle.part_walks.specs.Parts.{HasRegion, IsPartOf, IsWithin}

-- ---- a table where a region was added

slice_get-drop : (n : ℕ) (bytes : List ℕ) → slice_get (drop n bytes) 0 ≡ slice_get bytes n
slice_get-drop zero bytes = refl
slice_get-drop (suc n) [] = refl
slice_get-drop (suc n) (b ∷ bs) = slice_get-drop n bs

-- it is the region's, or the one that was there
table_with : (s : Span) (ss : List Span) (x : ℕ) → ((holds s x ≡ true) × (table_at (with_span s ss) x ≡ drop (x - s.start) s.bytes)) ⊎ (table_at (with_span s ss) x ≡ table_at ss x)
table_with s [] x = here (holds s x) refl
  where
    here : (b : Bool) → holds s x ≡ b → ((holds s x ≡ true) × (cond (holds s x) (drop (x - s.start) s.bytes) [] ≡ drop (x - s.start) s.bytes)) ⊎ (cond (holds s x) (drop (x - s.start) s.bytes) [] ≡ [])
    here true is = inl (is, rw is refl)
    here false is = inr (rw is refl)
table_with s (t ∷ ts) x = go (ltb s.start t.start) (table_with s ts x)
  where
    first : (b : Bool) → holds s x ≡ b → ((holds s x ≡ true) × (cond (holds s x) (drop (x - s.start) s.bytes) (table_at (t ∷ ts) x) ≡ drop (x - s.start) s.bytes)) ⊎ (cond (holds s x) (drop (x - s.start) s.bytes) (table_at (t ∷ ts) x) ≡ table_at (t ∷ ts) x)
    first true is = inl (is, rw is refl)
    first false is = inr (rw is refl)

    later : (b : Bool) → ((holds s x ≡ true) × (table_at (with_span s ts) x ≡ drop (x - s.start) s.bytes)) ⊎ (table_at (with_span s ts) x ≡ table_at ts x) →
        ((holds s x ≡ true) × (cond b (drop (x - t.start) t.bytes) (table_at (with_span s ts) x) ≡ drop (x - s.start) s.bytes)) ⊎ (cond b (drop (x - t.start) t.bytes) (table_at (with_span s ts) x) ≡ cond b (drop (x - t.start) t.bytes) (table_at ts x))
    later true more = inr refl
    later false (inl new) = inl new
    later false (inr same) = inr same

    go : (b : Bool) → ((holds s x ≡ true) × (table_at (with_span s ts) x ≡ drop (x - s.start) s.bytes)) ⊎ (table_at (with_span s ts) x ≡ table_at ts x) →
        ((holds s x ≡ true) × (table_at (cond b (s ∷ t ∷ ts) (t ∷ with_span s ts)) x ≡ drop (x - s.start) s.bytes)) ⊎ (table_at (cond b (s ∷ t ∷ ts) (t ∷ with_span s ts)) x ≡ table_at (t ∷ ts) x)
    go true more = first (holds s x) refl
    go false more = later (holds t x) more

-- it is the region's where the region shares no address with what was there
table_new : (s : Span) (ss : List Span) (x : ℕ) → lowest_overlap ss s.start (length s.bytes) ≡ None → holds s x ≡ true → table_at (with_span s ss) x ≡ drop (x - s.start) s.bytes
table_new s [] x none is = rw is refl
table_new s (t ∷ ts) x none is = go (ltb s.start t.start) (table_new s ts x parts.rest is)
  where
    parts : IsApart s t ts
    parts = apart s t ts none

    elsewhere : (end_of t ≤ s.start) ⊎ (end_of s ≤ t.start) → holds t x ≡ false
    elsewhere clear = grind (arith, nat_tests)

    go : (b : Bool) → table_at (with_span s ts) x ≡ drop (x - s.start) s.bytes → table_at (cond b (s ∷ t ∷ ts) (t ∷ with_span s ts)) x ≡ drop (x - s.start) s.bytes
    go true later = rw is refl
    go false later = rw (elsewhere parts.here) later

-- ---- one region more

-- that the whole has
pub part_with : (image whole : List Span) (s : Span) → IsPartOf image whole → HasRegion whole s → IsPartOf (with_span s image) whole
part_with image whole s is_part has a b is = go (table_with s image a)
  where
    go : ((holds s a ≡ true) × (table_at (with_span s image) a ≡ drop (a - s.start) s.bytes)) ⊎ (table_at (with_span s image) a ≡ table_at image a) → byte_at whole a ≡ Some b
    go (inl new) = has a new.0 ∙ (sym (slice_get-drop (a - s.start) s.bytes) ∙ (sym (ap (λ (bs : List ℕ). slice_get bs 0) new.1) ∙ is))
    go (inr same) = is_part a b (sym (ap (λ (bs : List ℕ). slice_get bs 0) same) ∙ is)

-- that shares no address with what was there
pub grows_with : (image : List Span) (s : Span) → 0 < length s.bytes → lowest_overlap image s.start (length s.bytes) ≡ None → Grows image (with_span s image)
grows_with image s some none x mapped = go (table_with s image x)
  where
    go : ((holds s x ≡ true) × (table_at (with_span s image) x ≡ drop (x - s.start) s.bytes)) ⊎ (table_at (with_span s image) x ≡ table_at image x) → table_at (with_span s image) x ≡ table_at image x
    go (inl new) = absurd (mapped (unmapped s image some none x new.0))
    go (inr same) = same

pub has_new : (image : List Span) (s : Span) → lowest_overlap image s.start (length s.bytes) ≡ None → HasRegion (with_span s image) s
has_new image s none a is = ap (λ (bs : List ℕ). slice_get bs 0) (table_new s image a none is) ∙ slice_get-drop (a - s.start) s.bytes

-- ---- what was there stays

-- a region stays where an image grows
pub has_still : (old new : List Span) (s : Span) → Grows old new → HasRegion old s → HasRegion new s
has_still old new s grows has a is = ap (λ (bs : List ℕ). slice_get bs 0) (grows a (λ none. gone none)) ∙ has a is
  where
    within : a - s.start < length s.bytes
    within = grind (arith, nat_tests)

    gone : table_at old a ≡ [] → ⊥
    gone none =
        let byte : slice_get s.bytes (a - s.start) ≡ Some (get_or s.bytes (a - s.start) 0) = slice_get-get_or s.bytes (a - s.start) 0 within in
        let lost : byte_at old a ≡ None = ap (λ (bs : List ℕ). slice_get bs 0) none in
        let there : byte_at old a ≡ slice_get s.bytes (a - s.start) = has a is in
        absurd cc

pub grows_same : (image : List Span) → Grows image image
grows_same image a mapped = refl

pub grows_further : (old between new : List Span) → Grows old between → Grows between new → Grows old new
grows_further old between new first second a mapped = second a (λ none. mapped (sym (first a mapped) ∙ none)) ∙ first a mapped

-- ---- a region within another one

slice_get-take : (n : ℕ) (bytes : List ℕ) (k : ℕ) → k < length (take n bytes) → slice_get (take n bytes) k ≡ slice_get bytes k
slice_get-take zero bytes k low = absurd (omega arith)
slice_get-take (suc n) [] k low = refl
slice_get-take (suc n) (b ∷ bs) zero low = refl
slice_get-take (suc n) (b ∷ bs) (suc k) low = slice_get-take n bs k (omega arith)

slice_get-from : (n : ℕ) (bytes : List ℕ) (k : ℕ) → slice_get (drop n bytes) k ≡ slice_get bytes (n + k)
slice_get-from zero bytes k = let same : k ≡ 0 + k = omega arith in ap (slice_get bytes) same
slice_get-from (suc n) [] k = refl
slice_get-from (suc n) (b ∷ bs) k = let same : suc (n + k) ≡ suc n + k = omega arith in slice_get-from n bs k ∙ ap (slice_get (b ∷ bs)) same

few_taken : (n from : ℕ) (bytes : List ℕ) (k : ℕ) → k < length (take n (drop from bytes)) → from + k < length bytes
few_taken n from bytes k low = grind (arith, length-take, length-drop)

-- what has a region has each one within it
pub has_within : (image : List Span) (inner outer : Span) → HasRegion image outer → IsWithin inner outer → HasRegion image inner
has_within image inner outer has is a held =
    has a in_outer
    ∙ (ap (slice_get outer.bytes) place
    ∙ (sym (slice_get-from is.from outer.bytes (a - inner.start))
    ∙ (sym (slice_get-take is.count (drop is.from outer.bytes) (a - inner.start) low)
    ∙ ap (λ (bs : List ℕ). slice_get bs (a - inner.start)) (sym is.bytes))))
  where
    from_start : inner.start ≤ a
    from_start = grind (arith, nat_tests)

    few : a - inner.start < length inner.bytes
    few = grind (arith, nat_tests)

    low : a - inner.start < length (take is.count (drop is.from outer.bytes))
    low = subst (λ (bs : List ℕ). a - inner.start < length bs) is.bytes few

    within : is.from + (a - inner.start) < length outer.bytes
    within = few_taken is.count is.from outer.bytes (a - inner.start) low

    place : a - outer.start ≡ is.from + (a - inner.start)
    place = let start = is.start in omega (arith, from_start, start)

    in_outer : holds outer a ≡ true
    in_outer = held_at outer a (let start = is.start in omega (arith, from_start, start)) (let start = is.start in omega (arith, from_start, start, within))
      where
        held_at : (s : Span) (a : ℕ) → s.start ≤ a → a < end_of s → holds s a ≡ true
        held_at s a at low = grind (arith, nat_tests)

-- ---- regions that are added where they are taken

pub part_with_region : (image whole : List Span) (s : Span) → IsPartOf image whole → HasRegion whole s → IsPartOf (with_region image s) whole
part_with_region image whole s is_part has = go (refusal image s.start s.bytes)
  where
    go : (o : Option ImageError) → IsPartOf (cond (is_some o) image (with_span s image)) whole
    go None = part_with image whole s is_part has
    go (Some e) = is_part

pub part_with_regions : (image whole ss : List Span) → IsPartOf image whole → AllByRecursion (HasRegion whole) ss → IsPartOf (with_regions image ss) whole
part_with_regions image whole [] is_part has = is_part
part_with_regions image whole (s ∷ ss) is_part has = part_with_regions (with_region image s) whole ss (part_with_region image whole s is_part has.0) has.1

pub grows_with_region : (image : List Span) (s : Span) → Grows image (with_region image s)
grows_with_region image s = go (refusal image s.start s.bytes) refl
  where
    go : (o : Option ImageError) → refusal image s.start s.bytes ≡ o → Grows image (cond (is_some o) image (with_span s image))
    go None none = let taken = is_taken image s.start s.bytes none in grows_with image s taken.nonempty taken.apart
    go (Some e) refused = grows_same image

pub grows_with_regions : (image ss : List Span) → Grows image (with_regions image ss)
grows_with_regions image [] = grows_same image
grows_with_regions image (s ∷ ss) = grows_further image (with_region image s) (with_regions (with_region image s) ss) (grows_with_region image s) (grows_with_regions (with_region image s) ss)

-- ---- which of them an image has

-- a region meets nothing of an image with one more region where it meets neither
none_with : (a n : ℕ) (t : Span) (ss : List Span) → overlaps a n t ≡ false → lowest_overlap ss a n ≡ None → lowest_overlap (with_span t ss) a n ≡ None
none_with a n t [] apart none = rw apart refl
none_with a n t (u ∷ us) apart none = go (ltb t.start u.start) (overlaps a n u) refl none (none_with a n t us apart)
  where
    some-not_none : (b : ℕ) (o : Option ℕ) → lower b o ≡ None → ⊥
    some-not_none b None e = absurd cc
    some-not_none b (Some c) e = absurd cc

    go : (b v : Bool) → overlaps a n u ≡ v → cond v (lower u.start (lowest_overlap us a n)) (lowest_overlap us a n) ≡ None → (lowest_overlap us a n ≡ None → lowest_overlap (with_span t us) a n ≡ None) →
        lowest_overlap (cond b (t ∷ u ∷ us) (u ∷ with_span t us)) a n ≡ None
    go b true is some later = absurd (some-not_none u.start (lowest_overlap us a n) some)
    go true false is free later = rw (apart, is) free
    go false false is free later = rw is (later free)

none_with_region : (a n : ℕ) (t : Span) (image : List Span) → overlaps a n t ≡ false → lowest_overlap image a n ≡ None → lowest_overlap (with_region image t) a n ≡ None
none_with_region a n t image apart none = go (refusal image t.start t.bytes)
  where
    go : (o : Option ImageError) → lowest_overlap (cond (is_some o) image (with_span t image)) a n ≡ None
    go None = none_with a n t image apart none
    go (Some e) = none

-- a region of bytes below 2 ^ 64 that meets nothing is taken
not_refused : (image : List Span) (s : Span) → 0 < length s.bytes → end_of s ≤ 2 ^ 64 → lowest_overlap image s.start (length s.bytes) ≡ None → refusal image s.start s.bytes ≡ None
not_refused image s some fits none =
    let bytes : length s.bytes == 0 ≡ false = grind (arith, nat_tests) in
    let below : ltb (2 ^ 64) (s.start + length s.bytes) ≡ false = grind (arith, nat_tests) in
    rw (bytes, below, none) refl

has_taken : (image : List Span) (s : Span) → 0 < length s.bytes → end_of s ≤ 2 ^ 64 → lowest_overlap image s.start (length s.bytes) ≡ None → HasRegion (with_region image s) s
has_taken image s some fits none = subst (λ (o : Option ImageError). HasRegion (cond (is_some o) image (with_span s image)) s) (sym (not_refused image s some fits none)) (has_new image s none)

-- regions that are laid out from an address on start there or later
laid_from : (low i : ℕ) (s : Span) (ss : List Span) → IsLaidOut low ss → slice_get ss i ≡ Some s → low ≤ s.start
laid_from low i s [] laid is = absurd cc
laid_from low zero s (t ∷ ts) laid is = let same : t ≡ s = cc in subst (λ (u : Span). low ≤ u.start) same laid.0
laid_from low (suc i) s (t ∷ ts) laid is = let later = laid_from (end_of t) i s ts laid.3 is in omega (arith, laid.0, later)

-- Of regions that share no address with one another an image has each that shares none with what was there.
pub has_region : (image ss : List Span) (low i : ℕ) (s : Span) → IsLaidOut low ss → slice_get ss i ≡ Some s → lowest_overlap image s.start (length s.bytes) ≡ None → HasRegion (with_regions image ss) s
has_region image [] low i s laid is none = absurd cc
has_region image (t ∷ ts) low zero s laid is none =
    let same : t ≡ s = cc in
    let apart : lowest_overlap image t.start (length t.bytes) ≡ None = subst (λ (u : Span). lowest_overlap image u.start (length u.bytes) ≡ None) (sym same) none in
    subst (HasRegion (with_regions (with_region image t) ts)) same (has_still (with_region image t) (with_regions (with_region image t) ts) t (grows_with_regions (with_region image t) ts) (has_taken image t laid.1 laid.2 apart))
has_region image (t ∷ ts) low (suc i) s laid is none = has_region (with_region image t) ts (end_of t) i s laid.3 is (none_with_region s.start (length s.bytes) t image (clear (laid_from (end_of t) i s ts laid.3 is)) none)
  where
    clear : end_of t ≤ s.start → overlaps s.start (length s.bytes) t ≡ false
    clear after = grind (arith, nat_tests)
