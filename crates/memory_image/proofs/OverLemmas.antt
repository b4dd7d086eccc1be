-- One more span: the last one that starts at or below an address, and the first start above it.
use Rattle.std.proofs.Common.{◌≡◌, ℕ, ◌+◌, ◌<◌, ◌≤◌, ◌^◌, min, true, false, cond, ◌⊎◌, inl, inr, List, [], ◌∷◌, length, Option, Some, None, unwrap_or, refl, sym, ap, ◌∙◌, arith, ltb, leb, subst, ◌==◌}
use Rattle.std.proofs.lemmas.Bool.Decides.{nat_tests, leb_tells}
use Rattle.std.specs.Option.{option_map}
use Rattle.memory_image.specs.declared.errors.ImageError.TheVariants.{Empty, Wraps, Overlap}
use Rattle.memory_image.specs.Image.{Span, end_of, IsLaidOut, lower, lowest_overlap, refusal, IsTaken, with_span, AddsRegion}
use Rattle.memory_image.specs.Overlays.{IsApart, region_of, spans_in}
use Rattle.memory_image.specs.declared.image.Overlay.{Overlay}
use Rattle.memory_image.specs.declared.image.Regions.{Regions}
use Rattle.memory_image.specs.declared.image.Regions.TheVariants.{Over}
use Rattle.memory_image.specs.Regions.{span_below, start_above, later_of}
use Rattle.memory_image.proofs.SpanAdds.{apart, laid-with_span, adds-with_span}
use Rattle.memory_image.proofs.SpanLemmas.{below_low, below_starts, found}

-- ---- the last span that starts at or below an address

above_none : (ss : List Span) (low a : ℕ) → IsLaidOut low ss → a < low → (o : Option Span) → span_below ss a ≡ o → span_below ss a ≡ None
above_none ss low a laid h None e = e
above_none ss low a laid h (Some u) e = absurd (omega (arith, below_low ss low a u laid e))

later-after : (ss : List Span) (low a : ℕ) (s : Span) → IsLaidOut low ss → s.start < low → (o : Option Span) → span_below ss a ≡ o → unwrap_or o s ≡ later_of s o
later-after ss low a s laid h None e = refl
later-after ss low a s laid h (Some u) e = let yes : ltb s.start u.start ≡ true = after (below_starts ss low a u laid e) in rw yes refl
  where
    after : low ≤ u.start → ltb s.start u.start ≡ true
    after l = grind (arith, nat_tests)

later-before : (s t : Span) (o : Option Span) → t.start ≤ s.start → Some (unwrap_or (Some (later_of s o)) t) ≡ Some (later_of s (Some (unwrap_or o t)))
later-before s t None h = let no : ltb s.start t.start ≡ false = grind (arith, nat_tests) in rw no refl
later-before s t (Some u) h = refl

pub below-with_span : (s : Span) (ss : List Span) (low a : ℕ) → IsLaidOut low ss → s.start ≤ a → span_below (with_span s ss) a ≡ Some (later_of s (span_below ss a))
below-with_span s [] low a laid h = let yes : leb s.start a ≡ true = grind (arith, nat_tests) in rw yes refl
below-with_span s (t ∷ ts) low a laid h =
    let yes : leb s.start a ≡ true = grind (arith, nat_tests) in
    elim (leb_tells t.start s.start) [
      | inl p ↦
          let no : ltb s.start t.start ≡ false = grind (arith, nat_tests) in
          let at : leb t.start a ≡ true = grind (arith, nat_tests) in
          rw (no, at, below-with_span s ts (end_of t) a laid.3 h) (later-before s t (span_below ts a) p.1)
      | inr p ↦
          let first : ltb s.start t.start ≡ true = grind (arith, nat_tests) in
          let laid_from : IsLaidOut t.start (t ∷ ts) = (omega arith, laid.1, laid.2, laid.3) in
          rw (first, yes) (ap (λ (u : Span). Some u) (later-after (t ∷ ts) t.start a s laid_from p.1 (span_below (t ∷ ts) a) refl))
    ]

-- below its start a span changes nothing
pub below-unchanged : (s : Span) (ss : List Span) (low a : ℕ) → IsLaidOut low ss → a < s.start → span_below (with_span s ss) a ≡ span_below ss a
below-unchanged s [] low a laid h = let no : leb s.start a ≡ false = grind (arith, nat_tests) in rw no refl
below-unchanged s (t ∷ ts) low a laid h =
    let no : leb s.start a ≡ false = grind (arith, nat_tests) in
    elim (leb_tells t.start s.start) [
      | inl p ↦
          let place : ltb s.start t.start ≡ false = grind (arith, nat_tests) in
          rw (place, below-unchanged s ts (end_of t) a laid.3 h) refl
      | inr p ↦
          let first : ltb s.start t.start ≡ true = grind (arith, nat_tests) in
          let above : leb t.start a ≡ false = grind (arith, nat_tests) in
          rw (first, no, above) refl
    ]

-- a span that holds the address is the last one that starts at or below it
record IsClear (s u : Span) : Type 0 where
  some : 0 < length u.bytes
  here : (end_of u ≤ s.start) ⊎ (end_of s ≤ u.start)

clear_of : (s : Span) (ss : List Span) (low a : ℕ) (u : Span) → IsLaidOut low ss → lowest_overlap ss s.start (length s.bytes) ≡ None → span_below ss a ≡ Some u → IsClear s u
clear_of s [] low a u laid none e = cc
clear_of s (t ∷ ts) low a u laid none e =
    let parts = apart s t ts none in
    elim (leb_tells t.start a) [
      | inl p ↦ let last : Some (unwrap_or (span_below ts a) t) ≡ Some u = rw p.0 at e in go parts.here (span_below ts a) refl last (λ v h. clear_of s ts (end_of t) a v laid.3 parts.rest h)
      | inr p ↦ let bad : None ≡ Some u = rw p.0 at e in cc
    ]
  where
    go : (end_of t ≤ s.start) ⊎ (end_of s ≤ t.start) → (o : Option Span) → span_below ts a ≡ o → Some (unwrap_or o t) ≡ Some u → ((v : Span) → span_below ts a ≡ Some v → IsClear s v) → IsClear s u
    go here None is last rest = let same : t ≡ u = cc in rw (sym same) (record { some = laid.1; here = here })
    go here (Some v) is last rest = let same : v ≡ u = cc in rw (sym same) (rest v is)

pub below-held : (s : Span) (ss : List Span) (a : ℕ) → IsLaidOut 0 ss → lowest_overlap ss s.start (length s.bytes) ≡ None → s.start ≤ a → a < end_of s → span_below (with_span s ss) a ≡ Some s
below-held s ss a laid none h l = below-with_span s ss 0 a laid h ∙ ap (λ (u : Span). Some u) (go (span_below ss a) refl)
  where
    first : (u : Span) → IsClear s u → u.start ≤ a → ltb s.start u.start ≡ false
    first u c at = elim c.here [ inl e ↦ before u c e | inr e ↦ absurd (omega arith) ]
      where
        before : (u : Span) → IsClear s u → end_of u ≤ s.start → ltb s.start u.start ≡ false
        before u c e = grind (arith, nat_tests)

    go : (o : Option Span) → span_below ss a ≡ o → later_of s o ≡ s
    go None e = refl
    go (Some u) e = let no : ltb s.start u.start ≡ false = first u (clear_of s ss 0 a u laid none e) (found ss 0 a u laid e).at_or_below in rw no refl

-- ---- the first start above an address

pub above-with_span : (s : Span) (ss : List Span) (a : ℕ) → start_above (with_span s ss) a ≡ cond (ltb a s.start) (lower s.start (start_above ss a)) (start_above ss a)
above-with_span s [] a = refl
above-with_span s (t ∷ ts) a =
    elim (leb_tells t.start s.start) [
      | inl p ↦ let no : ltb s.start t.start ≡ false = grind (arith, nat_tests) in rw (no, above-with_span s ts a) (before s t a p.1 (start_above ts a))
      | inr p ↦ let first : ltb s.start t.start ≡ true = grind (arith, nat_tests) in rw first (after s t a p.1 (start_above ts a))
    ]
  where
    least : (b c : ℕ) → b ≤ c → min c b ≡ b
    least b c h = omega arith

    least_first : (b c : ℕ) → b ≤ c → min b c ≡ b
    least_first b c h = omega arith

    before : (s t : Span) (a : ℕ) → t.start ≤ s.start → (o : Option ℕ)
        → cond (ltb a t.start) (Some t.start) (cond (ltb a s.start) (lower s.start o) o) ≡ cond (ltb a s.start) (lower s.start (cond (ltb a t.start) (Some t.start) o)) (cond (ltb a t.start) (Some t.start) o)
    before s t a h o =
        elim (leb_tells t.start a) [
          | inl p ↦ let no : ltb a t.start ≡ false = grind (arith, nat_tests) in rw no refl
          | inr p ↦
              let yes : ltb a t.start ≡ true = grind (arith, nat_tests) in
              let also : ltb a s.start ≡ true = grind (arith, nat_tests) in
              rw (yes, also) (ap (λ (b : ℕ). Some b) (sym (least t.start s.start h)))
        ]

    after : (s t : Span) (a : ℕ) → s.start < t.start → (o : Option ℕ)
        → cond (ltb a s.start) (Some s.start) (cond (ltb a t.start) (Some t.start) o) ≡ cond (ltb a s.start) (lower s.start (cond (ltb a t.start) (Some t.start) o)) (cond (ltb a t.start) (Some t.start) o)
    after s t a h o =
        elim (leb_tells s.start a) [
          | inl p ↦ let no : ltb a s.start ≡ false = grind (arith, nat_tests) in rw no refl
          | inr p ↦
              let yes : ltb a s.start ≡ true = grind (arith, nat_tests) in
              let also : ltb a t.start ≡ true = grind (arith, nat_tests) in
              rw (yes, also) (ap (λ (b : ℕ). Some b) (sym (least_first s.start t.start (omega arith))))
        ]

-- ---- a region that is taken

pub is_taken : (ss : List Span) (start : ℕ) (bytes : List ℕ) → refusal ss start bytes ≡ None → IsTaken ss start bytes
is_taken ss start bytes none =
    elim (leb_tells (length bytes) 0) [
      | inl p ↦
          let empty : length bytes == 0 ≡ true = grind (arith, nat_tests) in
          let bad : Some Empty ≡ None = rw empty at none in cc
      | inr p ↦
          let some : length bytes == 0 ≡ false = grind (arith, nat_tests) in
          elim (leb_tells (start + length bytes) (2 ^ 64)) [
            | inl q ↦
                let fits : ltb (2 ^ 64) (start + length bytes) ≡ false = grind (arith, nat_tests) in
                let free : option_map Overlap (lowest_overlap ss start (length bytes)) ≡ None = rw (some, fits) at none in
                record { nonempty = p.1; fits = q.1; apart = no_overlap (lowest_overlap ss start (length bytes)) free }
            | inr q ↦
                let wraps : ltb (2 ^ 64) (start + length bytes) ≡ true = grind (arith, nat_tests) in
                let bad : Some Wraps ≡ None = rw (some, wraps) at none in cc
          ]
    ]
  where
    no_overlap : (o : Option ℕ) → option_map Overlap o ≡ None → o ≡ None
    no_overlap None e = refl
    no_overlap (Some s) e = cc

pub record IsOver (ss new : List Span) (start : ℕ) (bytes : List ℕ) : Type 0 where
  pub laid_out : IsLaidOut 0 new
  pub adds : AddsRegion ss new start bytes

pub over : (ss : List Span) (start : ℕ) (bytes : List ℕ) → IsLaidOut 0 ss → IsTaken ss start bytes → IsOver ss (with_span (record { start = start; bytes = bytes }) ss) start bytes
over ss start bytes laid taken =
    let region : Span = record { start = start; bytes = bytes } in
    record {
      laid_out = laid-with_span region ss 0 laid (omega arith) taken.nonempty taken.fits taken.apart;
      adds = adds-with_span region ss (with_span region ss) laid taken.nonempty taken.apart refl;
    }

-- ---- an image over another

pub record IsOverlaid (ss : List Span) (over : Overlay) : Type 0 where
  pub spans : with_span (region_of over) over.below.now ≡ ss
  pub laid_out : IsLaidOut 0 over.below.now
  pub taken : IsTaken over.below.now over.start over.bytes.now

pub overlaid : (ss : List Span) (regions : Regions) (over : Overlay) → regions ≡ Over over → spans_in regions ≡ ss → IsApart regions → IsOverlaid ss over
overlaid ss regions over is spans parts =
    let apart_over : IsApart (Over over) = subst IsApart is parts in
    record {
      spans = rw is at spans;
      laid_out = apart_over.1;
      taken = apart_over.0;
    }

pub above-over : (ss : List Span) (over : Overlay) (a : ℕ) → IsOverlaid ss over → cond (ltb a over.start) (lower over.start (start_above over.below.now a)) (start_above over.below.now a) ≡ start_above ss a
above-over ss over a o = sym (above-with_span (region_of over) over.below.now a) ∙ ap (λ (ts : List Span). start_above ts a) o.spans

pub above-past : (ss : List Span) (over : Overlay) (a : ℕ) → IsOverlaid ss over → over.start ≤ a → start_above over.below.now a ≡ start_above ss a
above-past ss over a o h = let no : ltb a over.start ≡ false = grind (arith, nat_tests) in let all = above-over ss over a o in rw no at all

pub above-before : (ss : List Span) (over : Overlay) (a : ℕ) → IsOverlaid ss over → a < over.start → lower over.start (start_above over.below.now a) ≡ start_above ss a
above-before ss over a o h = let yes : ltb a over.start ≡ true = grind (arith, nat_tests) in let all = above-over ss over a o in rw yes at all
