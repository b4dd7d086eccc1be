-- An image takes regions that are laid out, in their order, and a space one module that isn't empty.
use Rattle.std.proofs.Common.{◌≡◌, ℕ, ◌+◌, ◌<◌, ◌≤◌, ◌^◌, true, false, List, [], ◌∷◌, ◌++◌, length, None, refl, sym, ap, ◌∙◌, arith}
use Rattle.std.specs.List.{AllByRecursion}
use Rattle.std.proofs.lemmas.List.{append-nil, append_assoc}
use Rattle.std.proofs.lemmas.Bool.{le-ltb, ne_eqb}
use Rattle.std.proofs.lemmas.Bool.Decides.{nat_tests}
use Rattle.memory_image.specs.Image.{Span, end_of, overlaps, lowest_overlap, refusal, with_span, IsLaidOut}
use Rattle.stack_snapshot.specs.Content.{takes_regions, image_of}

-- each ends at or below an address, and starts below it
abbrev LieBelow : ℕ → List Span → Type 0
LieBelow a ss = AllByRecursion (λ (s : Span). (s.start < a) × (end_of s ≤ a)) ss

overlaps_not : (a n : ℕ) (s : Span) → end_of s ≤ a → overlaps a n s ≡ false
overlaps_not a n s h = grind (arith, nat_tests)

no_overlap : (ss : List Span) (a n : ℕ) → LieBelow a ss → lowest_overlap ss a n ≡ None
no_overlap [] a n below = refl
no_overlap (s ∷ ss) a n below = rw (overlaps_not a n s below.0.1) (no_overlap ss a n below.1)

comes_last : (s : Span) (ss : List Span) → LieBelow s.start ss → with_span s ss ≡ ss ++ s ∷ []
comes_last s [] below = refl
comes_last s (t ∷ ts) below = rw (le-ltb s.start t.start (omega (arith, below.0.0))) (ap (λ us. t ∷ us) (comes_last s ts below.1))

raised : (ss : List Span) (a b : ℕ) → a ≤ b → LieBelow a ss → LieBelow b ss
raised [] a b le below = tt
raised (s ∷ ss) a b le below = ((omega (arith, below.0.0), omega (arith, below.0.1)), raised ss a b le below.1)

with_last : (ss : List Span) (s : Span) (a : ℕ) → LieBelow a ss → s.start < a → end_of s ≤ a → LieBelow a (ss ++ s ∷ [])
with_last [] s a below lt le = ((lt, le), tt)
with_last (t ∷ ts) s a below lt le = (below.0, with_last ts s a below.1 lt le)

not_refused : (ss : List Span) (s : Span) → LieBelow s.start ss → 0 < length s.bytes → end_of s ≤ 2 ^ 64 → refusal ss s.start s.bytes ≡ None
not_refused ss s below some fits = rw (ne_eqb (length s.bytes) 0 (λ e. absurd (omega arith)), le-ltb (2 ^ 64) (s.start + length s.bytes) fits, no_overlap ss s.start (length s.bytes) below) refl

pub record AreTaken (before ss : List Span) : Type 0 where
  pub taken : takes_regions before ss ≡ true
  pub image : image_of before ss ≡ before ++ ss

taken_from : (low : ℕ) (before ss : List Span) → LieBelow low before → IsLaidOut low ss → AreTaken before ss
taken_from low before [] below laid = record { taken = refl; image = sym (append-nil before) }
taken_from low before (s ∷ ss) below laid =
    let below' : LieBelow s.start before = raised before low s.start laid.0 below in
    let next : LieBelow (end_of s) (before ++ s ∷ []) = with_last before s (end_of s) (raised before low (end_of s) (omega (arith, laid.0)) below) (omega (arith, laid.1)) (omega arith) in
    let later = taken_from (end_of s) (before ++ s ∷ []) ss next laid.3 in
    record {
      taken = rw (not_refused before s below' laid.1 laid.2, comes_last s before below') later.taken;
      image = rw (comes_last s before below') (later.image ∙ append_assoc before (s ∷ []) ss);
    }

-- regions that are laid out are an image
pub laid_out_taken : (ss : List Span) → IsLaidOut 0 ss → AreTaken [] ss
laid_out_taken ss laid = taken_from 0 [] ss tt laid
