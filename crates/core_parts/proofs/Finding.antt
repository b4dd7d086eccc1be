-- The segment that holds a stack pointer, and the parts that are read.
use Rattle.std.proofs.Common.{◌≡◌, ℕ, zero, suc, Bool, true, false, List, [], ◌∷◌, ◌++◌, drop, map, get_or, length, ◌<◌, ◌+◌, Option, Some, None, refl, sym, ap, ◌∙◌, append_assoc}
use Rattle.std.specs.Prelude.{IfSome, IsTrue, slice_get}
use Rattle.std.specs.List.{AllByRecursion}
use Rattle.std.proofs.lemmas.List.{at_drop_more, map-append}
use Rattle.memory_image.specs.Image.{Span}
use Rattle.core_file.specs.declared.places.SegmentPlace.{SegmentPlace}
use Rattle.core_file.specs.Fronts.{segment_by}
use Rattle.mapped_modules.specs.Places.{first_such}
use Rattle.core_parts.specs.declared.windows.Window.{Window}
use Rattle.core_parts.specs.Parts.{IsStackPart, LiesIn, is_apart}
use Rattle.core_parts.specs.Views.{window_span}

-- the first that passes a test is one of the list
pub found_at : {A : Type 0} (test : A → Bool) (xs : List A) (x : A) → first_such test xs ≡ Some x → (i : ℕ) × (slice_get xs i ≡ Some x)
found_at test [] x is = absurd cc
found_at test (y ∷ ys) x is = go (test y) refl (found_at test ys x)
  where
    go : (b : Bool) → test y ≡ b → (first_such test ys ≡ Some x → (i : ℕ) × (slice_get ys i ≡ Some x)) → (i : ℕ) × (slice_get (y ∷ ys) i ≡ Some x)
    go true passes later = (zero, rw passes at is)
    go false fails later = let place = later (rw fails at is) in (suc place.0, place.1)

-- what lies in it is a part that is read, where it is apart from the tables
pub stack_part_of : (places : List SegmentPlace) (tables : List Span) (place : SegmentPlace) (o : Option SegmentPlace) → (i : ℕ) × (slice_get places i ≡ Some place) → IsTrue (is_apart place tables)
    → IfSome o (λ part. LiesIn part place) → IfSome o (λ part. IsStackPart places tables part)
stack_part_of places tables place None at apart lies = tt
stack_part_of places tables place (Some part) at apart lies = record { place = place; index = at.0; among = at.1; apart = apart; lies = lies }

-- one part more that was read
pub window_next : (bytes : List ℕ) (old new : List Window) (w : Window) (parts : List SegmentPlace) (i : ℕ) (d : SegmentPlace) (whole : List Span) → i < length parts → window_span w ≡ segment_by bytes (get_or parts i d) → new ≡ old ++ w ∷ []
    → map window_span old ++ map (segment_by bytes) (drop i parts) ≡ whole → map window_span new ++ map (segment_by bytes) (drop (i + 1) parts) ≡ whole
window_next bytes old new w parts i d whole less is more before =
    let rest = map (segment_by bytes) (drop (i + 1) parts) in
    ap (λ (ws : List Window). map window_span ws ++ rest) more
    ∙ ap (λ (ss : List Span). ss ++ rest) (map-append window_span old (w ∷ []))
    ∙ append_assoc (map window_span old) (window_span w ∷ []) rest
    ∙ ap (λ (s : Span). map window_span old ++ (s ∷ rest)) is
    ∙ ap (λ (ss : List Span). map window_span old ++ ss) (sym (at_drop_more (map (segment_by bytes)) parts i d less))
    ∙ before

pub all_more : {A : Type 0} (P : A → Type 0) (xs : List A) (x : A) → AllByRecursion P xs → P x → AllByRecursion P (xs ++ x ∷ [])
all_more P [] x all here = (here, tt)
all_more P (y ∷ ys) x all here = (all.0, all_more P ys x all.1 here)
