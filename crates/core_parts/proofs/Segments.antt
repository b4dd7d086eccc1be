-- The segments of a core's file, and parts of them.
use Rattle.std.proofs.Common.{◌≡◌, ℕ, zero, suc, ◌+◌, ◌<◌, ◌≤◌, ◌^◌, Bool, true, false, ◌&&◌, ◌||◌, leb, ltb, List, [], ◌∷◌, length, take, drop, map, Some, None, refl, sym, ap, subst, ◌∙◌, arith, length-take, length-drop}
use Rattle.std.specs.Prelude.{IsTrue, slice_get}
use Rattle.std.proofs.lemmas.Bool.Decides.{nat_tests}
use Rattle.memory_image.specs.Image.{Span, IsLaidOut, end_of, lowest_overlap, overlaps}
use Rattle.core_file.specs.declared.places.SegmentPlace.{SegmentPlace}
use Rattle.core_file.specs.Fronts.{segment_by}
use Rattle.mapped_modules.specs.Spaces.{with_region, with_regions}
use Rattle.part_walks.specs.Parts.{IsWithin}
use Rattle.core_parts.specs.Parts.{LiesIn, are_laid_out, end_at, is_apart, is_beside, is_laid_out}
use Rattle.core_parts.proofs.Regions.{apart_region}

-- what it is for a segment to be laid out
record IsLaid (size low : ℕ) (p : SegmentPlace) : Type 0 where
  some : 0 < p.size
  within : p.offset + p.size ≤ size
  above : low ≤ p.address
  below : end_at p < 2 ^ 64

laid_one : (size low : ℕ) (p : SegmentPlace) → is_laid_out size low p ≡ true → IsLaid size low p
laid_one size low p is = record { some = grind (arith, nat_tests); within = grind (arith, nat_tests); above = grind (arith, nat_tests); below = grind (arith, nat_tests) }

both : (a b : Bool) → IsTrue (a && b) → IsTrue a × IsTrue b
both true true e = (refl, refl)
both true false e = absurd cc
both false b e = absurd cc

-- a segment within a file has as many bytes as its program header says
all_there : (bytes : List ℕ) (p : SegmentPlace) → p.offset + p.size ≤ length bytes → length (segment_by bytes p).bytes ≡ p.size
all_there bytes p within =
    let taken = length-take p.size (drop p.offset bytes) in
    let rest = length-drop p.offset bytes in
    omega arith

-- the segments of a file that is long enough are laid out as their program headers are
pub laid_segments : (bytes : List ℕ) (size : ℕ) → size ≤ length bytes → (low : ℕ) (ps : List SegmentPlace) → IsTrue (are_laid_out size low ps) → IsLaidOut low (map (segment_by bytes) ps)
laid_segments bytes size long low [] all = tt
laid_segments bytes size long low (p ∷ ps) all =
    let parts = both (is_laid_out size low p) (are_laid_out size (end_at p) ps) all in
    let is = laid_one size low p parts.0 in
    let fits = is.within in
    let nonempty = is.some in
    let below = is.below in
    let count : length (segment_by bytes p).bytes ≡ p.size = all_there bytes p (omega arith) in
    let end : p.address + length (segment_by bytes p).bytes ≡ end_at p = ap (λ (n : ℕ). p.address + n) count in
    (is.above, omega arith, omega arith, subst (λ (n : ℕ). IsLaidOut n (map (segment_by bytes) ps)) (sym end) (laid_segments bytes size long (end_at p) ps parts.1))

pub segment_at : (bytes : List ℕ) (ps : List SegmentPlace) (i : ℕ) (p : SegmentPlace) → slice_get ps i ≡ Some p → slice_get (map (segment_by bytes) ps) i ≡ Some (segment_by bytes p)
segment_at bytes [] i p at = absurd cc
segment_at bytes (q ∷ qs) zero p at = let same : q ≡ p = cc in ap (λ (s : SegmentPlace). Some (segment_by bytes s)) same
segment_at bytes (q ∷ qs) (suc i) p at = segment_at bytes qs i p at

few : (bytes : List ℕ) (p : SegmentPlace) → length (segment_by bytes p).bytes ≤ p.size
few bytes p = let size = length-take p.size (drop p.offset bytes) in omega arith

-- ---- the tables

-- a segment that lies beside a table shares no address with it
beside_table : (bytes : List ℕ) (p : SegmentPlace) (t : Span) → is_beside p t ≡ true → overlaps p.address (length (segment_by bytes p).bytes) t ≡ false
beside_table bytes p t is = go (length (segment_by bytes p).bytes) (few bytes p) is
  where
    go : (n : ℕ) → n ≤ p.size → leb (end_of t) p.address || leb (end_at p) t.start ≡ true → ltb t.start (p.address + n) && ltb p.address (end_of t) ≡ false
    go n size free = grind (arith, nat_tests)

-- a segment that lies beside all tables shares no address with the image of them
pub apart_tables : (bytes : List ℕ) (p : SegmentPlace) (ts image : List Span) → IsTrue (is_apart p ts) → lowest_overlap image p.address (length (segment_by bytes p).bytes) ≡ None
    → lowest_overlap (with_regions image ts) p.address (length (segment_by bytes p).bytes) ≡ None
apart_tables bytes p [] image free none = none
apart_tables bytes p (t ∷ ts) image free none =
    let parts = both (is_beside p t) (is_apart p ts) free in
    apart_tables bytes p ts (with_region image t) parts.1 (apart_region image t p.address (length (segment_by bytes p).bytes) (beside_table bytes p t parts.0) none)

-- ---- parts of segments

taken_less : (n m : ℕ) (xs : List ℕ) → n ≤ m → take n (take m xs) ≡ take n xs
taken_less zero m xs less = refl
taken_less (suc n) zero xs less = absurd (omega arith)
taken_less (suc n) (suc m) [] less = refl
taken_less (suc n) (suc m) (x ∷ xs) less = ap (λ (l : List ℕ). x ∷ l) (taken_less n m xs (omega arith))

part_taken : (n k m : ℕ) (xs : List ℕ) → k + n ≤ m → take n (drop k (take m xs)) ≡ take n (drop k xs)
part_taken n zero m xs less = taken_less n m xs (omega arith)
part_taken n (suc k) zero xs less = absurd (omega arith)
part_taken n (suc k) (suc m) [] less = refl
part_taken n (suc k) (suc m) (x ∷ xs) less = part_taken n k m xs (omega arith)

drop_further : (k o : ℕ) (xs : List ℕ) → drop k (drop o xs) ≡ drop (o + k) xs
drop_further k zero xs = let same : k ≡ 0 + k = omega arith in ap (λ (n : ℕ). drop n xs) same
drop_further zero (suc o) [] = let same : suc o ≡ suc o + 0 = omega arith in ap (λ (n : ℕ). drop {A = ℕ} n []) same
drop_further (suc k) (suc o) [] = let same : suc (o + suc k) ≡ suc o + suc k = omega arith in ap (λ (n : ℕ). drop {A = ℕ} n []) same
drop_further k (suc o) (x ∷ xs) = let same : suc (o + k) ≡ suc o + k = omega arith in drop_further k o xs ∙ ap (λ (n : ℕ). drop n (x ∷ xs)) same

-- what is read of a part of a segment lies within it
pub part_within : (bytes : List ℕ) (part place : SegmentPlace) → LiesIn part place → IsWithin (segment_by bytes part) (segment_by bytes place)
part_within bytes part place lies =
    let from = ap (λ (o : ℕ). take part.size (drop o bytes)) lies.offset in
    record {
      from = lies.skip;
      count = part.size;
      start = lies.address;
      bytes = from ∙ sym (part_taken part.size lies.skip place.size (drop place.offset bytes) lies.within ∙ ap (take part.size) (drop_further lies.skip place.offset bytes));
    }
