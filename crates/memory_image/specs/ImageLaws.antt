-- Laws of an image for its readers: what a table tells of the words in it, and what stays as a region is added.
use Rattle.std.proofs.Common.{◌≡◌, ℕ, zero, suc, ◌+◌, ◌-◌, ◌<◌, ◌≤◌, ◌^◌, Bool, true, false, inl, inr, List, [], ◌∷◌, length, take, drop, slice_get, Some, None, refl, sym, ap, ◌∙◌, arith}
use Rattle.std.proofs.lemmas.Bool.Decides.{nat_tests, leb_tells}
use Rattle.std.proofs.lemmas.List.{length-drop, drop-drop}
use Rattle.memory_image.specs.Image.{Span, end_of, holds, table_at, byte_at, number_at, half_at, word_at, IsLaidOut, AddsRegion}
use Rattle.memory_image.specs.Words.{number_of, u32_at, u64_at}

-- ---- where nothing is mapped

holds_before : (s : Span) (a : ℕ) → a < s.start → holds s a ≡ false
holds_before s a h = grind (arith, nat_tests)

pub table_before : (ss : List Span) (low a : ℕ) → IsLaidOut low ss → a < low → table_at ss a ≡ []
table_before [] low a laid h = refl
table_before (s ∷ ss) low a laid h = rw (holds_before s a (omega (arith, laid.0))) (table_before ss (end_of s) a laid.3 (omega (arith, laid.0)))

-- nor past the last address
pub table_past : (ss : List Span) (low a : ℕ) → IsLaidOut low ss → 2 ^ 64 ≤ a → table_at ss a ≡ []
table_past [] low a laid h = refl
table_past (s ∷ ss) low a laid h = let no : holds s a ≡ false = past s a (omega (arith, laid.2)) in rw no (table_past ss (end_of s) a laid.3 h)
  where
    past : (s : Span) (a : ℕ) → end_of s ≤ a → holds s a ≡ false
    past s a h = grind (arith, nat_tests)

-- ---- the bytes of a table are those at its addresses

table_low : (ss : List Span) (low a : ℕ) → IsLaidOut low ss → 0 < length (table_at ss a) → low ≤ a
table_low ss low a laid some = elim (leb_tells low a) [
  | inl p ↦ p.1
  | inr p ↦ let none : table_at ss a ≡ [] = table_before ss low a laid p.1 in let bad : 0 < 0 = rw none at some in absurd (omega arith)
]

pub table_at-add : (ss : List Span) (low a k : ℕ) → IsLaidOut low ss → k < length (table_at ss a) → table_at ss (a + k) ≡ drop k (table_at ss a)
table_at-add [] low a k laid h = absurd (omega arith)
table_at-add (s ∷ ss) low a k laid h = go (λ h'. table_at-add ss (end_of s) a k laid.3 h') (holds s a) refl
  where
    at_start : (s : Span) (a : ℕ) → holds s a ≡ true → s.start ≤ a
    at_start s a e = grind (arith, nat_tests)

    still : (s : Span) (a k : ℕ) → s.start ≤ a → a + k < end_of s → holds s (a + k) ≡ true
    still s a k l h = grind (arith, nat_tests)

    beyond : (s : Span) (a : ℕ) → end_of s ≤ a → holds s a ≡ false
    beyond s a h = grind (arith, nat_tests)

    go : (k < length (table_at ss a) → table_at ss (a + k) ≡ drop k (table_at ss a)) → (t : Bool) → holds s a ≡ t → table_at (s ∷ ss) (a + k) ≡ drop k (table_at (s ∷ ss) a)
    go ih true e =
        let h' : k < length (drop (a - s.start) s.bytes) = rw e at h in
        let len : k < length s.bytes - (a - s.start) = rw length-drop at h' in
        let start : s.start ≤ a = at_start s a e in
        let inside : holds s (a + k) ≡ true = still s a k start (omega arith) in
        let place : (a - s.start) + k ≡ (a + k) - s.start = omega arith in
        rw (e, inside) (rw (sym place) (sym (drop-drop k (a - s.start) s.bytes)))
    go ih false e =
        let h' : k < length (table_at ss a) = rw e at h in
        let past : end_of s ≤ a = table_low ss (end_of s) a laid.3 (omega arith) in
        let out : holds s (a + k) ≡ false = beyond s (a + k) (omega arith) in
        rw (e, out) (ih h')

number_at-next : (ss : List Span) (a n b : ℕ) (bs : List ℕ) → IsLaidOut 0 ss → table_at ss a ≡ b ∷ bs → n ≤ length bs
    → (n ≤ length (table_at ss (a + 1)) → number_at ss (a + 1) n ≡ Some (number_of (take n (table_at ss (a + 1))))) → number_at ss (a + 1) n ≡ Some (number_of (take n bs))
number_at-next ss a zero b bs laid e h later = refl
number_at-next ss a (suc n) b bs laid e h later =
    let more : 1 < length (table_at ss a) = rw e (omega arith) in
    let next : table_at ss (a + 1) ≡ bs = table_at-add ss 0 a 1 laid more ∙ rw e refl in
    let fits : suc n ≤ length (table_at ss (a + 1)) = rw next h in
    later fits ∙ ap (λ (t : List ℕ). Some (number_of (take (suc n) t))) next

-- the number of bytes that all lie in one region
pub number_at-table : (ss : List Span) (a n : ℕ) → IsLaidOut 0 ss → n ≤ length (table_at ss a) → number_at ss a n ≡ Some (number_of (take n (table_at ss a)))
number_at-table ss a zero laid h = refl
number_at-table ss a (suc n) laid h = go (table_at ss a) refl (λ fits. number_at-table ss (a + 1) n laid fits)
  where
    go : (t : List ℕ) → table_at ss a ≡ t → (n ≤ length (table_at ss (a + 1)) → number_at ss (a + 1) n ≡ Some (number_of (take n (table_at ss (a + 1))))) → number_at ss a (suc n) ≡ Some (number_of (take (suc n) (table_at ss a)))
    go [] e later = let none : suc n ≤ 0 = rw e at h in absurd (omega arith)
    go (b ∷ bs) e later =
        let fits : suc n ≤ length (b ∷ bs) = rw e at h in
        rw (e, number_at-next ss a n b bs laid e (omega arith) later) refl

pub half_at-table : (ss : List Span) (a : ℕ) → IsLaidOut 0 ss → 4 ≤ length (table_at ss a) → half_at ss a ≡ Some (u32_at (table_at ss a) 0)
unfolding half_at u32_at
half_at-table ss a laid h = number_at-table ss a 4 laid h

pub word_at-table : (ss : List Span) (a : ℕ) → IsLaidOut 0 ss → 8 ≤ length (table_at ss a) → word_at ss a ≡ Some (u64_at (table_at ss a) 0)
unfolding word_at u64_at
word_at-table ss a laid h = number_at-table ss a 8 laid h

-- ---- what was mapped stays

pub byte_at-grows : (old new : List Span) (a : ℕ) (bytes : List ℕ) → AddsRegion old new a bytes → (x b : ℕ) → byte_at old x ≡ Some b → byte_at new x ≡ Some b
byte_at-grows old new a bytes adds x b e = go (holds (record { start = a; bytes = bytes }) x) refl
  where
    go : (t : Bool) → holds (record { start = a; bytes = bytes }) x ≡ t → byte_at new x ≡ Some b
    go true h = let none : byte_at old x ≡ None = ap (λ (t : List ℕ). slice_get t 0) (adds.fresh x h) in let bad : None ≡ Some b = sym none ∙ e in cc
    go false h = rw (adds.tables x, h) e
