-- How the bytes of numbers are read.
use Rattle.std.proofs.Common.{◌≡◌, ℕ, suc, ◌+◌, ◌-◌, ◌*◌, ◌<◌, ◌≤◌, ◌^◌, List, [], ◌∷◌, ◌++◌, length, drop, Some, refl, sym, ap, subst, ◌∙◌, arith}
use Rattle.std.specs.Int.{w32, w64, from_le_bytes}
use Rattle.std.specs.List.{AllByRecursion, flat_map}
use Rattle.std.proofs.lemmas.List.{length-append, take_at, drop_at, drop-drop, append_assoc, length-drop}
use Rattle.std.proofs.lemmas.Nat.{from_le_bytes-to_le_bytes_4, from_le_bytes-to_le_bytes_8}
use Rattle.memory_image.specs.Image.{Span, table_at, word_at, IsLaidOut}
use Rattle.memory_image.specs.ImageLaws.{word_at-table, table_at-add}
use Rattle.memory_image.specs.Words.{number_of, u64_at, from_le_bytes_8}
use Rattle.generated_chains.specs.Spelled.{half, word}

pub length-half : (n : ℕ) → length (half n) ≡ 4
unfolding half
length-half n = refl

pub length-word : (n : ℕ) → length (word n) ≡ 8
unfolding word
length-word n = refl

pub half-read : (n : ℕ) → n < 2 ^ 32 → from_le_bytes w32 (half n) ≡ n
unfolding half
half-read n lt = from_le_bytes-to_le_bytes_4 n lt

word-read : (n : ℕ) → n < 2 ^ 64 → from_le_bytes w64 (word n) ≡ n
unfolding word
word-read n lt = from_le_bytes-to_le_bytes_8 n lt

-- ---- words in memory

u64-of_word : (w : ℕ) (rest : List ℕ) → w < 2 ^ 64 → u64_at (word w ++ rest) 0 ≡ w
unfolding u64_at
u64-of_word w rest lt = ap number_of (take_at (word w) rest 8 (length-word w)) ∙ sym (from_le_bytes_8 (word w) (length-word w)) ∙ word-read w lt

pub word_here : (image : List Span) → IsLaidOut 0 image → (a w : ℕ) (rest : List ℕ) → w < 2 ^ 64 → table_at image a ≡ word w ++ rest → word_at image a ≡ Some w
word_here image laid a w rest lt at =
    let long : 8 ≤ length (table_at image a) = rw (at, length-append, length-word) (omega arith) in
    word_at-table image a laid long ∙ ap (λ (t : List ℕ). Some (u64_at t 0)) at ∙ ap (λ (n : ℕ). Some n) (u64-of_word w rest lt)

-- words stand one after another from an address on
abbrev pub AreWordsAt : List Span → ℕ → List ℕ → Type 0
AreWordsAt image a [] = Unit {0}
AreWordsAt image a (w ∷ ws) = (word_at image a ≡ Some w) × AreWordsAt image (a + 8) ws

-- A part of the memory from an address on, and words in it.
module _ (image : List Span) (laid : IsLaidOut 0 image) (base : ℕ) (whole : List ℕ) (at : table_at image base ≡ whole) where
  word_from : (k w : ℕ) (rest : List ℕ) → w < 2 ^ 64 → drop k whole ≡ word w ++ rest → word_at image (base + k) ≡ Some w
  word_from k w rest lt e =
      let long : length (drop k whole) ≡ 8 + length rest = rw (e, length-append, length-word) refl in
      let inside : k < length whole = let l : length whole - k ≡ 8 + length rest = sym (length-drop k whole) ∙ long in omega arith in
      let inside' : k < length (table_at image base) = rw at inside in
      word_here image laid (base + k) w rest lt (table_at-add image 0 base k laid inside' ∙ ap (drop k) at ∙ e)

  pub words_from : (k : ℕ) (ws rest : List ℕ) → AllByRecursion (λ w. w < 2 ^ 64) ws → drop k whole ≡ flat_map word ws ++ rest →
      AreWordsAt image (base + k) ws × (drop (k + 8 * length ws) whole ≡ rest)
  words_from k [] rest lt e = let same : k + 0 ≡ k = omega arith in (tt, rw same e)
  words_from k (w ∷ ws) rest lt e =
      let first : drop k whole ≡ word w ++ (flat_map word ws ++ rest) = e ∙ append_assoc (word w) (flat_map word ws) rest in
      let next : drop (k + 8) whole ≡ flat_map word ws ++ rest = sym (drop-drop 8 k whole) ∙ ap (drop 8) first ∙ drop_at (word w) (flat_map word ws ++ rest) 8 (length-word w) in
      let later = words_from (k + 8) ws rest lt.1 next in
      let place : base + (k + 8) ≡ (base + k) + 8 = omega arith in
      let end : (k + 8) + 8 * length ws ≡ k + 8 * suc (length ws) = omega arith in
      ((word_from k w (flat_map word ws ++ rest) lt.0 first, subst (λ (a : ℕ). AreWordsAt image a ws) place later.0), subst (λ (m : ℕ). drop m whole ≡ rest) end later.1)
