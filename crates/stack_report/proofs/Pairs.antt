-- A table of the two digits of each byte.
use Rattle.std.proofs.Common.{◌≡◌, ℕ, zero, suc, ◌+◌, ◌*◌, ◌/◌, ◌%◌, ◌<◌, ◌==◌, ◌&&◌, List, [], ◌∷◌, Bool, true, false, refl, arith, length, slice_index_or}
use Rattle.std.proofs.lemmas.Bool.Decides.{nat_tests}
use Rattle.std.specs.Prelude.{codes}
use Rattle.std.specs.Fmt.{digit_glyph}

-- the digits of numbers from one on, two of each
abbrev pub are_pairs : ℕ → List ℕ → Bool
are_pairs k [] = true
are_pairs k (high ∷ []) = false
are_pairs k (high ∷ low ∷ rest) = (high == digit_glyph false (k / 16)) && ((low == digit_glyph false (k % 16)) && are_pairs (k + 1) rest)

both : (a b : Bool) → (a && b) ≡ true → (a ≡ true) × (b ≡ true)
both true true e = (refl, refl)
both true false e = absurd cc
both false b e = absurd cc

same : (a b : ℕ) → (a == b) ≡ true → a ≡ b
same a b e = grind (arith, nat_tests)

pub pair_at : (k b : ℕ) (pairs : List ℕ) → are_pairs k pairs ≡ true → 2 * b + 1 < length pairs →
    (slice_index_or pairs (2 * b) 0 ≡ digit_glyph false ((k + b) / 16)) × (slice_index_or pairs (2 * b + 1) 0 ≡ digit_glyph false ((k + b) % 16))
pair_at k b [] right inside = absurd (omega arith)
pair_at k b (high ∷ []) right inside = absurd cc
pair_at k zero (high ∷ low ∷ rest) right inside =
    let first = both (high == digit_glyph false (k / 16)) ((low == digit_glyph false (k % 16)) && are_pairs (k + 1) rest) right in
    let second = both (low == digit_glyph false (k % 16)) (are_pairs (k + 1) rest) first.1 in
    let here : k + 0 ≡ k = omega arith in
    rw here (same _ _ first.0, same _ _ second.0)
pair_at k (suc b) (high ∷ low ∷ rest) right inside =
    let first = both (high == digit_glyph false (k / 16)) ((low == digit_glyph false (k % 16)) && are_pairs (k + 1) rest) right in
    let second = both (low == digit_glyph false (k % 16)) (are_pairs (k + 1) rest) first.1 in
    let next : k + suc b ≡ k + 1 + b = omega arith in
    let even : 2 * suc b ≡ suc (suc (2 * b)) = omega arith in
    let odd : 2 * suc b + 1 ≡ suc (suc (2 * b + 1)) = omega arith in
    rw (next, odd, even) (pair_at (k + 1) b rest second.1 (omega arith))

pub byte_pair : (b : ℕ) (pairs : List ℕ) → are_pairs 0 pairs ≡ true → length pairs ≡ 512 → b < 256 →
    (slice_index_or pairs (2 * b) 0 ≡ digit_glyph false (b / 16)) × (slice_index_or pairs (2 * b + 1) 0 ≡ digit_glyph false (b % 16))
byte_pair b pairs right size small =
    let none : 0 + b ≡ b = omega arith in
    rw none at (pair_at 0 b pairs right (omega (arith, size)))

abbrev pub pairs : List ℕ
pairs = codes "000102030405060708090a0b0c0d0e0f101112131415161718191a1b1c1d1e1f202122232425262728292a2b2c2d2e2f303132333435363738393a3b3c3d3e3f404142434445464748494a4b4c4d4e4f505152535455565758595a5b5c5d5e5f606162636465666768696a6b6c6d6e6f707172737475767778797a7b7c7d7e7f808182838485868788898a8b8c8d8e8f909192939495969798999a9b9c9d9e9fa0a1a2a3a4a5a6a7a8a9aaabacadaeafb0b1b2b3b4b5b6b7b8b9babbbcbdbebfc0c1c2c3c4c5c6c7c8c9cacbcccdcecfd0d1d2d3d4d5d6d7d8d9dadbdcdddedfe0e1e2e3e4e5e6e7e8e9eaebecedeeeff0f1f2f3f4f5f6f7f8f9fafbfcfdfeff"

pub high_digit : (b : ℕ) → b < 256 → slice_index_or pairs (2 * b) 0 ≡ digit_glyph false (b / 16)
high_digit b small = (byte_pair b pairs refl refl small).0

pub low_digit : (b : ℕ) → b < 256 → slice_index_or pairs (2 * b + 1) 0 ≡ digit_glyph false (b % 16)
low_digit b small = (byte_pair b pairs refl refl small).1
