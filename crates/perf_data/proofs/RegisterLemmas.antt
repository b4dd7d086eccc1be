-- A register's word stands among the words.
use Rattle.std.proofs.Common.{◌≡◌, ℕ, zero, suc, ◌+◌, ◌*◌, ◌/◌, ◌%◌, ◌^◌, ◌<◌, ◌≤◌, true, false, bit_and, refl, sym, ap, ◌∙◌, subst, arith}
use Rattle.std.specs.Prelude.{count_ones}
use Rattle.std.specs.Int.Bits.{and_zero_l, and_zero_r}
use Rattle.std.proofs.lemmas.Nat.{ones_cat, zero_from_ones, and_block, div-add-mod'}
use Rattle.perf_data.specs.Layouts.{has_bits}

-- a number without digits from one on has none of these bits
none_above : (n q r : ℕ) → 0 < 2 ^ n → r < 2 ^ n → q ≡ 0 → has_bits (q * 2 ^ n + r) (2 ^ n) ≡ false
none_above n q r pos small none =
    let there : bit_and (q * 2 ^ n + r) (1 * 2 ^ n + 0) ≡ bit_and q 1 * 2 ^ n + bit_and r 0 = and_block n q 1 r 0 small pos in
    let one : 1 * 2 ^ n + 0 ≡ 2 ^ n = omega arith in
    let low : bit_and r 0 ≡ 0 = and_zero_r r in
    let high : bit_and q 1 ≡ 0 = ap (λ (k : ℕ). bit_and k 1) none ∙ and_zero_l 1 in
    let nothing : bit_and (q * 2 ^ n + r) (2 ^ n) ≡ 0 = sym (ap (λ (k : ℕ). bit_and (q * 2 ^ n + r) k) one) ∙ there ∙ rw (low, high) (omega arith) in
    rw nothing refl

more_above : (n q r : ℕ) → 0 < 2 ^ n → r < 2 ^ n → has_bits (q * 2 ^ n + r) (2 ^ n) ≡ true → count_ones r + 1 ≤ count_ones (q * 2 ^ n + r)
more_above n q r pos small is =
    let all : count_ones (q * 2 ^ n + r) ≡ count_ones q + count_ones r = ones_cat n q r small in
    go (count_ones q) refl all
  where
    go : (k : ℕ) → count_ones q ≡ k → count_ones (q * 2 ^ n + r) ≡ k + count_ones r → count_ones r + 1 ≤ count_ones (q * 2 ^ n + r)
    go zero none all = let bad : true ≡ false = sym is ∙ none_above n q r pos small (zero_from_ones q none) in absurd cc
    go (suc k) some all = omega arith

-- fewer bits are set below a bit that is set than in all
pub fewer_below : (mask n : ℕ) → 0 < 2 ^ n → mask % 2 ^ n < 2 ^ n → has_bits mask (2 ^ n) ≡ true → count_ones (mask % 2 ^ n) + 1 ≤ count_ones mask
fewer_below mask n pos small is =
    let whole : mask / 2 ^ n * 2 ^ n + mask % 2 ^ n ≡ mask = div-add-mod' mask (2 ^ n) in
    subst (λ (m : ℕ). count_ones (mask % 2 ^ n) + 1 ≤ count_ones m) whole
    (more_above n (mask / 2 ^ n) (mask % 2 ^ n) pos small (ap (λ (m : ℕ). has_bits m (2 ^ n)) whole ∙ is))
