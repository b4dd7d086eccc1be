-- Two numbers share a bit exactly where their bits in common make another number than 0.
use Rattle.std.proofs.Common.{◌≡◌, ◌≢◌, ℕ, zero, suc, ◌+◌, ◌/◌, ◌%◌, ◌^◌, ◌<◌, Bool, true, false, not, eqb, refl, sym, ap, ◌∙◌, arith}
use Rattle.std.specs.Prelude.{◌↔◌, IsTrue, bit_and}
use Rattle.std.specs.Int.{IsBitSet}
use Rattle.std.proofs.lemmas.Bool.{eqb-true, eqb-false}
use Rattle.std.proofs.lemmas.Nat.{shr-shr, shr_le, and_le_l, and_le_r, and_mask, and_shr, and_mod, bit_set_by_shift}
use Rattle.std.proofs.Math.Nat.{pow-succ'}

below_power : (n : ℕ) → n < 2 ^ n
below_power zero = omega arith
below_power (suc n) = let ih = below_power n in let p = pow-succ' 2 n in omega arith

-- a number other than 0 has a bit
some_bit : (most n : ℕ) → n < 2 ^ most → n ≢ 0 → (k : ℕ) × (n / 2 ^ k % 2 ≡ 1)
some_bit zero n lt some = absurd (omega arith)
some_bit (suc most) n lt some = go (eqb (n % 2) 1) refl (λ lt some. some_bit most (n / 2) lt some)
  where
    go : (b : Bool) → eqb (n % 2) 1 ≡ b → (n / 2 < 2 ^ most → n / 2 ≢ 0 → (k : ℕ) × (n / 2 / 2 ^ k % 2 ≡ 1)) → (k : ℕ) × (n / 2 ^ k % 2 ≡ 1)
    go true is later = let odd : n % 2 ≡ 1 = eqb-true (n % 2) 1 is in (0, omega arith)
    go false is later =
        let even : n % 2 ≢ 1 = eqb-false (n % 2) 1 is in
        let p = pow-succ' 2 most in
        let h = later (omega arith) (omega arith) in
        let half : n / 2 / 2 ^ h.0 ≡ n / 2 ^ (1 + h.0) = shr-shr n 1 h.0 in
        (1 + h.0, ap (λ (m : ℕ). m % 2) (sym half) ∙ h.1)

module _ (m n k : ℕ) where
  in_common : bit_and m n / 2 ^ k % 2 ≡ bit_and (m / 2 ^ k % 2) (n / 2 ^ k % 2)
  in_common = ap (λ (x : ℕ). x % 2) (and_shr m n k) ∙ and_mod (m / 2 ^ k) (n / 2 ^ k) 1

  set_by : (x : ℕ) → x / 2 ^ k % 2 ≡ 1 → IsBitSet x k
  set_by x odd = (bit_set_by_shift x k).0 (and_mask (x / 2 ^ k) 1 ∙ odd)

  odd_by : (x : ℕ) → IsBitSet x k → x / 2 ^ k % 2 ≡ 1
  odd_by x set = sym (and_mask (x / 2 ^ k) 1) ∙ (bit_set_by_shift x k).1 set

  both_set : bit_and m n / 2 ^ k % 2 ≡ 1 → IsBitSet m k × IsBitSet n k
  both_set odd =
      let one : bit_and (m / 2 ^ k % 2) (n / 2 ^ k % 2) ≡ 1 = sym in_common ∙ odd in
      let l = and_le_l (m / 2 ^ k % 2) (n / 2 ^ k % 2) in
      let r = and_le_r (m / 2 ^ k % 2) (n / 2 ^ k % 2) in
      (set_by m (omega arith), set_by n (omega arith))

  common_set : IsBitSet m k → IsBitSet n k → bit_and m n ≢ 0
  common_set a b none =
      let x = odd_by m a in let y = odd_by n b in
      let odd : bit_and m n / 2 ^ k % 2 ≡ 1 = in_common ∙ rw (x, y) refl in
      let nothing : 0 / 2 ^ k % 2 ≡ 1 = rw none at odd in
      let small = shr_le 0 k in
      omega arith

pub shares_bit : (m n p q : ℕ) → p ≡ m → q ≡ n → IsTrue (not (eqb (bit_and p q) 0)) ↔ ((k : ℕ) × IsBitSet m k × IsBitSet n k)
shares_bit m n p q a b = (
  λ is.
      let h = some_bit (bit_and m n) (bit_and m n) (below_power (bit_and m n)) (forward (eqb (bit_and p q) 0) refl is) in
      let both = both_set m n h.0 h.1 in
      (h.0, both.0, both.1),
  λ h. backward (eqb (bit_and p q) 0) refl (common_set m n h.0 h.1 h.2),
)
  where
    same : bit_and p q ≡ bit_and m n
    same = rw (a, b) refl

    forward : (t : Bool) → eqb (bit_and p q) 0 ≡ t → IsTrue (not t) → bit_and m n ≢ 0
    forward true is no_bit = absurd cc
    forward false is some = λ none. eqb-false (bit_and p q) 0 is (same ∙ none)

    backward : (t : Bool) → eqb (bit_and p q) 0 ≡ t → bit_and m n ≢ 0 → IsTrue (not t)
    backward true is some = absurd (some (sym same ∙ eqb-true (bit_and p q) 0 is))
    backward false is some = refl
