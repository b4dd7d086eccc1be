-- Digits without leading zeros, and digits at the head.
use Rattle.std.proofs.Common.{◌≡◌, ℕ, zero, suc, ◌+◌, ◌-◌, ◌*◌, ◌/◌, ◌%◌, ◌^◌, ◌<◌, ◌≤◌, ◌==◌, List, [], ◌∷◌, true, false, refl, ◌∙◌, ap, sym, ◌++◌, append_assoc, arith, length, take, drop}
use Rattle.std.proofs.Common.{length-set}
use Rattle.std.proofs.Math.ListN.{set}
use Rattle.std.proofs.Math.Nat.{pow-suc}
use Rattle.std.proofs.Math.Pow.{pow_mono}
use Rattle.std.proofs.lemmas.List.{take-append-le, append-nil, take_all, length-append}
use Rattle.std.proofs.lemmas.Bool.Decides.{nat_tests}
use Rattle.std.proofs.lemmas.Nat.{leading_length}
use Rattle.std.specs.Fmt.{digits, digits_onto, digit_glyph}
use Rattle.std.specs.Int.Count.{count_leading_zeros}
use Rattle.stack_report.specs.Digits.{digits_of}
use Rattle.stack_report.proofs.Steps.{digit_placed}

zero_test : (n : ℕ) → n ≡ 0 → (n == 0) ≡ true
zero_test n h = grind (arith, nat_tests)

some_test : (n : ℕ) → 0 < n → (n == 0) ≡ false
some_test n h = grind (arith, nat_tests)

-- a number of so many digits, put before others
onto : (c k n : ℕ) (after : List ℕ) → c ≤ k → n < 16 ^ suc c → (0 < c → 16 ^ c ≤ n) → digits_onto (suc k) 16 false n after ≡ digits_of (suc c) n ++ after
onto zero k n after room below above =
    let none : (n / 16 == 0) ≡ true = zero_test (n / 16) (omega arith) in
    rw none refl
onto (suc c) zero n after room below above = absurd (omega arith)
onto (suc c) (suc k) n after room below above =
    let power : 16 ^ suc (suc c) ≡ 16 * 16 ^ suc c = grind (arith, pow-suc) in
    let less : 16 ^ suc c ≡ 16 * 16 ^ c = grind (arith, pow-suc) in
    let least : 16 ^ suc c ≤ n = above (omega arith) in
    let one : 1 ≤ 16 ^ c = one_le c in
    let some : (n / 16 == 0) ≡ false = some_test (n / 16) (omega (arith, least, less, one)) in
    rw some (onto c k (n / 16) (digit_glyph false (n % 16) ∷ after) (omega arith) (omega (arith, below, power)) (λ h. omega (arith, least, less))
    ∙ sym (append_assoc (digits_of (suc c) (n / 16)) (digit_glyph false (n % 16) ∷ []) after))
  where
    one_le : (c : ℕ) → 1 ≤ 16 ^ c
    one_le zero = omega arith
    one_le (suc c) = let p : 16 ^ suc c ≡ 16 * 16 ^ c = grind (arith, pow-suc) in omega (arith, one_le c, p)

sixteens : (c : ℕ) → 16 ^ c ≡ 2 ^ (4 * c)
sixteens zero = refl
sixteens (suc c) =
    let p : 16 ^ suc c ≡ 16 * 16 ^ c = grind (arith, pow-suc) in
    let four : 4 * suc c ≡ suc (suc (suc (suc (4 * c)))) = omega arith in
    let q : 2 ^ suc (suc (suc (suc (4 * c)))) ≡ 16 * 2 ^ (4 * c) = omega arith in
    p ∙ (ap (λ x. 16 * x) (sixteens c) ∙ sym (ap (λ e. 2 ^ e) four ∙ q))

-- how many digits a number has that isn't 0
counted : (n m c : ℕ) → 0 < n → n < 2 ^ m → 2 ^ m ≤ 2 * n + 1 → c ≡ (m + 3) / 4 → (0 < c) × (n < 16 ^ c) × (16 ^ (c - 1) ≤ n)
counted n m c some below above is =
    let enough : m ≤ 4 * c = omega arith in
    let up : 2 ^ m ≤ 2 ^ (4 * c) = pow_mono enough in
    let has : 0 < m = go m below in
    let positive : 0 < c = omega arith in
    let few : suc (4 * (c - 1)) ≤ m = omega arith in
    let down : 2 ^ suc (4 * (c - 1)) ≤ 2 ^ m = pow_mono few in
    let twice : 2 ^ suc (4 * (c - 1)) ≡ 2 * 2 ^ (4 * (c - 1)) = grind (arith, pow-suc) in
    (positive, rw (sixteens c) (omega (arith, below, up)), rw (sixteens (c - 1)) (omega (arith, down, twice, above)))
  where
    go : (m : ℕ) → n < 2 ^ m → 0 < m
    go zero h = absurd (omega (arith, some, h))
    go (suc m) h = omega arith

pub digits_counted : (n c : ℕ) → n < 2 ^ 64 → 0 < n → c ≡ (64 - count_leading_zeros 64 n + 3) / 4 →
    (0 < c) × (c ≤ 16) × (n < 16 ^ c) × (digits 16 false n ≡ digits_of c n)
unfolding digits
digits_counted n c small some is =
    let long = leading_length 64 n small in
    let m : ℕ = long.0 in
    let length_is : m ≡ 64 - count_leading_zeros 64 n = omega (arith, long.1) in
    let all = counted n m c some long.2 long.3 (is ∙ ap (λ x. (x + 3) / 4) (sym length_is)) in
    let few : c ≤ 16 = omega (arith, is) in
    (all.0, few, all.1, written c all.0 few all.1 all.2)
  where
    written : (c : ℕ) → 0 < c → c ≤ 16 → n < 16 ^ c → 16 ^ (c - 1) ≤ n → digits 16 false n ≡ digits_of c n
    written zero has few below above = absurd (omega arith)
    written (suc c) has few below above =
        let back : suc c - 1 ≡ c = omega arith in
        onto c 63 n [] (omega arith) below (λ h. rw back at above) ∙ append-nil (digits_of (suc c) n)

pub zero_digits : (n : ℕ) → n ≡ 0 → digits 16 false n ≡ digit_glyph false (n % 16) ∷ []
unfolding digits
zero_digits n is = rw is refl

digits_length : (c n : ℕ) → length (digits_of c n) ≡ c
digits_length zero n = refl
digits_length (suc c) n = length-append (digits_of c (n / 16)) _ ∙ (ap (λ x. x + 1) (digits_length c (n / 16)) ∙ omega arith)

-- a number that is put higher by some digits begins with its digits
pub shifted : (c k n : ℕ) → take c (digits_of (c + k) (n * 16 ^ k)) ≡ digits_of c n
shifted c zero n =
    let none : c + 0 ≡ c = omega arith in
    let one : n * 16 ^ 0 ≡ n = omega arith in
    rw (none, one) (take_all c (digits_of c n) (omega (arith, digits_length c n)))
shifted c (suc k) n =
    let more : c + suc k ≡ suc (c + k) = omega arith in
    let p : 16 ^ suc k ≡ 16 * 16 ^ k = grind (arith, pow-suc) in
    let higher : n * 16 ^ suc k ≡ 16 * (n * 16 ^ k) = rw p (omega arith) in
    let down : 16 * (n * 16 ^ k) / 16 ≡ n * 16 ^ k = omega arith in
    rw (more, higher, down) (take-append-le c (digits_of (c + k) (n * 16 ^ k)) _ (omega (arith, digits_length (c + k) (n * 16 ^ k))) ∙ shifted c k n)

-- the two digits of a byte stand where the others are to come before them
pub byte_placed : (k rest low high : ℕ) (buffer whole : List ℕ) → suc (suc k) ≤ length buffer →
    high ≡ digit_glyph false (rest % 256 / 16) → low ≡ digit_glyph false (rest % 256 % 16) →
    digits_of (suc (suc k)) rest ++ drop (suc (suc k)) buffer ≡ whole →
    digits_of k (rest / 256) ++ drop k (set (set buffer (suc k) low) k high) ≡ whole
byte_placed k rest low high buffer whole inside is_high is_low placed =
    let lower : rest % 256 % 16 ≡ rest % 16 = omega arith in
    let upper : rest % 256 / 16 ≡ rest / 16 % 16 = omega arith in
    let both : rest / 16 / 16 ≡ rest / 256 = omega arith in
    let first = digit_placed (suc k) (suc (suc k)) rest low buffer whole refl (omega (arith, inside)) (is_low ∙ ap (digit_glyph false) lower) placed in
    let second = digit_placed k (suc k) (rest / 16) high (set buffer (suc k) low) whole refl (rw length-set (omega (arith, inside))) (is_high ∙ ap (digit_glyph false) upper) first in
    rw both at second

shifted_below : (c k n : ℕ) → n < 16 ^ c → n * 16 ^ k < 16 ^ (c + k)
shifted_below c zero n below =
    let none : c + 0 ≡ c = omega arith in
    let one : n * 16 ^ 0 ≡ n = omega arith in
    rw (none, one) below
shifted_below c (suc k) n below =
    let more : c + suc k ≡ suc (c + k) = omega arith in
    let p : 16 ^ suc k ≡ 16 * 16 ^ k = grind (arith, pow-suc) in
    let q : 16 ^ suc (c + k) ≡ 16 * 16 ^ (c + k) = grind (arith, pow-suc) in
    let higher : n * 16 ^ suc k ≡ 16 * (n * 16 ^ k) = rw p (omega arith) in
    rw (more, higher, q) (omega (arith, shifted_below c k n below))

-- a number that is put as high as it goes begins with its digits
pub head_written : (n c : ℕ) → c ≤ 16 → n < 16 ^ c → digits 16 false n ≡ digits_of c n → take c (digits_of 16 (n * 2 ^ (64 - 4 * c) % 2 ^ 64)) ≡ digits 16 false n
head_written n c few below written =
    let rest : 64 - 4 * c ≡ 4 * (16 - c) = omega arith in
    let all : c + (16 - c) ≡ 16 = omega arith in
    let room : n * 16 ^ (16 - c) < 16 ^ 16 = rw all at (shifted_below c (16 - c) n below) in
    let fits : n * 16 ^ (16 - c) % 2 ^ 64 ≡ n * 16 ^ (16 - c) = omega (arith, room) in
    let head : take c (digits_of 16 (n * 16 ^ (16 - c))) ≡ digits_of c n = rw all at (shifted c (16 - c) n) in
    rw (rest, ← sixteens (16 - c), fits) (head ∙ sym written)
