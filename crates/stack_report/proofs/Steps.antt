-- One digit more.
use Rattle.std.proofs.Common.{◌≡◌, ℕ, zero, suc, ◌+◌, ◌*◌, ◌/◌, ◌%◌, ◌^◌, ◌<◌, ◌==◌, List, [], ◌∷◌, false, refl, ◌∙◌, sym, ◌++◌, append_assoc, arith, length, drop}
use Rattle.std.proofs.Math.ListN.{set}
use Rattle.std.proofs.lemmas.List.{drop-set}
use Rattle.std.proofs.Math.Nat.{pow-suc}
use Rattle.std.proofs.lemmas.Bool.Decides.{nat_tests}
use Rattle.std.specs.Fmt.{digits, digit_glyph}
use Rattle.stack_report.specs.Digits.{digits_before, digits_of}

pub first_digit : (base n : ℕ) → digits_before 63 base (n / base) (digit_glyph false (n % base) ∷ []) ≡ digits base false n
unfolding digits
first_digit base n = refl

not_zero : (n : ℕ) → 0 < n → (n == 0) ≡ false
not_zero n h = grind (arith, nat_tests)

pub next_digit : (most less base rest : ℕ) (written : List ℕ) → less + 1 ≡ most → 0 < rest → digits_before less base (rest / base) (digit_glyph false (rest % base) ∷ written) ≡ digits_before most base rest written
next_digit zero less base rest written e r = absurd (omega arith)
next_digit (suc most) less base rest written e r =
    let one : less ≡ most = omega arith in
    let some : (rest == 0) ≡ false = not_zero rest r in
    rw (one, some) refl

pub some_left_10 : (most rest : ℕ) → rest < 10 ^ most → 0 < rest → 0 < most
some_left_10 zero rest h r = absurd (omega arith)
some_left_10 (suc s) rest h r = omega arith

pub less_left_10 : (most less rest : ℕ) → less + 1 ≡ most → rest < 10 ^ most → rest / 10 < 10 ^ less
less_left_10 zero less rest e h = absurd (omega arith)
less_left_10 (suc s) less rest e h =
    let one : less ≡ s = omega arith in
    let p : 10 ^ suc s ≡ 10 * 10 ^ s = grind (arith, pow-suc) in
    rw one (omega (arith, p))

-- ---- as many digits as there are places

-- one digit more stands where the others are to come before it
pub digit_placed : (k left n : ℕ) (g : ℕ) (buffer whole : List ℕ) → left ≡ suc k → k < length buffer → g ≡ digit_glyph false (n % 16) →
    digits_of left n ++ drop left buffer ≡ whole → digits_of k (n / 16) ++ drop k (set buffer k g) ≡ whole
digit_placed k left n g buffer whole more inside is placed =
    let before : (digits_of k (n / 16) ++ digit_glyph false (n % 16) ∷ []) ++ drop (suc k) buffer ≡ whole = rw more at placed in
    let next : k + 1 ≡ suc k = omega arith in
    rw (drop-set, is, next) (sym (append_assoc (digits_of k (n / 16)) (digit_glyph false (n % 16) ∷ []) (drop (suc k) buffer)) ∙ before)

-- a mark and digits that were put one after the other
pub marked : (old mark one two buffer written : List ℕ) → one ≡ old ++ mark → two ≡ one ++ buffer → buffer ≡ written → two ≡ old ++ (mark ++ written)
marked old mark one two buffer written first second same = rw (second, first, ← same) (append_assoc old mark buffer)
