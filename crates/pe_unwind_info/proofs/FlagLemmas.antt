-- Single bits of a number.
use Rattle.std.proofs.Common.{◌≡◌, ℕ, ◌*◌, ◌/◌, ◌%◌, Bool, true, false, eqb, ap, ◌∙◌, refl, arith}
use Rattle.std.specs.Int.RustNames.{bit_and}
use Rattle.std.proofs.lemmas.Bool.{eqb-true, eq-eqb}
use Rattle.std.proofs.lemmas.Nat.Bits.{and_high}

pub and_two : (n : ℕ) → bit_and n 2 ≡ n / 2 % 2 * 2
and_two n = and_high n 1 1

pub and_four : (n : ℕ) → bit_and n 4 ≡ n / 4 % 2 * 4
and_four n = and_high n 1 2

-- flags that are the low three bits of a number have the first, or the second, where the number has it
pub has_first : (flags n : ℕ) → flags ≡ n % 8 → eqb (bit_and flags 1) 1 ≡ eqb (n / 1 % 2) 1
has_first flags n e =
    let one : bit_and flags 1 ≡ flags / 1 % 2 * 1 = and_high flags 1 0 in
    let same : bit_and flags 1 ≡ n / 1 % 2 = omega arith in
    ap (λ (m : ℕ). eqb m 1) same

same_test : (a b c d : ℕ) → (a ≡ b → c ≡ d) → (c ≡ d → a ≡ b) → eqb a b ≡ eqb c d
same_test a b c d to from = go (eqb a b) refl (eqb c d) refl
  where
    go : (x : Bool) → eqb a b ≡ x → (y : Bool) → eqb c d ≡ y → eqb a b ≡ eqb c d
    go true p y q = p ∙ ap (λ (z : Bool). z) (let h = eq-eqb c d (to (eqb-true a b p)) in cc)
    go false p true q = let h = eq-eqb a b (from (eqb-true c d q)) in cc
    go false p false q = cc

pub has_second : (flags n : ℕ) → flags ≡ n % 8 → eqb (bit_and flags 2) 2 ≡ eqb (n / 2 % 2) 1
has_second flags n e =
    let two : bit_and flags 2 ≡ flags / 2 % 2 * 2 = and_two flags in
    same_test (bit_and flags 2) 2 (n / 2 % 2) 1 (λ h. omega arith) (λ h. omega arith)
