-- What a context holds after a write, and that its columns tell it.
use Rattle.std.proofs.Common.{◌≡◌, ℕ, ◌<◌, ◌≢◌, Bool, true, false, List, [], ◌∷◌, length, get_or, set, Option, Some, None, refl, ap, ◌∙◌, arith, ltb, eqb}
use Rattle.std.specs.Prelude.{map}
use Rattle.std.proofs.lemmas.List.{get_or-set_same, get_or-set_other}
use Rattle.std.proofs.Math.ListN.{length-set}
use Rattle.std.proofs.lemmas.Bool.Decides.{nat_tests}
use Rattle.unwind_definitions.specs.Caller.{Columns}
use Rattle.unwind_arch.specs.declared.x86_64.Context.{Context}
use Rattle.unwind_arch.specs.ContextViews.{columns_of, with_column, context_of}

-- sixteen general registers
abbrev pub IsWhole : Context → Type 0
IsWhole c = length c.registers ≡ 16

pub record Holds (c d : Context) (k v : ℕ) : Type 0 where
  pub here : columns_of d k ≡ Some v
  pub others : (j : ℕ) → j ≢ k → columns_of d j ≡ columns_of c j
  pub whole : IsWhole d

general : (c : Context) (k v : ℕ) → IsWhole c → k < 16 → Holds c (record c { registers = set c.registers k v }) k v
general c k v whole low = record {
  here = grind (arith, nat_tests, get_or-set_same);
  others = λ j other. grind (arith, nat_tests, get_or-set_other c.registers k j v 0 other);
  whole = length-set c.registers k v ∙ whole;
}

-- what a write to a column leaves; it fails exactly where there is no such column
abbrev pub Writes : Context → ℕ → ℕ → Option Context → Type 0
Writes c k v None = columns_of c k ≡ None
Writes c k v (Some d) = (columns_of c k ≢ None) × Holds c d k v

pub with_column-holds : (c : Context) (k v : ℕ) → IsWhole c → Writes c k v (with_column c k v)
with_column-holds c k v whole = first (ltb k 16) refl
  where
    fourth : (b : Bool) → ltb k 16 ≡ false → eqb k 16 ≡ false → eqb k 64 ≡ false → eqb k 65 ≡ b → Writes c k v (with_column c k v)
    fourth true low ra control same = rw (low, ra, control, same) (λ e. cc, record { here = rw (low, ra, control, same) refl; others = λ j other. grind (arith, nat_tests); whole = whole })
    fourth false low ra control same = let none : columns_of c k ≡ None = rw (low, ra, control, same) refl in rw (low, ra, control, same) none

    third : (b : Bool) → ltb k 16 ≡ false → eqb k 16 ≡ false → eqb k 64 ≡ b → Writes c k v (with_column c k v)
    third true low ra same = rw (low, ra, same) (λ e. cc, record { here = rw (low, ra, same) refl; others = λ j other. grind (arith, nat_tests); whole = whole })
    third false low ra same = fourth (eqb k 65) low ra same refl

    second : (b : Bool) → ltb k 16 ≡ false → eqb k 16 ≡ b → Writes c k v (with_column c k v)
    second true low same = rw (low, same) (λ e. cc, record { here = rw (low, same) refl; others = λ j other. grind (arith, nat_tests); whole = whole })
    second false low same = third (eqb k 64) low same refl

    first : (b : Bool) → ltb k 16 ≡ b → Writes c k v (with_column c k v)
    first true low = rw low (λ e. cc, general c k v whole (grind (arith, nat_tests)))
    first false low = second (eqb k 16) low refl

-- sixteen elements are the list
sixteen : (xs : List ℕ) → length xs ≡ 16 → map (λ k. get_or xs k 0) (0 ∷ 1 ∷ 2 ∷ 3 ∷ 4 ∷ 5 ∷ 6 ∷ 7 ∷ 8 ∷ 9 ∷ 10 ∷ 11 ∷ 12 ∷ 13 ∷ 14 ∷ 15 ∷ []) ≡ xs
sixteen (a ∷ b ∷ c ∷ d ∷ e ∷ f ∷ g ∷ h ∷ i ∷ j ∷ k ∷ l ∷ m ∷ n ∷ o ∷ p ∷ []) eq = refl
sixteen (a ∷ b ∷ c ∷ d ∷ e ∷ f ∷ g ∷ h ∷ i ∷ j ∷ k ∷ l ∷ m ∷ n ∷ o ∷ p ∷ q ∷ qs) eq = absurd (omega arith)
sixteen _ eq = absurd (omega arith)

-- a context is reported by what its columns hold
pub context_of-columns : (c : Context) (columns : Columns) → IsWhole c → ((k : ℕ) → columns k ≡ columns_of c k) → context_of columns ≡ c
context_of-columns c columns whole same =
    let shown : columns ≡ columns_of c = λ i k. same k i in
    rw shown (ap (λ (registers : List ℕ). record c { registers = registers }) (sixteen c.registers whole))
