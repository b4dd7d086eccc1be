-- The first fault of columns, by ascending column.
use Rattle.std.proofs.Common.{◌≡◌, ℕ, zero, suc, ◌<◌, Bool, true, false, ltb, Option, Some, None, Result, Ok, Err, refl, arith}
use Rattle.std.specs.Option.{option_or}
use Rattle.std.proofs.lemmas.Bool.{ltb-true, ltb-false}
use Rattle.unwind_definitions.specs.Caller.{StepFault, first_fault_below, fault_in}

-- a column has a value
abbrev pub HasValue : Result (Option ℕ) StepFault → Type 0
HasValue r = (v : Option ℕ) × (r ≡ Ok v)

fine : (r : Result (Option ℕ) StepFault) → HasValue r → fault_in r ≡ None
fine (Ok v) h = refl
fine (Err e) h = let is = h.1 in absurd cc

-- no column below n meets a fault
pub no_fault_below : (n : ℕ) (value : ℕ → Result (Option ℕ) StepFault) → ((k : ℕ) → k < n → HasValue (value k)) → first_fault_below n value ≡ None
unfolding first_fault_below
no_fault_below zero value each = refl
no_fault_below (suc n) value each = rw (no_fault_below n value (λ k lt. each k (omega arith)), fine (value n) (each n (omega arith))) refl

-- the lowest column that meets one says which it is
pub first_fault_at : (n k : ℕ) (value : ℕ → Result (Option ℕ) StepFault) (e : StepFault) → k < n → ((j : ℕ) → j < k → HasValue (value j)) → value k ≡ Err e → first_fault_below n value ≡ Some e
unfolding first_fault_below
first_fault_at zero k value e lt before at = absurd (omega arith)
first_fault_at (suc n) k value e lt before at = go (ltb k n) refl (first_fault_at n k value e)
  where
    here : (j : ℕ) → j ≡ k → option_or (first_fault_below j value) (fault_in (value j)) ≡ Some e
    here j same = rw (same, no_fault_below k value before, at) refl

    go : (b : Bool) → ltb k n ≡ b → (k < n → ((j : ℕ) → j < k → HasValue (value j)) → value k ≡ Err e → first_fault_below n value ≡ Some e) →
        option_or (first_fault_below n value) (fault_in (value n)) ≡ Some e
    go true is ih = rw (ih (ltb-true k n is) before at) refl
    go false is ih = let le = ltb-false k n is in here n (omega arith)
