-- The types in a language table's head.
use Rattle.std.proofs.Common.{◌≡◌, ℕ, Result, Ok, Err, refl, ap, ◌∙◌}
use Rattle.unwind_definitions.specs.declared.error.Error.{Error as Fault}
use Rattle.unwind_definitions.specs.Faults.{◌>>=◌}
use Rattle.unwind_definitions.specs.Input.{Input}
use Rattle.unwind_definitions.specs.LanguageTable.{types}
use Rattle.unwinding_frames.specs.LanguageViews.{passes_types}

rest_or : {A : Type 0} → Input → Result (A × Input) Fault → Input
rest_or c (Ok r) = r.1
rest_or c (Err e) = c

abbrev passed : Input → Result (Unit {0} × Input) Fault
passed c = Ok (tt, c)

same_rest : (c d : Input) → passed c ≡ passed d → c ≡ d
unfolding rest_or
same_rest c d e = ap (rest_or c) e

fault_or : {A : Type 0} → Fault → Result A Fault → Fault
fault_or f (Ok r) = f
fault_or f (Err e) = e

abbrev refused : Fault → Result (Unit {0} × Input) Fault
refused f = Err f

same_fault : (f e : Fault) → refused f ≡ refused e → f ≡ e
unfolding fault_or
same_fault f e is = ap (fault_or f) is

-- where they can't be passed, they can't be read
pub types_refused : (c : Input) (e : Fault) → passes_types c ≡ Err e → types c ≡ Err e
types_refused c e fails = go (types c) refl fails
  where
    go : (r : Result (ℕ × Input) Fault) → types c ≡ r → (r >>= λ t. passed t.1) ≡ Err e → types c ≡ Err e
    go (Ok t) is fails = absurd cc
    go (Err f) is fails = is ∙ ap Err (same_fault f e fails)

-- where they are passed, they are read
pub types_passed : (c d : Input) → passes_types c ≡ Ok (tt, d) → (n : ℕ) × (types c ≡ Ok (n, d))
types_passed c d e = go (types c) refl e
  where
    go : (r : Result (ℕ × Input) Fault) → types c ≡ r → (r >>= λ t. passed t.1) ≡ Ok (tt, d) → (n : ℕ) × (types c ≡ Ok (n, d))
    go (Err f) is e = absurd cc
    go (Ok t) is e = let same : t.1 ≡ d = same_rest t.1 d e in (t.0, rw (is, same) refl)
