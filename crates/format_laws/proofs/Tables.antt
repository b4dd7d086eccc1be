-- A test at each of some numbers, computed.
use Rattle.std.proofs.Common.{◌≡◌, ℕ, zero, suc, ◌+◌, ◌<◌, ◌≤◌, Bool, true, false, ltb, ◌&&◌, refl, subst, arith}
use Rattle.std.proofs.lemmas.Bool.{ltb-true, ltb-false}
use Rattle.unwind_laws.proofs.Booleans.{both_true}

-- a test at each of n numbers from a on
abbrev pub all_from : ℕ → ℕ → (ℕ → Bool) → Bool
all_from a zero p = true
all_from a (suc n) p = p a && all_from (suc a) n p

pub each_from : (n a : ℕ) (p : ℕ → Bool) → all_from a n p ≡ true → (x : ℕ) → a ≤ x → x < a + n → p x ≡ true
each_from zero a p h x low high = absurd (omega arith)
each_from (suc n) a p h x low high = go (ltb a x) refl (λ low'. each_from n (suc a) p (both_true (p a) (all_from (suc a) n p) h).1 x low' (omega arith))
  where
    go : (b : Bool) → ltb a x ≡ b → (suc a ≤ x → p x ≡ true) → p x ≡ true
    go true e ih = ih (let lt = ltb-true a x e in omega arith)
    go false e ih = let le = ltb-false a x e in let same : a ≡ x = omega arith in subst (λ y. p y ≡ true) same (both_true (p a) (all_from (suc a) n p) h).0
