-- Elements are moved one place on: what is carried takes the place of each in turn.
use Rattle.std.proofs.Common.{◌≡◌, ℕ, zero, suc, ◌+◌, ◌<◌, List, [], ◌∷◌, ◌++◌, length, get_or, set, refl, sym, ap, ◌∙◌, arith}
use Rattle.std.specs.List.{insert, refill}
use Rattle.arrayvec.proofs.ArrayVecLemmas.{items-with_items}

carried : {A : Type 0} (xs : List A) (i : ℕ) (x d : A) → i < length xs → insert (set xs i x) (suc i) (get_or xs i d) ≡ insert xs i x
carried [] i x d lt = absurd (omega arith)
carried (y ∷ ys) zero x d lt = refl
carried (y ∷ ys) (suc i) x d lt = ap (λ l. y ∷ l) (carried ys i x d (omega arith))

pub carried_on : {A : Type 0} (xs : List A) (i : ℕ) (x d : A) → i < length xs → insert (set xs i x) (i + 1) (get_or xs i d) ≡ insert xs i x
carried_on xs i x d lt =
    let next : i + 1 ≡ suc i = omega arith in
    ap (λ n. insert (set xs i x) n (get_or xs i d)) next ∙ carried xs i x d lt

pub carried_last : {A : Type 0} (xs : List A) (x : A) → insert xs (length xs) x ≡ xs ++ x ∷ []
carried_last [] x = refl
carried_last (y ∷ ys) x = ap (λ l. y ∷ l) (carried_last ys x)

-- what is written back in a list's place, and one more
module _ {A : Type 0} (xs ys zs : List A) (same : ys ≡ xs) (long : length zs ≡ length ys) where
  pub written_back : refill (length xs) xs zs ≡ zs
  written_back = items-with_items (record { items = xs }) zs (long ∙ ap length same)

  pub shifted : (i : ℕ) (x last : A) → insert ys i x ≡ zs ++ last ∷ [] → refill (length xs) xs zs ++ last ∷ [] ≡ insert xs i x
  shifted i x last moved = ap (λ l. l ++ last ∷ []) written_back ∙ sym moved ∙ ap (λ l. insert l i x) same
