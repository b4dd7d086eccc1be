-- The order of stacks.
use Rattle.std.proofs.Common.{◌≡◌, ◌<◌, ℕ, true, false, Ordering, Less, Equal, Greater, List, [], ◌∷◌, inl, inr, refl, sym, ap, subst, ◌∙◌, arith}
use Rattle.std.specs.Ordering.{MatchOrdering, ordering_then, is_eq, is_lt, nat_cmp}
use Rattle.std.specs.Cmp.{ranks}
use Rattle.folded_stacks.specs.Stacks.{ComesBefore, is_same, stack_order}

pub before_itself : (s : List ℕ) → ComesBefore s s → ⊥
before_itself [] h = h
before_itself (a ∷ xs) (inl h) = omega arith
before_itself (a ∷ xs) (inr (e, h)) = before_itself xs h

pub before_then : (s t u : List ℕ) → ComesBefore s t → ComesBefore t u → ComesBefore s u
before_then [] [] u h k = absurd h
before_then [] (b ∷ ys) [] h k = absurd k
before_then [] (b ∷ ys) (c ∷ zs) h k = tt
before_then (a ∷ xs) [] u h k = absurd h
before_then (a ∷ xs) (b ∷ ys) [] h k = absurd k
before_then (a ∷ xs) (b ∷ ys) (c ∷ zs) (inl h) (inl k) = inl (omega arith)
before_then (a ∷ xs) (b ∷ ys) (c ∷ zs) (inl h) (inr (f, k)) = inl (omega arith)
before_then (a ∷ xs) (b ∷ ys) (c ∷ zs) (inr (e, h)) (inl k) = inl (omega arith)
before_then (a ∷ xs) (b ∷ ys) (c ∷ zs) (inr (e, h)) (inr (f, k)) = inr (e ∙ f, before_then xs ys zs h k)

-- ---- the comparison

-- what an answer says
abbrev pub Says : Ordering → List ℕ → List ℕ → Type 0
Says r s t = MatchOrdering r (ComesBefore s t) (s ≡ t) (ComesBefore t s)

joined : (a b : ℕ) (xs ys : List ℕ) (r q : Ordering) → MatchOrdering r (a < b) (a ≡ b) (b < a) → Says q xs ys → Says (ordering_then r q) (a ∷ xs) (b ∷ ys)
joined a b xs ys Less q h k = inl h
joined a b xs ys Equal Less h k = inr (h, k)
joined a b xs ys Equal Equal h k = λ i. h i ∷ k i
joined a b xs ys Equal Greater h k = inr (sym h, k)
joined a b xs ys Greater q h k = inl h

pub order_says : (s t : List ℕ) → Says (stack_order s t) s t
order_says [] [] = refl
order_says [] (b ∷ ys) = tt
order_says (a ∷ xs) [] = tt
order_says (a ∷ xs) (b ∷ ys) = joined a b xs ys (nat_cmp a b) (stack_order xs ys) (ranks a b) (order_says xs ys)

-- at an answer that is known
pub says : (s t : List ℕ) (r : Ordering) → stack_order s t ≡ r → Says r s t
says s t r e = subst (λ k. Says k s t) e (order_says s t)

pub before_order : (s t : List ℕ) → ComesBefore s t → stack_order s t ≡ Less
before_order s t h = go (stack_order s t) (order_says s t)
  where
    go : (r : Ordering) → Says r s t → r ≡ Less
    go Less k = refl
    go Equal k = absurd (before_itself s (subst (ComesBefore s) (sym k) h))
    go Greater k = absurd (before_itself s (before_then s t s h k))

pub same_order : (s t : List ℕ) → s ≡ t → stack_order s t ≡ Equal
same_order s t e = go (stack_order s t) (order_says s t)
  where
    go : (r : Ordering) → Says r s t → r ≡ Equal
    go Less k = absurd (before_itself s (subst (ComesBefore s) (sym e) k))
    go Equal k = refl
    go Greater k = absurd (before_itself s (subst (λ u. ComesBefore u s) (sym e) k))

pub after_order : (s t : List ℕ) → ComesBefore t s → stack_order s t ≡ Greater
after_order s t h = go (stack_order s t) (order_says s t)
  where
    go : (r : Ordering) → Says r s t → r ≡ Greater
    go Less k = absurd (before_itself s (before_then s t s k h))
    go Equal k = absurd (before_itself s (subst (λ u. ComesBefore u s) (sym k) h))
    go Greater k = refl

-- ---- one and the same

pub same_itself : (s : List ℕ) → is_same s s ≡ true
same_itself s = ap is_eq (same_order s s refl)

pub same_is : (s t : List ℕ) → is_same s t ≡ true → s ≡ t
same_is s t e = go (stack_order s t) (order_says s t) e
  where
    go : (r : Ordering) → Says r s t → is_eq r ≡ true → s ≡ t
    go Less k e = absurd cc
    go Equal k e = k
    go Greater k e = absurd cc

pub is_same_by : (s t : List ℕ) → s ≡ t → is_same s t ≡ true
is_same_by s t e = ap is_eq (same_order s t e)

pub before_other : (s t : List ℕ) → ComesBefore s t → is_same s t ≡ false
before_other s t h = ap is_eq (before_order s t h)

pub after_other : (s t : List ℕ) → ComesBefore t s → is_same s t ≡ false
after_other s t h = ap is_eq (after_order s t h)

-- one that doesn't come before another, and isn't it, comes after it
pub comes_after : (s t : List ℕ) → is_lt (stack_order t s) ≡ false → is_same s t ≡ false → ComesBefore s t
comes_after s t up other = go (stack_order s t) (order_says s t) other
  where
    go : (r : Ordering) → Says r s t → is_eq r ≡ false → ComesBefore s t
    go Less k e = k
    go Equal k e = absurd cc
    go Greater k e = let low : is_lt (stack_order t s) ≡ true = ap is_lt (before_order t s k) in absurd cc
