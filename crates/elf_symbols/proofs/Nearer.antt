-- The symbol of an address is the nearest one.
use Rattle.std.proofs.Common.{◌≡◌, ◌⊎◌, inl, inr, ℕ, zero, suc, ◌<◌, ◌≤◌, ◌&&◌, ◌||◌, Bool, true, false, ltb, eqb, List, [], ◌∷◌, slice_get, Option, Some, None, refl, subst, arith}
use Rattle.std.proofs.lemmas.Bool.{ltb-true, ltb-false, eqb-true, eqb-false}
use Rattle.elf_symbols.specs.declared.symbol.Symbol.{Symbol}
use Rattle.elf_symbols.specs.Symbols.{comes_before, holds, nearer, precedence, symbol_at}
use Rattle.elf_symbols.specs.Nearest.{IsNearer, IsNearest}

-- ---- by the starts, the precedences and the places

abbrev Near : ℕ → ℕ → ℕ → ℕ → ℕ → ℕ → Type 0
Near v p i w q j = (w < v) ⊎ ((w ≡ v) × ((q < p) ⊎ ((q ≡ p) × (i ≤ j))))

as_near : (v p w q j : ℕ) → w ≡ v → q ≤ p → Near v p 0 w q j
as_near v p w q j e le = go (ltb q p) refl
  where
    go : (b : Bool) → ltb q p ≡ b → Near v p 0 w q j
    go true is = inr (e, inl (ltb-true q p is))
    go false is = let high : p ≤ q = ltb-false q p is in inr (e, inr (omega arith, omega arith))

-- a symbol that counts before another
before_near : (v p i w q j : ℕ) → (ltb w v || (eqb w v && ltb q p)) ≡ true → Near v p i w q j
before_near v p i w q j is = go (ltb w v) refl (eqb w v) refl (ltb q p) refl is
  where
    go : (a : Bool) → ltb w v ≡ a → (b : Bool) → eqb w v ≡ b → (c : Bool) → ltb q p ≡ c → (a || (b && c)) ≡ true → Near v p i w q j
    go true a b bs c cs is = inl (ltb-true w v a)
    go false a true b true c is = inr (eqb-true w v b, inl (ltb-true q p c))
    go false a true b false c is = absurd cc
    go false a false b c cs is = absurd cc

-- one that doesn't, with one that isn't nearer than the other
past_near : (v p i w q j u r k : ℕ) → (ltb w v || (eqb w v && ltb q p)) ≡ false → Near v p i u r j → Near w q 0 u r k
past_near v p i w q j u r k is near = go (ltb w v) refl (eqb w v) refl (ltb q p) refl is
  where
    same : v ≤ w → (w ≡ v → p ≤ q) → Near v p i u r j → Near w q 0 u r k
    same le more (inl lt) = inl (omega arith)
    same le more (inr (e, inl lt)) = by_start (ltb v w) refl
      where
        by_start : (b : Bool) → ltb v w ≡ b → Near w q 0 u r k
        by_start true b = let lt : v < w = ltb-true v w b in inl (omega arith)
        by_start false b = let ge : w ≤ v = ltb-false v w b in let alike : w ≡ v = omega arith in let le : p ≤ q = more alike in as_near w q u r k (omega arith) (omega arith)
    same le more (inr (e, inr (alike, at))) = by_start (ltb v w) refl
      where
        by_start : (b : Bool) → ltb v w ≡ b → Near w q 0 u r k
        by_start true b = let lt : v < w = ltb-true v w b in inl (omega arith)
        by_start false b = let ge : w ≤ v = ltb-false v w b in let alike : w ≡ v = omega arith in let le : p ≤ q = more alike in as_near w q u r k (omega arith) (omega arith)

    go : (a : Bool) → ltb w v ≡ a → (b : Bool) → eqb w v ≡ b → (c : Bool) → ltb q p ≡ c → (a || (b && c)) ≡ false → Near w q 0 u r k
    go true a b bs c cs is = absurd cc
    go false a true b true c is = absurd cc
    go false a true b false c is = same (ltb-false w v a) (λ e. ltb-false q p c) near
    go false a false b c cs is = same (ltb-false w v a) (λ e. absurd (eqb-false w v b e)) near

-- one place further on
next_near : (v p i w q j : ℕ) → Near v p i w q j → Near v p (suc i) w q (suc j)
next_near v p i w q j (inl lt) = inl lt
next_near v p i w q j (inr (e, inl lt)) = inr (e, inl lt)
next_near v p i w q j (inr (e, inr (alike, le))) = inr (e, inr (alike, omega arith))

-- ---- the table

pub no_symbol : (symbols : List Symbol) (a : ℕ) → symbol_at a symbols ≡ None → (i : ℕ) (s : Symbol) → slice_get symbols i ≡ Some s → holds a s ≡ false
no_symbol [] a none i s at = absurd cc
no_symbol (x ∷ xs) a none i s at = go (holds a x) refl i at none (λ rest j there. no_symbol xs a rest j s there)
  where
    go : (b : Bool) → holds a x ≡ b → (i : ℕ) → slice_get (x ∷ xs) i ≡ Some s → symbol_at a (x ∷ xs) ≡ None → (symbol_at a xs ≡ None → (j : ℕ) → slice_get xs j ≡ Some s → holds a s ≡ false) → holds a s ≡ false
    go true is i at none more = absurd (let some : Some (nearer x (symbol_at a xs)) ≡ None = rw is at none in cc)
    go false is zero at none more = let same : x ≡ s = cc in subst (λ (y : Symbol). holds a y ≡ false) same is
    go false is (suc i) at none more = more (rw is at none) i at

-- the first one stands before the others
alone : (a : ℕ) (x : Symbol) (xs : List Symbol) → holds a x ≡ true → symbol_at a xs ≡ None → IsNearest (x ∷ xs) a x
alone a x xs is none = record { index = 0; stands = refl; inside = is; nearest = nearest }
  where
    nearest : (j : ℕ) (t : Symbol) → slice_get (x ∷ xs) j ≡ Some t → holds a t ≡ true → IsNearer x 0 t j
    nearest zero t at here = let same : x ≡ t = cc in subst (λ (y : Symbol). IsNearer x 0 y 0) same (inr (refl, inr (refl, omega arith)))
    nearest (suc j) t at here = absurd (let not_here : holds a t ≡ false = no_symbol xs a none j t at in cc)

-- the nearest of the others counts before the first
later : (a : ℕ) (x : Symbol) (xs : List Symbol) (y : Symbol) → comes_before y x ≡ true → IsNearest xs a y → IsNearest (x ∷ xs) a y
later a x xs y before near = record { index = suc near.index; stands = near.stands; inside = near.inside; nearest = nearest }
  where
    nearest : (j : ℕ) (t : Symbol) → slice_get (x ∷ xs) j ≡ Some t → holds a t ≡ true → IsNearer y (suc near.index) t j
    nearest zero t at here = let same : x ≡ t = cc in subst (λ (z : Symbol). IsNearer y (suc near.index) z 0) same (before_near y.st_value (precedence y) (suc near.index) x.st_value (precedence x) 0 before)
    nearest (suc j) t at here = next_near y.st_value (precedence y) near.index t.st_value (precedence t) j (near.nearest j t at here)

-- it doesn't
first : (a : ℕ) (x : Symbol) (xs : List Symbol) (y : Symbol) → holds a x ≡ true → comes_before y x ≡ false → IsNearest xs a y → IsNearest (x ∷ xs) a x
first a x xs y is before near = record { index = 0; stands = refl; inside = is; nearest = nearest }
  where
    nearest : (j : ℕ) (t : Symbol) → slice_get (x ∷ xs) j ≡ Some t → holds a t ≡ true → IsNearer x 0 t j
    nearest zero t at here = let same : x ≡ t = cc in subst (λ (y : Symbol). IsNearer x 0 y 0) same (inr (refl, inr (refl, omega arith)))
    nearest (suc j) t at here = past_near y.st_value (precedence y) near.index x.st_value (precedence x) j t.st_value (precedence t) (suc j) before (near.nearest j t at here)

-- the address doesn't lie in the first
passed : (a : ℕ) (x : Symbol) (xs : List Symbol) (y : Symbol) → holds a x ≡ false → IsNearest xs a y → IsNearest (x ∷ xs) a y
passed a x xs y is near = record { index = suc near.index; stands = near.stands; inside = near.inside; nearest = nearest }
  where
    nearest : (j : ℕ) (t : Symbol) → slice_get (x ∷ xs) j ≡ Some t → holds a t ≡ true → IsNearer y (suc near.index) t j
    nearest zero t at here = absurd (let same : x ≡ t = cc in cc)
    nearest (suc j) t at here = next_near y.st_value (precedence y) near.index t.st_value (precedence t) j (near.nearest j t at here)

pub nearest_symbol : (symbols : List Symbol) (a : ℕ) (s : Symbol) → symbol_at a symbols ≡ Some s → IsNearest symbols a s
nearest_symbol [] a s some = absurd cc
nearest_symbol (x ∷ xs) a s some = go (holds a x) refl (symbol_at a xs) refl some (λ y is. nearest_symbol xs a y is)
  where
    chosen : (y : Symbol) (b : Bool) → comes_before y x ≡ b → holds a x ≡ true → IsNearest xs a y → nearer x (Some y) ≡ s → IsNearest (x ∷ xs) a s
    chosen y true before is near e = let same : y ≡ s = rw before at e in subst (λ (z : Symbol). IsNearest (x ∷ xs) a z) same (later a x xs y before near)
    chosen y false before is near e = let same : x ≡ s = rw before at e in subst (λ (z : Symbol). IsNearest (x ∷ xs) a z) same (first a x xs y is before near)

    go : (b : Bool) → holds a x ≡ b → (o : Option Symbol) → symbol_at a xs ≡ o → symbol_at a (x ∷ xs) ≡ Some s → ((y : Symbol) → symbol_at a xs ≡ Some y → IsNearest xs a y) → IsNearest (x ∷ xs) a s
    go false is o os some more = passed a x xs s is (more s (rw is at some))
    go true is None none some more =
        let e : Some x ≡ Some s = rw (is, none) at some in
        let same : x ≡ s = cc in subst (λ (z : Symbol). IsNearest (x ∷ xs) a z) same (alone a x xs is none)
    go true is (Some y) there some more =
        let e : Some (nearer x (Some y)) ≡ Some s = rw (is, there) at some in
        let same : nearer x (Some y) ≡ s = cc in chosen y (comes_before y x) refl is (more y there) same
