-- Attributes, one after another.
use Rattle.std.proofs.Common.{◌≡◌, ℕ, zero, suc, ◌-◌, ◌<◌, ◌≤◌, Bool, true, false, cond, leb, List, [], ◌∷◌, length, take, drop, refl, sym, ◌∙◌, arith}
use Rattle.std.proofs.lemmas.Bool.{leb-true, le-leb, lt-leb}
use Rattle.std.proofs.lemmas.List.{length-drop}
use Rattle.perf_data.specs.declared.layout.Layout.{Layout}
use Rattle.perf_data.specs.Layouts.{layout_of, is_same_layout, share_from, share_layout}

-- one attribute and those after it
abbrev step : Layout → ℕ → List ℕ → (List ℕ → Bool) → Bool
step layout size xs later = cond (leb size (length xs)) (cond (is_same_layout (layout_of (take size xs)) layout) (later (drop size xs)) false) true

same_step : (layout : Layout) (size : ℕ) (xs : List ℕ) (f g : List ℕ → Bool) → 0 < size → ((ys : List ℕ) → length ys < length xs → f ys ≡ g ys) → step layout size xs f ≡ step layout size xs g
same_step layout size xs f g some same = go (leb size (length xs)) refl
  where
    go : (there : Bool) → leb size (length xs) ≡ there → cond there (cond (is_same_layout (layout_of (take size xs)) layout) (f (drop size xs)) false) true ≡ cond there (cond (is_same_layout (layout_of (take size xs)) layout) (g (drop size xs)) false) true
    go false is = refl
    go true is =
        let fits : size ≤ length xs = leb-true size (length xs) is in
        let less : length (drop size xs) ≡ length xs - size = length-drop size xs in
        let later : f (drop size xs) ≡ g (drop size xs) = same (drop size xs) (omega arith) in
        rw later refl

none_there : (n : ℕ) (layout : Layout) (size : ℕ) (xs : List ℕ) → length xs < size → share_from n layout size xs ≡ true
none_there zero layout size xs h = refl
none_there (suc n) layout size xs h = let no : leb size (length xs) ≡ false = lt-leb size (length xs) h in rw no refl

-- as many attributes as there are bytes are enough
enough : (n m : ℕ) (layout : Layout) (size : ℕ) (xs : List ℕ) → 0 < size → length xs ≤ n → length xs ≤ m → share_from n layout size xs ≡ share_from m layout size xs
enough zero m layout size xs some p q = sym (none_there m layout size xs (omega arith))
enough (suc n) zero layout size xs some p q = none_there (suc n) layout size xs (omega arith)
enough (suc n) (suc m) layout size xs some p q =
    same_step layout size xs (share_from n layout size) (share_from m layout size) some
    (λ ys less. enough n m layout size ys some (omega arith) (omega arith))

share_step : (layout : Layout) (size : ℕ) (xs : List ℕ) → 0 < size → size ≤ length xs → share_layout layout size xs ≡ step layout size xs (share_layout layout size)
unfolding share_layout
share_step layout size [] some fits = absurd (omega arith)
share_step layout size (x ∷ rest) some fits =
    same_step layout size (x ∷ rest) (share_from (length rest) layout size) (share_layout layout size) some
    (λ ys less. enough (length rest) (length ys) layout size ys some (omega arith) (omega arith))

pub share_end : (layout : Layout) (size : ℕ) (xs : List ℕ) → length xs < size → share_layout layout size xs ≡ true
unfolding share_layout
share_end layout size xs h = none_there (length xs) layout size xs h

pub share_next : (layout : Layout) (size : ℕ) (xs : List ℕ) → 0 < size → size ≤ length xs → is_same_layout (layout_of (take size xs)) layout ≡ true → share_layout layout size xs ≡ share_layout layout size (drop size xs)
share_next layout size xs some fits same = let there : leb size (length xs) ≡ true = le-leb size (length xs) fits in share_step layout size xs some fits ∙ rw (there, same) refl

pub share_other : (layout : Layout) (size : ℕ) (xs : List ℕ) → 0 < size → size ≤ length xs → is_same_layout (layout_of (take size xs)) layout ≡ false → share_layout layout size xs ≡ false
share_other layout size xs some fits other = let there : leb size (length xs) ≡ true = le-leb size (length xs) fits in share_step layout size xs some fits ∙ rw (there, other) refl
