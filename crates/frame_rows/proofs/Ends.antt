-- Lists of bytes by the words that stand at their ends.
use Rattle.std.proofs.Common.{◌≡◌, ℕ, zero, suc, ◌+◌, ◌-◌, ◌<◌, ◌≤◌, List, [], ◌∷◌, ◌++◌, length, take, drop, get_or, sym, ap, subst, ◌∙◌, arith}
use Rattle.std.specs.Prelude.{slice_range}
use Rattle.std.proofs.lemmas.List.{get_or-drop, take-append-drop, take_rest}
use Rattle.std.proofs.Math.Seq.{drop-nil}

-- each is a byte
abbrev AreBytes : List ℕ → Type 0
AreBytes xs = (i : ℕ) → get_or xs i 0 < 256

take_bytes : (n : ℕ) (xs : List ℕ) → AreBytes xs → AreBytes (take n xs)
take_bytes zero xs all i = omega arith
take_bytes (suc n) [] all i = omega arith
take_bytes (suc n) (x ∷ xs) all zero = all 0
take_bytes (suc n) (x ∷ xs) all (suc i) = take_bytes n xs (λ j. all (suc j)) i

-- those of a part are bytes
pub part_bytes : (xs : List ℕ) (a b : ℕ) → AreBytes xs → AreBytes (slice_range xs a b)
part_bytes xs a b all = take_bytes (b - a) (drop a xs) (λ i. subst (λ n. n < 256) (sym (get_or-drop a xs i 0)) (all (a + i)))

drop_more : (m n : ℕ) (xs : List ℕ) → drop m (drop n xs) ≡ drop (n + m) xs
drop_more m zero xs = let same : m ≡ 0 + m = omega arith in ap (λ k. drop k xs) same
drop_more m (suc n) [] = drop-nil m ∙ sym (drop-nil (suc n + m))
drop_more m (suc n) (x ∷ xs) = let same : suc (n + m) ≡ suc n + m = omega arith in drop_more m n xs ∙ ap (λ k. drop k (x ∷ xs)) same

-- two lists of at most 16, whose first eight are the same and whose last eight are
pub same_by_ends : (xs ys : List ℕ) → length xs ≡ length ys → 8 ≤ length xs → length xs ≤ 16 → slice_range xs 0 (0 + 8) ≡ slice_range ys 0 (0 + 8) →
    slice_range xs (length xs - 8) (length xs - 8 + 8) ≡ slice_range ys (length xs - 8) (length xs - 8 + 8) → xs ≡ ys
same_by_ends xs ys count some few first last =
    let n : ℕ = length xs - 8 in
    let after : drop n xs ≡ drop n ys = sym (rest xs n (omega arith)) ∙ last ∙ rest ys n (omega arith) in
    let later : drop 8 xs ≡ drop 8 ys = sym (from_after xs n (omega arith)) ∙ ap (drop (8 - n)) after ∙ from_after ys n (omega arith) in
    sym (take-append-drop 8 xs) ∙ ap (λ l. l ++ drop 8 xs) first ∙ ap (λ l. take 8 ys ++ l) later ∙ take-append-drop 8 ys
  where
    rest : (zs : List ℕ) (n : ℕ) → length zs ≡ n + 8 → slice_range zs n (n + 8) ≡ drop n zs
    rest zs n is = let same : n + 8 - n ≡ length zs - n = omega arith in ap (λ k. take k (drop n zs)) same ∙ take_rest zs n

    from_after : (zs : List ℕ) (n : ℕ) → n ≤ 8 → drop (8 - n) (drop n zs) ≡ drop 8 zs
    from_after zs n le = let same : n + (8 - n) ≡ 8 = omega arith in drop_more (8 - n) n zs ∙ ap (λ k. drop k zs) same
