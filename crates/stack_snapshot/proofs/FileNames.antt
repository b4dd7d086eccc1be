-- The name of a file by a search from the end.
use Rattle.std.proofs.Common.{◌≡◌, ◌+◌, ◌-◌, ◌<◌, ◌≤◌, ◌==◌, ℕ, Bool, true, false, cond, List, [], ◌∷◌, ◌++◌, length, get_or, take, drop, sym, ap, ◌∙◌, length-drop, take-append-drop, take_all, arith}
use Rattle.std.proofs.lemmas.List.{drop_more}
use Rattle.stack_snapshot.specs.Origins.{after_last, file_name}

after_slash : (kept xs ys : List ℕ) → ((k : List ℕ) → after_last k ys ≡ k) → after_last kept (xs ++ 47 ∷ ys) ≡ ys
after_slash kept [] ys none = none ys
after_slash kept (x ∷ xs) ys none = go (x == 47) (λ k. after_slash k xs ys none)
  where
    go : (b : Bool) → ((k : List ℕ) → after_last k (xs ++ 47 ∷ ys) ≡ ys) → cond b (after_last (xs ++ 47 ∷ ys) (xs ++ 47 ∷ ys)) (after_last kept (xs ++ 47 ∷ ys)) ≡ ys
    go true rest = rest (xs ++ 47 ∷ ys)
    go false rest = rest kept

-- what is after a slash that none follows
named_after : (path : List ℕ) (place : ℕ) → place < length path → get_or path place 0 ≡ 47 → ((kept : List ℕ) → after_last kept (drop (place + 1) path) ≡ kept) → drop (place + 1) path ≡ file_name path
named_after path place within slash none =
    let rest = drop (place + 1) path in
    let parts : path ≡ take place path ++ 47 ∷ rest = sym (take-append-drop place path) ∙ ap (λ d. take place path ++ d) (drop_more path place 0 within ∙ ap (λ c. c ∷ rest) slash) in
    sym (ap (after_last path) parts ∙ after_slash path (take place path) rest none)

-- of so many bytes that are looked at from the end
pub named_from : (path : List ℕ) (left : ℕ) → 0 < left → left ≤ length path → get_or path (left - 1) 0 ≡ 47 → ((kept : List ℕ) → after_last kept (drop left path) ≡ kept)
    → take (length path - (left - 1 + 1)) (drop (left - 1 + 1) path) ≡ file_name path
named_from path left some within slash none =
    let one : left ≡ left - 1 + 1 = omega arith in
    let long = length-drop (left - 1 + 1) path in
    take_all (length path - (left - 1 + 1)) (drop (left - 1 + 1) path) (omega arith)
    ∙ named_after path (left - 1) (omega arith) slash (λ kept. ap (λ n. after_last kept (drop n path)) (sym one) ∙ none kept)
