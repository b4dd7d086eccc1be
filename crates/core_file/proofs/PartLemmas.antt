-- A part with its filling, as it is read and as it is spelled.
use Rattle.std.proofs.Common.{◌≡◌, ℕ, ◌+◌, ◌-◌, ◌≤◌, Bool, true, false, cond, ltb, inl, inr, List, [], ◌++◌, length, take, drop, Some, None, refl, sym, ap, ◌∙◌, subst, arith, append_assoc}
use Rattle.std.proofs.lemmas.Bool.{le-ltb, ltb-false, cases_lt}
use Rattle.std.proofs.lemmas.List.{take-append-drop, drop-drop, drop_all, take_at, drop_at, length-take-le, length-take, length-drop, length-append}
use Rattle.core_file.specs.Notes.{filled, split_filled}
use Rattle.core_file.specs.NoteGrammar.{BeginsWithPart, IsFilled}

-- a filled size is no less than the size
pub filled-least : (n : ℕ) → n ≤ filled n
filled-least n = omega arith

pub record IsSplit (size : ℕ) (bytes part rest : List ℕ) : Type 0 where
  pub fits : size ≤ length bytes
  pub part_is : part ≡ take size bytes
  pub rest_is : rest ≡ drop (filled size) bytes

pub split_is : (size : ℕ) (bytes : List ℕ) (p : List ℕ × List ℕ) → split_filled size bytes ≡ Some p → IsSplit size bytes p.0 p.1
split_is size bytes p e = go (ltb (length bytes) size) refl e
  where
    go : (short : Bool) → ltb (length bytes) size ≡ short → cond short None (Some (take size bytes, drop (filled size) bytes)) ≡ Some p → IsSplit size bytes p.0 p.1
    go true is e = absurd cc
    go false is e =
        let same : (take size bytes, drop (filled size) bytes) ≡ p = cc in
        subst (λ (q : List ℕ × List ℕ). IsSplit size bytes q.0 q.1) same (record { fits = ltb-false (length bytes) size is; part_is = refl; rest_is = refl })

-- what is read as a part is spelled so
pub split-spelled : (size : ℕ) (bytes part rest : List ℕ) → IsSplit size bytes part rest → BeginsWithPart bytes part rest
split-spelled size bytes part rest s =
    let least = filled-least size in
    let long : length part ≡ size = ap length s.part_is ∙ length-take-le size bytes s.fits in
    let filling : List ℕ = take (filled size - size) (drop size bytes) in
    let whole : size + (filled size - size) ≡ filled size = omega arith in
    let later : drop (filled size - size) (drop size bytes) ≡ rest = drop-drop (filled size - size) size bytes ∙ ap (λ (k : ℕ). drop k bytes) whole ∙ sym s.rest_is in
    let front : filling ++ rest ≡ drop size bytes = ap (λ (t : List ℕ). filling ++ t) (sym later) ∙ take-append-drop (filled size - size) (drop size bytes) in
    let spelled : bytes ≡ part ++ (filling ++ rest) = sym (take-append-drop size bytes) ∙ rw (s.part_is, front) refl in
    record { filling = filling; spelled = spelled; is_filled = is_filled least long }
  where
    is_filled : size ≤ filled size → length part ≡ size → IsFilled part (take (filled size - size) (drop size bytes)) rest
    is_filled least long = elim (cases_lt (length bytes) (filled size)) [
      | inl short ↦
          let none : rest ≡ [] = s.rest_is ∙ drop_all (filled size) bytes (omega arith) in
          let cut : length (take (filled size - size) (drop size bytes)) ≤ length bytes - size = rw (length-take, length-drop) (omega arith) in
          inr (rw long (let f = s.fits in omega arith), none)
      | inr enough ↦
          let fits : filled size - size ≤ length (drop size bytes) = rw length-drop (omega arith) in
          let full : length (take (filled size - size) (drop size bytes)) ≡ filled size - size = length-take-le (filled size - size) (drop size bytes) fits in
          inl (rw (full, long) (omega arith))
    ]

-- what is spelled as a part is read so
pub spelled-split : (bytes part rest : List ℕ) → BeginsWithPart bytes part rest → split_filled (length part) bytes ≡ Some (part, rest)
spelled-split bytes part rest b =
    let long : length bytes ≡ length part + (length b.filling + length rest) = ap length b.spelled ∙ length-append part (b.filling ++ rest) ∙ ap (λ (k : ℕ). length part + k) (length-append b.filling rest) in
    let fits : ltb (length bytes) (length part) ≡ false = le-ltb (length bytes) (length part) (omega arith) in
    let front : take (length part) bytes ≡ part = ap (take (length part)) b.spelled ∙ take_at part (b.filling ++ rest) (length part) refl in
    rw (fits, front, after long b.is_filled) refl
  where
    after : length bytes ≡ length part + (length b.filling + length rest) → IsFilled part b.filling rest → drop (filled (length part)) bytes ≡ rest
    after long (inl full) =
        let joined : length (part ++ b.filling) ≡ filled (length part) = length-append part b.filling ∙ full in
        ap (drop (filled (length part))) (b.spelled ∙ sym (append_assoc part b.filling rest)) ∙ drop_at (part ++ b.filling) rest (filled (length part)) joined
    after long (inr (short, none)) =
        let no : length rest ≡ 0 = ap length none in
        drop_all (filled (length part)) bytes (omega arith) ∙ sym none
