-- What is read as notes is what the grammar says, and nothing else.
use Rattle.std.proofs.Common.{◌≡◌, ℕ, zero, suc, ◌+◌, ◌≤◌, true, false, ltb, List, [], ◌∷◌, ◌++◌, length, take, drop, Option, Some, None, refl, sym, ap, ◌∙◌, subst, arith, append_assoc}
use Rattle.std.proofs.lemmas.Bool.{le-ltb}
use Rattle.std.proofs.lemmas.List.{take-append-drop, drop-drop, take_at, drop_at, length-take-le, length-drop, length-append}
use Rattle.memory_image.specs.Words.{number_of, u32_at}
use Rattle.core_file.specs.Notes.{Note, first_note, notes_of, are_whole_notes}
use Rattle.core_file.specs.NoteGrammar.{SpellsNumber, BeginsWithNote, AreNotes}
use Rattle.core_file.proofs.PartLemmas.{IsSplit, split-spelled, spelled-split}
use Rattle.core_file.proofs.NoteLemmas.{first_is, fewer_left, none_of_none, notes_give, whole_none, whole_end, whole_next}

-- ---- the three numbers

-- the number of four bytes at an offset
number_spelled : (bytes : List ℕ) (k : ℕ) → k + 4 ≤ length bytes → SpellsNumber (take 4 (drop k bytes)) (u32_at bytes k)
unfolding u32_at
number_spelled bytes k fits = record { size = length-take-le 4 (drop k bytes) (rw length-drop (omega arith)); number = refl }

-- three times four bytes and the others
parts_of_four : (bytes : List ℕ) → 12 ≤ length bytes → bytes ≡ take 4 (drop 0 bytes) ++ (take 4 (drop 4 bytes) ++ (take 4 (drop 8 bytes) ++ drop 12 bytes))
parts_of_four bytes fits =
    let third : take 4 (drop 8 bytes) ++ drop 12 bytes ≡ drop 8 bytes = ap (λ (t : List ℕ). take 4 (drop 8 bytes) ++ t) (sym (drop-drop 4 8 bytes)) ∙ take-append-drop 4 (drop 8 bytes) in
    let second : take 4 (drop 4 bytes) ++ drop 8 bytes ≡ drop 4 bytes = ap (λ (t : List ℕ). take 4 (drop 4 bytes) ++ t) (sym (drop-drop 4 4 bytes)) ∙ take-append-drop 4 (drop 4 bytes) in
    sym (take-append-drop 4 bytes) ∙ ap (λ (t : List ℕ). take 4 bytes ++ t) (sym second ∙ ap (λ (t : List ℕ). take 4 (drop 4 bytes) ++ t) (sym third))

-- ---- one note

pub first-spelled : (bytes rest : List ℕ) (note : Note) → first_note bytes ≡ Some (note, rest) → BeginsWithNote bytes note rest
first-spelled bytes rest note e =
    let f = first_is bytes (note, rest) e in
    let fits = f.header in
    record {
      name_size = take 4 (drop 0 bytes);
      description_size = take 4 (drop 4 bytes);
      kind = take 4 (drop 8 bytes);
      after_header = drop 12 bytes;
      after_name = f.after_name;
      spelled = parts_of_four bytes fits;
      has_name_size = subst (SpellsNumber (take 4 (drop 0 bytes))) (sym (size_of _ _ _ _ f.name)) (number_spelled bytes 0 (omega arith));
      has_description_size = subst (SpellsNumber (take 4 (drop 4 bytes))) (sym (size_of _ _ _ _ f.description)) (number_spelled bytes 4 (omega arith));
      has_kind = subst (SpellsNumber (take 4 (drop 8 bytes))) (sym f.kind) (number_spelled bytes 8 (omega arith));
      name = split-spelled (u32_at bytes 0) (drop 12 bytes) note.name f.after_name f.name;
      description = split-spelled (u32_at bytes 4) f.after_name note.description rest f.description;
    }
  where
    size_of : (size : ℕ) (bytes part rest : List ℕ) → IsSplit size bytes part rest → length part ≡ size
    size_of size bytes part rest s = ap length s.part_is ∙ length-take-le size bytes s.fits

-- numbers at the front, after four bytes and after eight
number_first : (a rest : List ℕ) (n : ℕ) → SpellsNumber a n → u32_at (a ++ rest) 0 ≡ n
unfolding u32_at
number_first a rest n s = ap number_of (take_at a rest 4 s.size) ∙ s.number

number_second : (a b rest : List ℕ) (m n : ℕ) → SpellsNumber a m → SpellsNumber b n → u32_at (a ++ (b ++ rest)) 4 ≡ n
unfolding u32_at
number_second a b rest m n s t = ap (λ (x : List ℕ). number_of (take 4 x)) (drop_at a (b ++ rest) 4 s.size) ∙ ap number_of (take_at b rest 4 t.size) ∙ t.number

eight : (a b : List ℕ) (m n : ℕ) → SpellsNumber a m → SpellsNumber b n → length (a ++ b) ≡ 8
eight a b m n s t = length-append a b ∙ (let p = s.size in let q = t.size in omega arith)

number_third : (a b c rest : List ℕ) (m n k : ℕ) → SpellsNumber a m → SpellsNumber b n → SpellsNumber c k → u32_at (a ++ (b ++ (c ++ rest))) 8 ≡ k
unfolding u32_at
number_third a b c rest m n k s t u =
    ap (λ (x : List ℕ). number_of (take 4 (drop 8 x))) (sym (append_assoc a b (c ++ rest)))
    ∙ ap (λ (x : List ℕ). number_of (take 4 x)) (drop_at (a ++ b) (c ++ rest) 8 (eight a b m n s t))
    ∙ ap number_of (take_at c rest 4 u.size) ∙ u.number

after_twelve : (a b c rest : List ℕ) (m n k : ℕ) → SpellsNumber a m → SpellsNumber b n → SpellsNumber c k → drop 12 (a ++ (b ++ (c ++ rest))) ≡ rest
after_twelve a b c rest m n k s t u =
    let long : length (a ++ b ++ c) ≡ 12 = length-append (a ++ b) c ∙ (let p = eight a b m n s t in let q = u.size in omega arith) in
    ap (drop 12) (sym (append_assoc a b (c ++ rest)) ∙ sym (append_assoc (a ++ b) c rest)) ∙ drop_at (a ++ b ++ c) rest 12 long

twelve_fit : (a b c rest : List ℕ) (m n k : ℕ) → SpellsNumber a m → SpellsNumber b n → SpellsNumber c k → ltb (length (a ++ (b ++ (c ++ rest)))) 12 ≡ false
twelve_fit a b c rest m n k s t u =
    let long : length (a ++ (b ++ (c ++ rest))) ≡ length a + (length b + (length c + length rest)) =
    length-append a (b ++ (c ++ rest)) ∙ ap (λ (x : ℕ). length a + x) (length-append b (c ++ rest) ∙ ap (λ (x : ℕ). length b + x) (length-append c rest)) in
    let p = s.size in let q = t.size in let r = u.size in
    le-ltb _ 12 (omega arith)

pub spelled-first : (bytes rest : List ℕ) (note : Note) → BeginsWithNote bytes note rest → first_note bytes ≡ Some (note, rest)
unfolding first_note
spelled-first bytes rest note b =
    let a = b.name_size in let d = b.description_size in let k = b.kind in let t = b.after_header in
    let sizes = b.has_name_size in let sized = b.has_description_size in let kinds = b.has_kind in
    rw b.spelled
    (rw (twelve_fit a d k t _ _ _ sizes sized kinds, number_first a (d ++ (k ++ t)) _ sizes, number_second a d (k ++ t) _ _ sizes sized, number_third a d k t _ _ _ sizes sized kinds, after_twelve a d k t _ _ _ sizes sized kinds, spelled-split t note.name b.after_name b.name, spelled-split b.after_name note.description rest b.description) refl)

-- ---- notes, one after another

pub whole-spelled : (n : ℕ) (bytes : List ℕ) → length bytes ≤ n → are_whole_notes bytes ≡ true → AreNotes bytes (notes_of bytes)
whole-spelled n [] less whole = subst (AreNotes []) (sym none_of_none) refl
whole-spelled zero (x ∷ bytes) less whole = absurd (omega arith)
whole-spelled (suc n) (x ∷ bytes) less whole = go (λ rest short later. whole-spelled n rest short later) (first_note (x ∷ bytes)) refl
  where
    go : ((rest : List ℕ) → length rest ≤ n → are_whole_notes rest ≡ true → AreNotes rest (notes_of rest)) → (o : Option (Note × List ℕ)) → first_note (x ∷ bytes) ≡ o → AreNotes (x ∷ bytes) (notes_of (x ∷ bytes))
    go others None is = let no = whole_end (x ∷ bytes) (omega arith) is in absurd cc
    go others (Some (note, rest)) is =
        let fewer : length rest + 12 ≤ length (x ∷ bytes) = fewer_left (x ∷ bytes) (note, rest) is in
        let later : AreNotes rest (notes_of rest) = others rest (omega arith) (sym (whole_next (x ∷ bytes) rest note is) ∙ whole) in
        subst (AreNotes (x ∷ bytes)) (sym (notes_give (x ∷ bytes) rest note is)) (rest, first-spelled (x ∷ bytes) rest note is, later)

pub record AreRead (bytes : List ℕ) (ns : List Note) : Type 0 where
  pub whole : are_whole_notes bytes ≡ true
  pub notes : notes_of bytes ≡ ns

pub spelled-whole : (ns : List Note) (bytes : List ℕ) → AreNotes bytes ns → AreRead bytes ns
spelled-whole [] bytes none = record { whole = rw none whole_none; notes = rw none none_of_none }
spelled-whole (n ∷ ns) bytes (rest, first, later) =
    let is : first_note bytes ≡ Some (n, rest) = spelled-first bytes rest n first in
    let r = spelled-whole ns rest later in
    record { whole = whole_next bytes rest n is ∙ r.whole; notes = notes_give bytes rest n is ∙ ap (λ (xs : List Note). n ∷ xs) r.notes }
