-- The notes of bytes, one after another.
use Rattle.std.proofs.Common.{◌≡◌, ℕ, zero, suc, ◌+◌, ◌-◌, ◌<◌, ◌≤◌, Bool, true, false, cond, ltb, List, [], ◌∷◌, length, drop, Option, Some, None, refl, ap, ◌∙◌, subst, arith}
use Rattle.std.specs.Option.{option_and_then, option_map}
use Rattle.std.proofs.lemmas.Bool.{ltb-false, le-ltb}
use Rattle.std.proofs.lemmas.List.{length-drop}
use Rattle.memory_image.specs.Words.{u32_at}
use Rattle.core_file.specs.Notes.{Note, split_filled, with_description, after_name, first_note, note_then, notes_from, notes_of, whole_then, whole_from, are_whole_notes}
use Rattle.core_file.proofs.PartLemmas.{IsSplit, split_is}

-- what a note consists of, as it is read
pub record IsFirst (bytes : List ℕ) (note : Note) (rest : List ℕ) : Type 0 where
  pub header : 12 ≤ length bytes
  pub after_name : List ℕ
  pub name : IsSplit (u32_at bytes 0) (drop 12 bytes) note.name after_name
  pub description : IsSplit (u32_at bytes 4) after_name note.description rest
  pub kind : note.kind ≡ u32_at bytes 8

second : (size kind : ℕ) (name : List ℕ) (bytes : List ℕ) (p : Note × List ℕ) → after_name size kind (name, bytes) ≡ Some p → (description : List ℕ) × IsSplit size bytes description p.1 × (record { name = name; description = description; kind = kind } ≡ p.0)
second size kind name bytes p e = go (split_filled size bytes) refl e
  where
    go : (o : Option (List ℕ × List ℕ)) → split_filled size bytes ≡ o → option_map (with_description kind name) o ≡ Some p → (description : List ℕ) × IsSplit size bytes description p.1 × (record { name = name; description = description; kind = kind } ≡ p.0)
    go None is e = absurd cc
    go (Some (description, rest)) is e =
        let same : (record { name = name; description = description; kind = kind }, rest) ≡ p = cc in
        (description, subst (λ (q : Note × List ℕ). IsSplit size bytes description q.1) same (split_is size bytes (description, rest) is), ap (λ (q : Note × List ℕ). q.0) same)

pub first_is : (bytes : List ℕ) (p : Note × List ℕ) → first_note bytes ≡ Some p → IsFirst bytes p.0 p.1
unfolding first_note
first_is bytes p e = go (ltb (length bytes) 12) refl e
  where
    named : 12 ≤ length bytes → (o : Option (List ℕ × List ℕ)) → split_filled (u32_at bytes 0) (drop 12 bytes) ≡ o → option_and_then (after_name (u32_at bytes 4) (u32_at bytes 8)) o ≡ Some p → IsFirst bytes p.0 p.1
    named fits None is e = absurd cc
    named fits (Some (name, rest)) is e =
        let s = second (u32_at bytes 4) (u32_at bytes 8) name rest p e in
        subst (λ (n : Note). IsFirst bytes n p.1) s.2
        (record { header = fits; after_name = rest; name = split_is (u32_at bytes 0) (drop 12 bytes) (name, rest) is; description = s.1; kind = refl })

    go : (short : Bool) → ltb (length bytes) 12 ≡ short → cond short None (option_and_then (after_name (u32_at bytes 4) (u32_at bytes 8)) (split_filled (u32_at bytes 0) (drop 12 bytes))) ≡ Some p → IsFirst bytes p.0 p.1
    go true is e = absurd cc
    go false is e = named (ltb-false (length bytes) 12 is) (split_filled (u32_at bytes 0) (drop 12 bytes)) refl e

-- the note that is made of its parts as they are read
pub first_made : (bytes : List ℕ) (name_size description_size kind : ℕ) (name after description rest : List ℕ) → 12 ≤ length bytes
    → name_size ≡ u32_at bytes 0 → description_size ≡ u32_at bytes 4 → kind ≡ u32_at bytes 8
    → Some (name, after) ≡ split_filled name_size (drop 12 bytes) → Some (description, rest) ≡ split_filled description_size after
    → Some (record { name = name; description = description; kind = kind }, rest) ≡ first_note bytes
unfolding first_note
first_made bytes name_size description_size kind name after description rest fits a b k named described =
    let long : ltb (length bytes) 12 ≡ false = le-ltb (length bytes) 12 fits in
    rw (long, ← a, ← b, ← k, ← named, ← described) refl

split_less : (size : ℕ) (bytes part rest : List ℕ) → IsSplit size bytes part rest → length rest ≤ length bytes
split_less size bytes part rest s = rw (s.rest_is, length-drop) (omega arith)

-- a note has twelve bytes at least
pub fewer_left : (bytes : List ℕ) (p : Note × List ℕ) → first_note bytes ≡ Some p → length p.1 + 12 ≤ length bytes
fewer_left bytes p e =
    let f = first_is bytes p e in
    let named : length f.after_name ≤ length (drop 12 bytes) = split_less (u32_at bytes 0) (drop 12 bytes) p.0.name f.after_name f.name in
    let described : length p.1 ≤ length f.after_name = split_less (u32_at bytes 4) f.after_name p.0.description p.1 f.description in
    let shorter : length (drop 12 bytes) ≡ length bytes - 12 = length-drop 12 bytes in
    let fits = f.header in
    omega arith

-- ---- one note after another

then_same : (n : ℕ) (first : Option (Note × List ℕ)) → ((p : Note × List ℕ) → first ≡ Some p → length p.1 + 12 ≤ n) → (f g : List ℕ → List Note) → ((bytes : List ℕ) → length bytes + 12 ≤ n → f bytes ≡ g bytes) → note_then first f ≡ note_then first g
then_same n None less f g same = refl
then_same n (Some p) less f g same = ap (λ (later : List Note). p.0 ∷ later) (same p.1 (less p refl))

pub none_in_none : first_note [] ≡ None
unfolding first_note
none_in_none = refl

pub none_of_none : notes_of [] ≡ []
unfolding notes_of
none_of_none = refl

-- as many notes as there are bytes are enough
enough : (n m : ℕ) (bytes : List ℕ) → length bytes ≤ n → length bytes ≤ m → notes_from n bytes ≡ notes_from m bytes
enough zero zero bytes p q = refl
enough zero (suc m) [] p q = rw none_in_none refl
enough zero (suc m) (x ∷ rest) p q = absurd (omega arith)
enough (suc n) zero [] p q = rw none_in_none refl
enough (suc n) zero (x ∷ rest) p q = absurd (omega arith)
enough (suc n) (suc m) bytes p q =
    then_same (length bytes) (first_note bytes) (λ first is. fewer_left bytes first is) (notes_from n) (notes_from m)
    (λ later fewer. enough n m later (omega arith) (omega arith))

-- the notes are the first one and those of what is left after it
pub notes_step : (bytes : List ℕ) → notes_of bytes ≡ note_then (first_note bytes) notes_of
unfolding notes_of
notes_step [] = rw none_in_none refl
notes_step (x ∷ rest) =
    then_same (length (x ∷ rest)) (first_note (x ∷ rest)) (λ first is. fewer_left (x ∷ rest) first is) (notes_from (length rest)) notes_of
    (λ later fewer. enough (length rest) (length later) later (omega arith) (omega arith))

pub notes_end : (bytes : List ℕ) → first_note bytes ≡ None → notes_of bytes ≡ []
notes_end bytes e = notes_step bytes ∙ rw e refl

pub notes_give : (bytes rest : List ℕ) (note : Note) → first_note bytes ≡ Some (note, rest) → notes_of bytes ≡ note ∷ notes_of rest
notes_give bytes rest note e = notes_step bytes ∙ rw e refl

-- ---- whether all are whole

whole_same : (n : ℕ) (first : Option (Note × List ℕ)) → ((p : Note × List ℕ) → first ≡ Some p → length p.1 + 12 ≤ n) → (f g : List ℕ → Bool) → ((bytes : List ℕ) → length bytes + 12 ≤ n → f bytes ≡ g bytes) → whole_then first f ≡ whole_then first g
whole_same n None less f g same = refl
whole_same n (Some p) less f g same = same p.1 (less p refl)

whole_enough : (n m : ℕ) (bytes : List ℕ) → length bytes ≤ n → length bytes ≤ m → whole_from n bytes ≡ whole_from m bytes
whole_enough n m [] p q = refl
whole_enough zero m (x ∷ rest) p q = absurd (omega arith)
whole_enough (suc n) zero (x ∷ rest) p q = absurd (omega arith)
whole_enough (suc n) (suc m) (x ∷ rest) p q =
    whole_same (length (x ∷ rest)) (first_note (x ∷ rest)) (λ first is. fewer_left (x ∷ rest) first is) (whole_from n) (whole_from m)
    (λ later fewer. whole_enough n m later (omega arith) (omega arith))

pub whole_none : are_whole_notes [] ≡ true
unfolding are_whole_notes
whole_none = refl

pub whole_empty : (bytes : List ℕ) → length bytes ≡ 0 → are_whole_notes bytes ≡ true
whole_empty [] none = whole_none
whole_empty (x ∷ rest) none = absurd (omega arith)

pub whole_step : (bytes : List ℕ) → 0 < length bytes → are_whole_notes bytes ≡ whole_then (first_note bytes) are_whole_notes
unfolding are_whole_notes
whole_step [] some = absurd (omega arith)
whole_step (x ∷ rest) some =
    whole_same (length (x ∷ rest)) (first_note (x ∷ rest)) (λ first is. fewer_left (x ∷ rest) first is) (whole_from (length rest)) are_whole_notes
    (λ later fewer. whole_enough (length rest) (length later) later (omega arith) (omega arith))

pub whole_end : (bytes : List ℕ) → 0 < length bytes → first_note bytes ≡ None → are_whole_notes bytes ≡ false
whole_end bytes some e = whole_step bytes some ∙ rw e refl

pub whole_next : (bytes rest : List ℕ) (note : Note) → first_note bytes ≡ Some (note, rest) → are_whole_notes bytes ≡ are_whole_notes rest
whole_next bytes rest note e = let less : length rest + 12 ≤ length bytes = fewer_left bytes (note, rest) e in whole_step bytes (omega arith) ∙ rw e refl
