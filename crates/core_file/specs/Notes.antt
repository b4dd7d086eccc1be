-- Notes, one after another in a segment of notes. System V gABI, chapter "Program Loading and Dynamic Linking", part "Note
-- Section". As Linux writes them in its form of 64 bits too, a note has three numbers of four bytes: the size of its name, the
-- size of its description, and its type. The name and the description follow, each filled up to a multiple of four bytes; at
-- the end of the segment the filling may be missing.
use Rattle.std.specs.Prelude.{ℕ, zero, suc, ◌+◌, ◌*◌, ◌/◌, Bool, true, false, List, [], ◌∷◌, length, take, drop, Option, Some, None, nat_lt, if◌then◌else◌}
use Rattle.std.specs.Option.{option_and_then, option_map}
use Rattle.memory_image.specs.Words.{u32_at}

pub record Note : Type 0 where
  pub name : List ℕ
  pub description : List ℕ
  pub kind : ℕ

-- a size filled up to a multiple of four
abbrev pub filled : ℕ → ℕ
filled size = (size + 3) / 4 * 4

-- so many bytes and what stands after their filling, where they are there
abbrev pub split_filled : ℕ → List ℕ → Option (List ℕ × List ℕ)
split_filled size bytes = if nat_lt (length bytes) size then None else Some (take size bytes, drop (filled size) bytes)

abbrev pub with_description : ℕ → List ℕ → List ℕ × List ℕ → Note × List ℕ
with_description kind name p = (record { name = name; description = p.0; kind = kind }, p.1)

abbrev pub after_name : ℕ → ℕ → List ℕ × List ℕ → Option (Note × List ℕ)
after_name size kind p = option_map (with_description kind p.0) (split_filled size p.1)

-- the note that bytes begin with and what stands after it, where it is whole
unfoldable pub first_note : List ℕ → Option (Note × List ℕ)
first_note bytes = if nat_lt (length bytes) 12 then None else option_and_then (after_name (u32_at bytes 4) (u32_at bytes 8)) (split_filled (u32_at bytes 0) (drop 12 bytes))

abbrev pub note_then : Option (Note × List ℕ) → (List ℕ → List Note) → List Note
note_then None later = []
note_then (Some p) later = p.0 ∷ later p.1

-- the notes that bytes begin with, at most so many
abbrev pub notes_from : ℕ → List ℕ → List Note
notes_from zero bytes = []
notes_from (suc most) bytes = note_then (first_note bytes) (notes_from most)

-- the notes that bytes begin with; a note has more than one byte
unfoldable pub notes_of : List ℕ → List Note
notes_of bytes = notes_from (length bytes) bytes

abbrev pub whole_then : Option (Note × List ℕ) → (List ℕ → Bool) → Bool
whole_then None later = false
whole_then (Some p) later = later p.1

abbrev pub whole_from : ℕ → List ℕ → Bool
whole_from most [] = true
whole_from zero (b ∷ bs) = false
whole_from (suc most) (b ∷ bs) = whole_then (first_note (b ∷ bs)) (whole_from most)

-- bytes are whole notes, one after another
unfoldable pub are_whole_notes : List ℕ → Bool
are_whole_notes bytes = whole_from (length bytes) bytes
