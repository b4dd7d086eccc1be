-- The grammar of notes: which bytes spell which notes, by the pieces that stand one after another.
use Rattle.std.specs.Prelude.{◌≡◌, ℕ, ◌+◌, ◌<◌, ◌⊎◌, List, [], ◌∷◌, ◌++◌, length}
use Rattle.memory_image.specs.Words.{number_of}
use Rattle.core_file.specs.Notes.{Note, filled}

-- four bytes spell a number, the lowest byte first
pub record SpellsNumber (bytes : List ℕ) (n : ℕ) : Type 0 where
  pub size : length bytes ≡ 4
  pub number : number_of bytes ≡ n

-- A part and the filling after it have a multiple of four bytes, or fewer where nothing follows.
abbrev pub IsFilled : List ℕ → List ℕ → List ℕ → Type 0
IsFilled part filling rest =
    (length part + length filling ≡ filled (length part)) ⊎ ((length part + length filling < filled (length part)) × (rest ≡ []))

-- Bytes begin with a part and its filling, and these follow.
pub record BeginsWithPart (bytes part rest : List ℕ) : Type 0 where
  pub filling : List ℕ
  pub spelled : bytes ≡ part ++ (filling ++ rest)
  pub is_filled : IsFilled part filling rest

-- Bytes begin with a note, and these follow it.
pub record BeginsWithNote (bytes : List ℕ) (note : Note) (rest : List ℕ) : Type 0 where
  pub name_size : List ℕ
  pub description_size : List ℕ
  pub kind : List ℕ
  pub after_header : List ℕ
  pub after_name : List ℕ
  pub spelled : bytes ≡ name_size ++ (description_size ++ (kind ++ after_header))
  pub has_name_size : SpellsNumber name_size (length note.name)
  pub has_description_size : SpellsNumber description_size (length note.description)
  pub has_kind : SpellsNumber kind note.kind
  pub name : BeginsWithPart after_header note.name after_name
  pub description : BeginsWithPart after_name note.description rest

-- Bytes are these notes, one after another.
abbrev pub AreNotes : List ℕ → List Note → Type 0
AreNotes bytes [] = bytes ≡ []
AreNotes bytes (n ∷ ns) = (rest : List ℕ) × BeginsWithNote bytes n rest × AreNotes rest ns
