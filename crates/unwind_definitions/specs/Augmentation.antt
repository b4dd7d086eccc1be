-- Which versions and augmentations a common information entry may have. Every other one is a fault.
use Rattle.std.specs.Prelude.{ℕ, Bool, true, ◌&&◌, ◌==◌, List, [], ◌∷◌}
use Rattle.std.specs.List.{list_all}
use Rattle.unwind_definitions.specs.Membership.{is_among}

-- the version of entries in .eh_frame, and those of DWARF 3 and of DWARF 4 and 5
abbrev pub is_version : ℕ → Bool
is_version v = is_among (1 ∷ 3 ∷ 4 ∷ []) v

-- what an augmentation with letters begins with, a z: their data has a length
abbrev pub length_letter : ℕ
length_letter = 0x7a

-- the letters after it: the encoding of language table pointers, a personality, the encoding of addresses, and a
-- signal's frame
abbrev pub language_letter : ℕ
language_letter = 0x4c

abbrev pub personality_letter : ℕ
personality_letter = 0x50

abbrev pub address_letter : ℕ
address_letter = 0x52

abbrev pub signal_letter : ℕ
signal_letter = 0x53

abbrev pub is_letter : ℕ → Bool
is_letter l = is_among (language_letter ∷ personality_letter ∷ address_letter ∷ signal_letter ∷ []) l

-- the letters that stand after a z
abbrev pub letters_in : List ℕ → List ℕ
letters_in [] = []
letters_in (z ∷ letters) = letters

-- an augmentation has a letter
abbrev pub has_letter : ℕ → List ℕ → Bool
has_letter letter text = is_among (letters_in text) letter

-- none, or a z and letters after it
abbrev pub is_augmentation : List ℕ → Bool
is_augmentation [] = true
is_augmentation (z ∷ letters) = (z == length_letter) && list_all is_letter letters
