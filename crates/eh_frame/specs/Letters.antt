-- What the code's letters say, in the words of the definitions.
use Rattle.std.specs.Prelude.{◌≡◌, ℕ, List, is_some}
use Rattle.std.specs.Option.{option_map}
use Rattle.unwind_definitions.specs.Entries.{Letters}
use Rattle.unwind_definitions.specs.Augmentation.{language_letter, personality_letter, address_letter, signal_letter}
use Rattle.unwind_definitions.specs.Membership.{is_among}
use Rattle.unwind_definitions.specs.Pointers.{Pointer}
use Rattle.encoded_pointers.specs.PointerViews.{pointer_of}
use Rattle.encoded_pointers.specs.declared.encoding.DwEhPe.{DwEhPe}
use Rattle.eh_frame.specs.declared.augmentation.Letters.{Letters as CodeLetters}
use Rattle.eh_frame.specs.declared.augmentation.Personality.{Personality}

abbrev pub byte_of : DwEhPe → ℕ
byte_of e = e.0

abbrev pub personality_of : Personality → ℕ × Pointer
personality_of p = (p.encoding.0, pointer_of p.pointer)

abbrev pub letters_of : CodeLetters → Letters
letters_of l = record {
  language = option_map byte_of l.language;
  personality = option_map personality_of l.personality;
  address = option_map byte_of l.address;
  signal = l.is_signal;
}

-- each of these is said exactly where its letter is there
pub record Tells (letters : List ℕ) (found : Letters) : Type 0 where
  pub language : is_some found.language ≡ is_among letters language_letter
  pub personality : is_some found.personality ≡ is_among letters personality_letter
  pub address : is_some found.address ≡ is_among letters address_letter
  pub signal : found.signal ≡ is_among letters signal_letter
