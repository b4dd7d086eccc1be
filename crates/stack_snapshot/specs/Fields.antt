-- Members of a JSON value that are words, bytes, numbers or truth values.
use Rattle.std.specs.Prelude.{ℕ, Bool, false, List, Option, Some, None, option_and_then}
use Rattle.serde_json.specs.Data.{Data}
use Rattle.serde_json.specs.Find.{get, as_str, as_number, as_u64, as_bool}
use Rattle.stack_snapshot.specs.Words.{word_of, bytes_of}

abbrev pub as_word : Data → Option ℕ
as_word d = option_and_then word_of (as_str d)

-- the word at a key
abbrev pub word_at : List ℕ → Data → Option ℕ
word_at key d = option_and_then as_word (get key d)

-- a word, or the number where there is none
abbrev pub word_or : ℕ → Option Data → Option ℕ
word_or n None = Some n
word_or n (Some d) = as_word d

-- the word at a key, 0 where the key is missing
abbrev pub word_or_zero_at : List ℕ → Data → Option ℕ
word_or_zero_at key d = word_or 0 (get key d)

abbrev pub bytes_at : List ℕ → Data → Option (List ℕ)
bytes_at key d = option_and_then bytes_of (option_and_then as_str (get key d))

abbrev pub number_at : List ℕ → Data → Option ℕ
number_at key d = option_and_then as_u64 (option_and_then as_number (get key d))

abbrev pub flag_or_false : Option Data → Option Bool
flag_or_false None = Some false
flag_or_false (Some d) = as_bool d
