-- Numbers as text.
use Rattle.std.specs.Prelude.{ℕ, zero, suc, ◌/◌, ◌%◌, ◌∷◌, [], ◌==◌, List, ◌++◌, false, codes, if◌then◌else◌}
use Rattle.std.specs.Fmt.{digit_glyph, digits, digits_onto}

-- `0x` and lower case hexadecimal digits, without leading zeros
unfoldable pub hexadecimal : ℕ → List ℕ
hexadecimal n = codes "0x" ++ digits 16 false n

-- the digits of what is left, before those that are written; at most so many
abbrev pub digits_before : ℕ → ℕ → ℕ → List ℕ → List ℕ
digits_before most base rest written = if rest == 0 then written else digits_onto most base false rest written

-- so many digits, from the highest down
abbrev pub digits_of : ℕ → ℕ → List ℕ
digits_of zero n = []
digits_of (suc k) n = digits_of k (n / 16) ++ digit_glyph false (n % 16) ∷ []

-- `0x` and sixteen lower case hexadecimal digits
unfoldable pub word : ℕ → List ℕ
word n = codes "0x" ++ digits_of 16 n
