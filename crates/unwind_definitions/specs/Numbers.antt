-- What bytes spell a number of variable length, digit by digit: DWARF 5 section 7.6 (LEB128). And relative pointers.
use Rattle.std.specs.Prelude.{◌≡◌, ◌⊎◌, ℕ, ◌+◌, ◌-◌, ◌*◌, ◌%◌, ◌^◌, ◌<◌, ◌≤◌, Bool, false, List, [], ◌∷◌, length, get_or, nat_le, if◌then◌else◌}
use Rattle.std.specs.Int.{w32, from_le_bytes}
use Rattle.unwind_definitions.specs.Input.{signed_word}

-- the sum of the low seven bits of each byte times a power of 128, the lowest first
abbrev pub digits : List ℕ → ℕ
digits [] = 0
digits (b ∷ bs) = b % 128 + 128 * digits bs

-- the high bit is set in all bytes but the last
abbrev pub EndsOnce : List ℕ → Type 0
EndsOnce [] = ⊥
EndsOnce (b ∷ []) = b < 128
EndsOnce (b ∷ c ∷ bs) = (128 ≤ b) × (b < 256) × EndsOnce (c ∷ bs)

-- bytes spell an unsigned number below 2^64: the tenth, if there is one, is 0 or 1
pub record SpellsUnsigned (bytes : List ℕ) (n : ℕ) : Type 0 where
  pub ends : EndsOnce bytes
  pub size : length bytes ≤ 10
  pub tenth : get_or bytes 9 0 ≤ 1
  pub number : n ≡ digits bytes

-- bit 6 of the last byte
abbrev pub has_sign : List ℕ → Bool
has_sign [] = false
has_sign (b ∷ []) = nat_le 64 b
has_sign (b ∷ c ∷ bs) = has_sign (c ∷ bs)

-- all seven bits are the sign
abbrev pub IsSignOnly : ℕ → Type 0
IsSignOnly b = (b ≡ 0) ⊎ (b ≡ 127)

-- Bytes spell a signed number, as a word: the tenth, if there is one, is 0 or 7f. A negative number is what its digits lack to a power of 128.
pub record SpellsSigned (bytes : List ℕ) (n : ℕ) : Type 0 where
  pub ends : EndsOnce bytes
  pub size : length bytes ≤ 10
  pub tenth : IsSignOnly (get_or bytes 9 0)
  pub number : n ≡ (if has_sign bytes then 2 ^ 64 - (128 ^ length bytes - digits bytes) else digits bytes)

-- four bytes at an address spell the pointer to another: the address plus their signed number, as words
pub record SpellsRelative (bytes : List ℕ) (at to : ℕ) : Type 0 where
  pub size : length bytes ≡ 4
  pub number : to ≡ (at + signed_word 32 (from_le_bytes w32 bytes)) % 2 ^ 64
