-- Sets of bits in a number of 32 bits.
use Rattle.std.specs.Prelude.{◌==◌, ℕ, ℤ, Bool, not, bit_and}
use Rattle.std.specs.Int.{w32, cast_unsigned, IsBitSet}

-- two sets share a bit
abbrev pub ShareBit : ℤ → ℤ → Type 0
ShareBit m n = (k : ℕ) × IsBitSet (cast_unsigned w32 m) k × IsBitSet (cast_unsigned w32 n) k

-- whether they do
abbrev pub shares : ℤ → ℤ → Bool
shares m n = not (bit_and (cast_unsigned w32 m) (cast_unsigned w32 n) == 0)
