-- Numbers in bytes, the lowest byte first.
use Rattle.std.specs.Prelude.{ℕ, List}
use Rattle.std.specs.Int.{w32, w64, to_le_bytes}

-- the four bytes of a number
unfoldable pub half : ℕ → List ℕ
half n = to_le_bytes w32 n

-- the eight bytes of a word
unfoldable pub word : ℕ → List ℕ
word n = to_le_bytes w64 n
