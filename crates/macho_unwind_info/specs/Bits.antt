-- The fields of an opcode's 32 bits.
use Rattle.std.specs.Prelude.{ℕ, ◌/◌, ◌%◌, ◌^◌}

-- so many bits of a word, from a place on
abbrev pub bits : ℕ → ℕ → ℕ → ℕ
bits word from count = word / 2 ^ from % 2 ^ count
