-- Little-endian numbers that lie at any address.
use Rattle.std.specs.Prelude.{◌≡◌, ℕ, List, length, take, drop}
use Rattle.std.specs.Int.{w16, w32, from_le_bytes, to_le_bytes}
use Rattle.std.proofs.Common.{ap}
use Rattle.memory_image.specs.Words.{AreBytes}
use Rattle.macho_unwind_info.specs.declared.raw.unaligned.U32.{U32}
use Rattle.macho_unwind_info.specs.declared.raw.unaligned.U16.{U16}

-- the number that four bytes spell
abbrev pub u32_number : U32 → ℕ
u32_number word = from_le_bytes w32 word.0

-- the four bytes that spell a number
abbrev pub u32_of_number : ℕ → U32
u32_of_number n = record { 0 = to_le_bytes w32 n }

-- four bytes as they lie
abbrev pub u32_in : List ℕ → U32
u32_in bytes = record { 0 = bytes }

pub u32_keeps_all : (xs ys : List ℕ) → length xs ≡ 4 → length ys ≡ 4 → AreBytes xs → AreBytes ys → u32_in xs ≡ u32_in ys → xs ≡ ys
u32_keeps_all xs ys m n b c e = ap (λ (word : U32). word.0) e

-- the number that two bytes spell
abbrev pub u16_number : U16 → ℕ
u16_number word = from_le_bytes w16 word.0

-- the two bytes that spell a number
abbrev pub u16_of_number : ℕ → U16
u16_of_number n = record { 0 = to_le_bytes w16 n }

-- two bytes as they lie
abbrev pub u16_in : List ℕ → U16
u16_in bytes = record { 0 = bytes }

pub u16_keeps_all : (xs ys : List ℕ) → length xs ≡ 2 → length ys ≡ 2 → AreBytes xs → AreBytes ys → u16_in xs ≡ u16_in ys → xs ≡ ys
u16_keeps_all xs ys m n b c e = ap (λ (word : U16). word.0) e

-- the four bytes at an offset
abbrev pub u32_at : ℕ → List ℕ → U32
u32_at offset bytes = u32_in (take 4 (drop offset bytes))

-- the two bytes at an offset
abbrev pub u16_at : ℕ → List ℕ → U16
u16_at offset bytes = u16_in (take 2 (drop offset bytes))
