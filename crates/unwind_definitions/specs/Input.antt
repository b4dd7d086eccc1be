-- Reading a table's bytes from left to right: a reader answers a value and what is left, or the first fault.
-- DWARF 5 section 7 for the numbers, 7.6 for LEB128.
use Rattle.std.specs.Prelude.{ℕ, zero, suc, ◌+◌, ◌-◌, ◌*◌, ◌%◌, ◌^◌, List, length, take, drop, position, Option, Some, None, Result, Ok, Err, nat_lt, nat_le, ◌==◌, if◌then◌else◌}
use Rattle.std.specs.Int.{Width, w8, byte_len, from_le_bytes}
use Rattle.unwind_definitions.specs.Faults.{Fault, UnexpectedEof, BadUnsignedLeb128, BadSignedLeb128, ◌>>=◌}

-- bytes of a table, the address of the table's first byte, and how many of its bytes stand before these
pub record Input : Type 0 where
  pub base : ℕ
  pub offset : ℕ
  pub bytes : List ℕ

-- the address of the first byte
abbrev pub address_of : Input → ℕ
address_of c = (c.base + c.offset) % 2 ^ 64

abbrev pub Reads : Type 0 → Type 0
Reads A = Input → Result (A × Input) Fault

abbrev pub skip : ℕ → Input → Input
skip n c = record { base = c.base; offset = c.offset + n; bytes = drop n c.bytes }

-- the part of n bytes, which must be there, and what follows
abbrev pub split : ℕ → Reads Input
split n c = if nat_lt (length c.bytes) n then Err UnexpectedEof else Ok (record { base = c.base; offset = c.offset; bytes = take n c.bytes }, skip n c)

-- a little-endian number
abbrev pub number : Width → Reads ℕ
number w c = if nat_lt (length c.bytes) (byte_len w) then Err UnexpectedEof else Ok (from_le_bytes w (take (byte_len w) c.bytes), skip (byte_len w) c)

-- signed numbers are words: those below 0 count from 2 ^ 64
abbrev pub signed_word : ℕ → ℕ → ℕ
signed_word bits n = if nat_lt n (2 ^ (bits - 1)) then n else (2 ^ 64 - 2 ^ bits) + n

-- An unsigned LEB128 number of which at most `left` bytes may come. Each gives seven bits, the lowest first; the last is below 128. The tenth is 0 or 1.
abbrev pub uleb_from : ℕ → Reads ℕ
uleb_from zero c = Err BadUnsignedLeb128
uleb_from (suc zero) c = do
  b ← number w8 c
  if nat_le b.0 1 then Ok b else Err BadUnsignedLeb128
uleb_from (suc (suc left)) c = do
  b ← number w8 c
  if nat_lt b.0 128 then Ok b else (uleb_from (suc left) b.1 >>= λ high. Ok (b.0 - 128 + 128 * high.0, high.1))

abbrev pub uleb : Reads ℕ
uleb c = uleb_from 10 c

-- The same of a signed one, as a word: bit 6 of the last byte is its sign. The tenth is 0 or 7f.
abbrev pub sleb_from : ℕ → Reads ℕ
sleb_from zero c = Err BadSignedLeb128
sleb_from (suc zero) c = do
  b ← number w8 c
  if b.0 == 0 then Ok b else (if b.0 == 127 then Ok (2 ^ 64 - 1, b.1) else Err BadSignedLeb128)
sleb_from (suc (suc left)) c = do
  b ← number w8 c
  if nat_lt b.0 128 then Ok (signed_word 7 b.0, b.1) else (sleb_from (suc left) b.1 >>= λ high. Ok ((b.0 - 128 + 128 * high.0) % 2 ^ 64, high.1))

abbrev pub sleb : Reads ℕ
sleb c = sleb_from 10 c

-- the bytes before a zero byte at an index, which is passed
abbrev pub text_before : Option ℕ → Reads (List ℕ)
text_before None c = Err UnexpectedEof
text_before (Some n) c = Ok (take n c.bytes, skip (n + 1) c)

-- the bytes before the next zero byte
abbrev pub text : Reads (List ℕ)
text c = text_before (position (λ b. b == 0) c.bytes) c
