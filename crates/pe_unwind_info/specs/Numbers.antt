-- Little-endian numbers in bytes.
use Rattle.std.specs.Prelude.{ℕ, ◌+◌, ◌*◌, ◌^◌, List, Option, Some, None, length, drop, nat_lt, if◌then◌else◌, slice_index}

-- the number of two bytes from an offset on
abbrev pub u16_at : ℕ → List ℕ → ℕ
u16_at k bytes = slice_index bytes k + 2 ^ 8 * slice_index bytes (k + 1)

-- the number of four bytes from an offset on
abbrev pub u32_at : ℕ → List ℕ → ℕ
u32_at k bytes = slice_index bytes k + 2 ^ 8 * slice_index bytes (k + 1) + 2 ^ 16 * slice_index bytes (k + 2) + 2 ^ 24 * slice_index bytes (k + 3)

-- the number of the first two bytes with the bytes after them, where they are there
abbrev pub first_u16 : List ℕ → Option (ℕ × List ℕ)
first_u16 bytes = if nat_lt (length bytes) 2 then None else Some (u16_at 0 bytes, drop 2 bytes)

-- the same of the first four bytes
abbrev pub first_u32 : List ℕ → Option (ℕ × List ℕ)
first_u32 bytes = if nat_lt (length bytes) 4 then None else Some (u32_at 0 bytes, drop 4 bytes)

-- the same with the number taken for one of units
abbrev pub number_in_units : ℕ → Option (ℕ × List ℕ) → Option (ℕ × List ℕ)
number_in_units unit None = None
number_in_units unit (Some (n, rest)) = Some (n * unit, rest)
