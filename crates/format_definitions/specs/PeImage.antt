-- A PE module of a stopped process: its memory by relative virtual addresses, and its function table.
use Rattle.std.specs.Prelude.{ℕ, ◌+◌, ◌%◌, ◌^◌, List, [], ◌∷◌, length, take, Option, Some, None, nat_le, if◌then◌else◌}
use Rattle.memory_image.specs.Image.{Span, table_at}
use Rattle.pe_unwind_info.specs.FrameOf.{Image}

-- where it lies, and where its function table stands, relative to its base
pub record PeModule : Type 0 where
  pub base : ℕ
  pub size : ℕ
  pub table_rva : ℕ
  pub table_size : ℕ

abbrev pub bytes_or_none : List ℕ → Option (List ℕ)
bytes_or_none [] = None
bytes_or_none (b ∷ bytes) = Some (b ∷ bytes)

-- the bytes from a relative virtual address to the end of its region, None where it isn't mapped
abbrev pub memory_of : List Span → ℕ → Image
memory_of image base = λ rva. bytes_or_none (table_at image ((base + rva) % 2 ^ 64))

abbrev pub first_bytes : ℕ → List ℕ → Option (List ℕ)
first_bytes n bytes = if nat_le n (length bytes) then Some (take n bytes) else None

-- the bytes of the function table, where one region has them all
abbrev pub table_of : List Span → PeModule → Option (List ℕ)
table_of image m = first_bytes m.table_size (table_at image ((m.base + m.table_rva) % 2 ^ 64))
