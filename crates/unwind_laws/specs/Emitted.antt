-- A frame table as compilers emit one: a common information entry, a description that names it, and the list's end. The
-- description's start, as a distance from its place, its length, and its program are any bytes.
use Rattle.std.specs.Prelude.{ℕ, ◌+◌, ◌-◌, ◌%◌, ◌^◌, false, List, [], ◌∷◌, ◌++◌, Some, None}
use Rattle.std.specs.Int.{w32, from_le_bytes}
use Rattle.unwind_definitions.specs.Input.{Input, signed_word}
use Rattle.unwind_definitions.specs.Entries.{Cie, Fde}
use Rattle.unwind_definitions.specs.PointerEncodings.{pcrel_sdata4}

-- four bytes
pub record Four : Type 0 where
  pub first : ℕ
  pub second : ℕ
  pub third : ℕ
  pub fourth : ℕ

abbrev pub four : Four → List ℕ → List ℕ
four b rest = b.first ∷ b.second ∷ b.third ∷ b.fourth ∷ rest

-- the signed number that they spell, as a word
abbrev pub signed_of : Four → ℕ
signed_of b = signed_word 32 (from_le_bytes w32 (four b []))

-- The length 20, 0 for a CIE, version 1, zR, the alignments 1 and -8, the column 16, one byte of augmentation: starts are
-- relative to their place. Then the entry rules and two nops.
abbrev pub cie_bytes : List ℕ
cie_bytes = 0x14 ∷ 0 ∷ 0 ∷ 0 ∷ 0 ∷ 0 ∷ 0 ∷ 0 ∷ 1 ∷ 0x7a ∷ 0x52 ∷ 0 ∷ 1 ∷ 0x78 ∷ 16 ∷ 1 ∷ 0x1b ∷ 0x0c ∷ 7 ∷ 8 ∷ 0x90 ∷ 1 ∷ 0 ∷ 0 ∷ []

-- The length 20, the distance 28 back to the CIE, start, length, no augmentation bytes, and a program of seven bytes.
abbrev pub fde_bytes : Four → Four → Four → Four → List ℕ
fde_bytes start size front back = 0x14 ∷ 0 ∷ 0 ∷ 0 ∷ 0x1c ∷ 0 ∷ 0 ∷ 0 ∷ four start (four size (0 ∷ front.first ∷ front.second ∷ front.third ∷ four back []))

-- the table at an address
abbrev pub table : ℕ → Four → Four → Four → Four → Input
table base start size front back = record { base = base; offset = 0; bytes = cie_bytes ++ fde_bytes start size front back ++ 0 ∷ 0 ∷ 0 ∷ 0 ∷ [] }

abbrev pub cie : ℕ → Cie
cie base = record {
  offset = 0;
  version = 1;
  code_factor = 1;
  data_factor = 2 ^ 64 - 8;
  return_column = 16;
  augmentation = 0x7a ∷ 0x52 ∷ [];
  letters = record { language = None; personality = None; address = Some pcrel_sdata4; signal = false };
  program = record { base = base; offset = 17; bytes = 0x0c ∷ 7 ∷ 8 ∷ 0x90 ∷ 1 ∷ 0 ∷ 0 ∷ [] };
}

-- the start: the distance is counted from the place of its first byte
abbrev pub start_of : ℕ → Four → ℕ
start_of base start = ((base + 32) % 2 ^ 64 + signed_of start) % 2 ^ 64

abbrev pub fde : ℕ → Four → Four → Four → Four → Fde
fde base start size front back = record {
  offset = 24;
  cie = cie base;
  start = start_of base start;
  size = signed_of size;
  language = None;
  program = record { base = base; offset = 41; bytes = front.first ∷ front.second ∷ front.third ∷ four back [] };
}
