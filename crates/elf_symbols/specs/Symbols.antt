-- Symbols, which of them are functions, and which is that of an address. System V gABI, chapters "Symbol Table" and "String Table".
use Rattle.std.specs.Prelude.{ℕ, ◌+◌, ◌/◌, ◌%◌, ◌==◌, ◌&&◌, ◌||◌, Bool, not, List, [], ◌∷◌, length, take, drop, position, Option, Some, None, nat_le, nat_lt, slice_index, if◌then◌else◌}
use Rattle.std.specs.Option.{option_map}
use Rattle.memory_image.specs.Records.{records_in}
use Rattle.memory_image.specs.Words.{u16_at, u32_at, u64_at}
use Rattle.elf_symbols.specs.declared.symbol.Symbol.{Symbol}

-- a symbol of 24 bytes
abbrev pub symbol_of : List ℕ → Symbol
symbol_of bytes = record {
  st_name = u32_at bytes 0;
  st_info = slice_index bytes 4;
  st_other = slice_index bytes 5;
  st_shndx = u16_at bytes 6;
  st_value = u64_at bytes 8;
  st_size = u64_at bytes 16;
}

-- as many as the bytes spell whole
abbrev pub symbols_in : List ℕ → List Symbol
symbols_in bytes = records_in 24 symbol_of bytes (length bytes / 24)

-- the type and the binding, in st_info
abbrev pub type_of : Symbol → ℕ
type_of s = s.st_info % 16

abbrev pub binding_of : Symbol → ℕ
binding_of s = s.st_info / 16

-- STT_FUNC or STT_GNU_IFUNC, not SHN_UNDEF, and with a name
abbrev pub is_function : Symbol → Bool
is_function s = (type_of s == 2 || type_of s == 10) && not (s.st_shndx == 0) && not (s.st_name == 0)

-- an address of a function, from its first on, before the one after its last
abbrev pub holds : ℕ → Symbol → Bool
holds a s = nat_le s.st_value a && nat_lt a (s.st_value + s.st_size) && is_function s

-- STB_GLOBAL before STB_WEAK before STB_LOCAL before what else there is
abbrev pub precedence : Symbol → ℕ
precedence s = if binding_of s == 1 then 3 else (if binding_of s == 2 then 2 else (if binding_of s == 0 then 1 else 0))

-- of two in which an address lies the first counts, also where it stands later: it begins later or, where both begin together, its
-- binding counts more
abbrev pub comes_before : Symbol → Symbol → Bool
comes_before s t = nat_lt t.st_value s.st_value || ((t.st_value == s.st_value) && nat_lt (precedence t) (precedence s))

-- a symbol, or what follows in the table where that counts before it
abbrev pub nearer : Symbol → Option Symbol → Symbol
nearer s None = s
nearer s (Some t) = if comes_before t s then t else s

-- the symbol of the function at an address
abbrev pub symbol_at : ℕ → List Symbol → Option Symbol
symbol_at a [] = None
symbol_at a (s ∷ ss) = if holds a s then Some (nearer s (symbol_at a ss)) else symbol_at a ss

-- a text up to the first zero byte, where there is one
abbrev pub text_of : List ℕ → Option (List ℕ)
text_of bytes = option_map (λ n. take n bytes) (position (λ b. b == 0) bytes)

-- the text at an offset of a string table
abbrev pub name_in : List ℕ → ℕ → Option (List ℕ)
name_in strings offset = text_of (drop offset strings)
