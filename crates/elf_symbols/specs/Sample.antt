-- A file of two functions, of which the second lies in the first, and the first has two names.
use Rattle.std.specs.Prelude.{ℕ, List, [], ◌∷◌, ◌++◌, codes, replicate}
use Rattle.elf_symbols.specs.declared.symbol.Symbol.{Symbol}
use Rattle.elf_symbols.specs.Header.{identification}
use Rattle.elf_symbols.specs.Functions.{FunctionValue, SymbolTable}

-- numbers of two, four and eight bytes that are below 256, and zeros
abbrev pub half : ℕ → List ℕ
half n = n ∷ 0 ∷ []

abbrev pub number : ℕ → List ℕ
number n = n ∷ 0 ∷ 0 ∷ 0 ∷ []

abbrev pub word : ℕ → List ℕ
word n = number n ++ number 0

abbrev pub zeros : ℕ → List ℕ
zeros n = replicate n 0

-- type 3, machine 62, and three section headers from byte 64 on
abbrev pub elf_header : List ℕ
elf_header = identification ++ zeros 10 ++ half 3 ++ half 62 ++ number 1 ++ zeros 16 ++ word 64 ++ zeros 4 ++ half 64 ++ zeros 4 ++ half 64 ++ half 3 ++ half 0

-- SHT_SYMTAB, 96 bytes from byte 256 on, with the names of the section of number 2
abbrev pub symbols_header : List ℕ
symbols_header = number 0 ++ number 2 ++ zeros 16 ++ (0 ∷ 1 ∷ zeros 6) ++ word 96 ++ number 2 ++ number 0 ++ word 8 ++ word 24

-- SHT_STRTAB, 19 bytes from byte 352 on
abbrev pub strings_header : List ℕ
strings_header = number 0 ++ number 3 ++ zeros 16 ++ (96 ∷ 1 ∷ zeros 6) ++ word 19 ++ zeros 8 ++ word 1 ++ zeros 8

-- the name at an offset of the strings, the type and the binding, in the section of number 1; an address, and a size
abbrev pub spelled : ℕ → ℕ → List ℕ → ℕ → List ℕ
spelled name info value size = number name ++ (info ∷ 0 ∷ half 1) ++ value ++ word size

-- local functions have the number 2, and global ones 18
abbrev pub symbol_bytes : List ℕ
symbol_bytes = zeros 24 ++ spelled 1 2 (0 ∷ 16 ∷ zeros 6) 64 ++ spelled 7 18 (0 ∷ 16 ∷ zeros 6) 64 ++ spelled 13 2 (16 ∷ 16 ∷ zeros 6) 16

abbrev pub string_bytes : List ℕ
string_bytes = zeros 1 ++ codes "start" ++ zeros 1 ++ codes "outer" ++ zeros 1 ++ codes "inner" ++ zeros 1

abbrev pub small_file : List ℕ
small_file = elf_header ++ zeros 64 ++ symbols_header ++ strings_header ++ symbol_bytes ++ string_bytes

abbrev pub function_symbol : ℕ → ℕ → ℕ → ℕ → Symbol
function_symbol name info value size = record { st_name = name; st_info = info; st_other = 0; st_shndx = 1; st_value = value; st_size = size }

abbrev pub small_table : SymbolTable
small_table = record {
  symbols = record { st_name = 0; st_info = 0; st_other = 0; st_shndx = 0; st_value = 0; st_size = 0 } ∷ function_symbol 1 2 0x1000 64 ∷ function_symbol 7 18 0x1000 64 ∷ function_symbol 13 2 0x1010 16 ∷ [];
  strings = string_bytes;
}

abbrev pub outer : FunctionValue
outer = record { name = codes "outer"; start = 0x1000 }

abbrev pub inner : FunctionValue
inner = record { name = codes "inner"; start = 0x1010 }
