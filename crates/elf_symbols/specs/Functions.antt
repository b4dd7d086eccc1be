-- The function at an address of a file. System V gABI, chapters "Object Files", "Sections", "Symbol Table" and "String Table".
use Rattle.std.specs.Prelude.{ℕ, ◌==◌, List, length, take, drop, Option, Some, None, if◌then◌else◌}
use Rattle.std.specs.Option.{option_and_then, option_map}
use Rattle.elf_symbols.specs.declared.part.FilePart.{FilePart}
use Rattle.elf_symbols.specs.declared.section.SymbolParts.{SymbolParts}
use Rattle.elf_symbols.specs.declared.symbol.Symbol.{Symbol}
use Rattle.elf_symbols.specs.declared.symbols.FunctionName.{FunctionName}
use Rattle.elf_symbols.specs.Header.{section_table}
use Rattle.elf_symbols.specs.Sections.{section_headers, symbol_parts}
use Rattle.elf_symbols.specs.Symbols.{name_in, symbol_at, symbols_in}

-- the symbols of a file, and the bytes of the table of their names
pub record SymbolTable : Type 0 where
  pub symbols : List Symbol
  pub strings : List ℕ

-- a function's name, and its first address
pub record FunctionValue : Type 0 where
  pub name : List ℕ
  pub start : ℕ

abbrev pub function_of : FunctionName → FunctionValue
function_of f = record { name = f.name.now; start = f.start }

abbrev pub function_from : ℕ → List ℕ → FunctionValue
function_from start name = record { name = name; start = start }

abbrev pub named : List ℕ → Symbol → Option FunctionValue
named strings s = option_map (function_from s.st_value) (name_in strings s.st_name)

-- the function at an address, by the symbols of its file
abbrev pub function_at : SymbolTable → ℕ → Option FunctionValue
function_at table a = option_and_then (named table.strings) (symbol_at a table.symbols)

-- ---- of a whole file

abbrev pub if_whole : ℕ → List ℕ → Option (List ℕ)
if_whole size bytes = if length bytes == size then Some bytes else None

-- the bytes of a part of a file, where the file has them all
abbrev pub whole_part : List ℕ → FilePart → Option (List ℕ)
whole_part file p = if_whole p.size (take p.size (drop p.offset file))

abbrev pub table_over : List ℕ → List ℕ → SymbolTable
table_over symbols strings = record { symbols = symbols_in symbols; strings = strings }

abbrev pub table_with : List ℕ → SymbolParts → List ℕ → Option SymbolTable
table_with file parts symbols = option_map (table_over symbols) (whole_part file parts.strings)

abbrev pub table_at : List ℕ → SymbolParts → Option SymbolTable
table_at file parts = option_and_then (table_with file parts) (whole_part file parts.symbols)

abbrev pub table_by : List ℕ → List ℕ → Option SymbolTable
table_by file headers = option_and_then (table_at file) (symbol_parts (section_headers headers))

-- the symbols of a file, by its header and its section headers
abbrev pub table_in : List ℕ → FilePart → Option SymbolTable
table_in file sections = option_and_then (table_by file) (whole_part file sections)

unfoldable pub table_of : List ℕ → Option SymbolTable
table_of file = option_and_then (table_in file) (section_table (take 64 file))
