-- What the code has read of files. No public clause cites this.
use Rattle.std.specs.Prelude.{◌≡◌, ℕ, List, take, IfSome, Option, option_map, slice_get}
use Rattle.std.specs.Option.{option_and_then}
use Rattle.core_file.specs.MappedParts.{PartValue}
use Rattle.elf_symbols.specs.Functions.{SymbolTable, table_in, table_of, table_over}
use Rattle.elf_symbols.specs.Header.{section_table}
use Rattle.mapped_files.specs.Files.{front_of}
use Rattle.mapped_names.specs.declared.reading.NamedFile.{NamedFile}
use Rattle.mapped_names.specs.declared.reading.SymbolBytes.{SymbolBytes}

abbrev pub table_in_bytes : SymbolBytes → SymbolTable
table_in_bytes b = table_over b.symbols.items b.strings.items

-- the symbols of a file that begins so
abbrev pub table_by_front : List ℕ → List ℕ → Option SymbolTable
table_by_front file front = option_and_then (table_in file) (section_table (take 64 front))

-- it has the front and the symbols of a file with these bytes
pub record IsNamedFile (bytes : List ℕ) (file : NamedFile) : Type 0 where
  pub front : file.front.items ≡ front_of bytes
  pub symbols : option_map table_in_bytes file.symbols ≡ table_of bytes

abbrev pub IsFileOf : (List ℕ → List ℕ) → NamedFile → PartValue → Type 0
IsFileOf files file part = IsNamedFile (files part.path) file

-- it is read from the file of the part of this number
abbrev pub IsFileAt : (List ℕ → List ℕ) → List PartValue → ℕ → NamedFile → Type 0
IsFileAt files parts index file = IfSome (slice_get parts index) (IsFileOf files file)
