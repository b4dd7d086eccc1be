-- Where an address of memory lies in the code of a file that was mapped, and in which of its functions. System V gABI, chapter
-- "Program Loading and Dynamic Linking", part "Program Header"; Linux's note NT_FILE says which parts of files lie where.
use Rattle.std.specs.Prelude.{◌≡◌, ℕ, ◌+◌, ◌-◌, ◌%◌, ◌^◌, ◌==◌, ◌&&◌, Bool, List, [], ◌∷◌, position, slice_get, Option, Some, None, nat_le, nat_lt, if◌then◌else◌}
use Rattle.std.specs.Option.{option_and_then, option_map}
use Rattle.core_file.specs.MappedParts.{PartValue}
use Rattle.fde_finders.specs.declared.phdr.Phdr.{Phdr}
use Rattle.elf_symbols.specs.Functions.{FunctionValue, SymbolTable, function_at, table_of}
use Rattle.mapped_files.specs.Files.{front_of}
use Rattle.mapped_files.specs.Front.{program_headers}
use Rattle.mapped_names.specs.declared.places.CodePlace.{CodePlace}
use Rattle.mapped_names.specs.declared.places.NamedFunction.{NamedFunction}

-- the path of a file, an address as it counts, and the function in which the address lies
pub record PlaceValue : Type 0 where
  pub path : List ℕ
  pub address : ℕ
  pub function : Option FunctionValue

abbrev pub function_value : NamedFunction → FunctionValue
function_value f = record { name = f.name.items; start = f.start }

abbrev pub place_value : CodePlace → PlaceValue
place_value p = record { path = p.path.now; address = p.address; function = option_map function_value p.function }

-- ---- in a file

-- where the byte at an address of a part stands in the file
abbrev pub position_in : PartValue → ℕ → ℕ
position_in part a = (part.offset + (a - part.start)) % 2 ^ 64

-- PT_LOAD with the flag PF_X, and one of its bytes in the file stands there
abbrev pub code_at : ℕ → Phdr → Bool
code_at place h = (h.p_type == 1) && (h.p_flags % 2 == 1) && nat_le h.p_offset place && nat_lt (place - h.p_offset) h.p_filesz

-- the address of a byte of a segment
abbrev pub address_with : ℕ → Phdr → ℕ
address_with place h = (h.p_vaddr + (place - h.p_offset)) % 2 ^ 64

-- the address of a byte of code, by the first segment that has it
abbrev pub address_by : ℕ → List Phdr → Option ℕ
address_by place [] = None
address_by place (h ∷ hs) = if code_at place h then Some (address_with place h) else address_by place hs

-- an address of a part, as the part's file counts
abbrev pub file_address : List ℕ → PartValue → ℕ → Option ℕ
file_address file part a = option_and_then (address_by (position_in part a)) (program_headers (front_of file))

abbrev pub function_by : Option SymbolTable → ℕ → Option FunctionValue
function_by table a = option_and_then (λ t. function_at t a) table

abbrev pub place_with : List ℕ → PartValue → ℕ → PlaceValue
place_with file part a = record { path = part.path; address = a; function = function_by (table_of file) a }

-- where an address of a part lies in the part's file
abbrev pub place_in_file : List ℕ → PartValue → ℕ → Option PlaceValue
place_in_file file part a = option_map (place_with file part) (file_address file part a)

-- ---- among all parts

-- from a part's first address on, before the one after its last
abbrev pub holds_address : ℕ → PartValue → Bool
holds_address a part = nat_le part.start a && nat_lt a part.stop

abbrev pub index_at : ℕ → List PartValue → Option ℕ
index_at a parts = position (holds_address a) parts

abbrev pub place_in_part : (List ℕ → List ℕ) → ℕ → PartValue → Option PlaceValue
place_in_part files a part = place_in_file (files part.path) part a

abbrev pub place_at_index : (List ℕ → List ℕ) → List PartValue → ℕ → ℕ → Option PlaceValue
place_at_index files parts a index = option_and_then (place_in_part files a) (slice_get parts index)

-- the parts, none where they aren't told
abbrev pub parts_of : Option (List PartValue) → List PartValue
parts_of None = []
parts_of (Some parts) = parts

-- where an address lies, by the first part that holds it
unfoldable pub place_of : (List ℕ → List ℕ) → List PartValue → ℕ → Option PlaceValue
place_of files parts a = option_and_then (place_at_index files parts a) (index_at a parts)

-- ---- what the code holds

-- the files, and the parts of them that were mapped
pub record NamingValue (F : Type 0) : Type 0 where
  pub files : F
  pub parts : List PartValue
