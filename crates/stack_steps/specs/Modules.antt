-- Modules by address, and which of them a space takes.
use Rattle.std.specs.Prelude.{ℕ, ◌+◌, ◌-◌, ◌^◌, ◌<◌, ◌≤◌, Bool, true, ◌&&◌, List, [], ◌∷◌, ◌++◌, Option, Some, None, nat_le, nat_lt, map, if◌then◌else◌}
use Rattle.std.specs.List.{AllByRecursion}
use Rattle.std.specs.Option.{option_map}
use Rattle.memory_image.specs.Image.{Span, lower}
use Rattle.eh_frame.specs.Index.{Index}
use Rattle.fde_finders.specs.declared.custom.FrameInfo.{FrameInfo}
use Rattle.stack_steps.specs.declared.space.SpaceError.{SpaceError}
use Rattle.stack_steps.specs.declared.space.SpaceError.TheVariants.{Wraps, Overlap}
use Rattle.stack_steps.specs.declared.space.Module.{Module}
use Rattle.stack_steps.specs.declared.space.ModuleTables.{ModuleTables}
use Rattle.stack_steps.specs.declared.space.ModuleTables.TheVariants.{Elf, Macho, Pe}
use Rattle.stack_steps.specs.declared.space.ModuleEntry.{ModuleEntry}

-- a module that was added, and the index of its frame table, where the module is prepared
pub record Added : Type 0 where
  pub holder : Module
  pub index : Option Index

abbrev pub without_index : Module → Added
without_index m = record { holder = m; index = None }

-- memory by address, the modules in it by ascending start, and the same modules in the order in which they were added, with their
-- indexes
pub record SpaceValue : Type 0 where
  pub image : List Span
  pub modules : List Module
  pub added : List Added

-- the address lies in the module
abbrev pub contains : Module → ℕ → Bool
contains m a = nat_le m.start a && nat_lt a m.end

-- where frame tables lie that a finder can search: those of an ELF module alone
abbrev pub elf_tables_of : ModuleTables → Option FrameInfo
elf_tables_of (Elf info) = Some info
elf_tables_of (Macho tables) = None
elf_tables_of (Pe tables) = None

-- the frame tables of a module, for an address of its own
abbrev pub frame_for : Module → ℕ → Option FrameInfo
frame_for m a = if contains m a then elf_tables_of m.tables else None

-- the module that contains the address
abbrev pub module_at : List Module → ℕ → Option Module
module_at [] a = None
module_at (m ∷ ms) a = if contains m a then Some m else module_at ms a

-- modules from low on by ascending start, none of them empty, each from the end of the one before on, the last one's below 2 ^ 64
abbrev pub AreApart : ℕ → List Module → Type 0
AreApart low [] = low < 2 ^ 64
AreApart low (m ∷ ms) = (low ≤ m.start) × (m.start < m.end) × AreApart m.end ms

-- the module has an address from start to before end
abbrev pub shares : Module → ℕ → ℕ → Bool
shares m start end = nat_lt m.start end && nat_lt start m.end

-- the lowest start of a module that has an address from start to before end
abbrev pub lowest_shared : List Module → ℕ → ℕ → Option ℕ
lowest_shared [] start end = None
lowest_shared (m ∷ ms) start end = if shares m start end then lower m.start (lowest_shared ms start end) else lowest_shared ms start end

-- why a module is not taken beside these: its range is none, or shares an address with one of theirs
abbrev pub module_refusal : List Module → Module → Option SpaceError
module_refusal ms m =
    if nat_le (2 ^ 64) m.end then Some Wraps
    else (if nat_le m.end m.start then Some Wraps else option_map Overlap (lowest_shared ms m.start m.end))

-- a module of so many bytes
abbrev pub module_of_size : ℕ → ℕ → ModuleTables → Module
module_of_size base size tables = record { start = base; end = base + size; tables = tables }

abbrev pub macho_sized : ℕ → ℕ → ℕ → Option ℕ → Module
macho_sized base size unwind_info frames = module_of_size base size (Macho (record { unwind_info = unwind_info; frames = frames }))

abbrev pub pe_sized : ℕ → ℕ → ℕ → ℕ → Module
pe_sized base size table_rva table_size = module_of_size base size (Pe (record { table_rva = table_rva; table_size = table_size }))

-- In a Mach-O or a PE module an address is known by how far it is from the base, a number of 32 bits.
abbrev pub FitsIn : ModuleTables → ℕ → Type 0
FitsIn (Elf t) size = Unit {0}
FitsIn (Macho t) size = size < 2 ^ 32
FitsIn (Pe t) size = size < 2 ^ 32

abbrev pub IsPlaced : Module → Type 0
IsPlaced m = FitsIn m.tables (m.end - m.start)

-- a Mach-O or a PE module has fewer than 2 ^ 32 bytes
abbrev pub fits : ModuleTables → ℕ → Bool
fits (Elf tables) size = true
fits (Macho tables) size = nat_lt size (2 ^ 32)
fits (Pe tables) size = nat_lt size (2 ^ 32)

-- why a module is not taken beside these
abbrev pub given_refusal : List Module → Module → Option SpaceError
given_refusal taken m = if fits m.tables (m.end - m.start) then module_refusal taken m else Some Wraps

-- all modules are ELF modules
abbrev pub HasElfTables : ModuleTables → Type 0
HasElfTables (Elf t) = Unit {0}
HasElfTables _ = ⊥

abbrev pub AreElf : List Module → Type 0
AreElf ms = AllByRecursion (λ (m : Module). HasElfTables m.tables) ms

-- the modules with one more, by ascending start
abbrev pub with_module : Module → List Module → List Module
with_module m [] = m ∷ []
with_module m (n ∷ ns) = if nat_lt m.start n.start then m ∷ n ∷ ns else n ∷ with_module m ns

-- a space with one more module, which isn't prepared
abbrev pub with_added : Module → SpaceValue → SpaceValue
with_added m space = record space { modules = with_module m space.modules; added = space.added ++ without_index m ∷ [] }

-- the module that starts at a key of the map
abbrev pub module_of : ℕ × ModuleEntry → Module
module_of e = record { start = e.0; end = e.1.end; tables = e.1.tables }

-- the modules that a map from starts holds
abbrev pub modules_in : List (ℕ × ModuleEntry) → List Module
modules_in es = map module_of es

-- ---- the modules beside an address

abbrev pub or_else : Option Module → Option Module → Option Module
or_else None m = m
or_else (Some n) m = Some n

-- the last module that starts at or below the address
abbrev pub last_below : List Module → ℕ → Option Module
last_below [] a = None
last_below (m ∷ ms) a = or_else (last_below ms a) (if nat_le m.start a then Some m else None)

-- the start of the first module that starts from start to before end
abbrev pub first_between : List Module → ℕ → ℕ → Option ℕ
first_between [] start end = None
first_between (m ∷ ms) start end = if nat_le start m.start && nat_lt m.start end then Some m.start else first_between ms start end
