-- A space as the process of the definitions: memory, and the modules that lie in it.
use Rattle.std.specs.Prelude.{ℕ, List, Option, Some, None, map}
use Rattle.std.specs.List.{filter_map}
use Rattle.unwind_definitions.specs.Module.{Tables, Frames, Header, Module as Described, Process}
use Rattle.fde_finders.specs.declared.custom.FrameInfo.{FrameInfo}
use Rattle.fde_finders.specs.declared.custom.FrameInfoKind.{FrameInfoKind}
use Rattle.fde_finders.specs.declared.custom.FrameInfoKind.TheVariants.{EhFrame, EhFrameHdr}
use Rattle.stack_steps.specs.declared.space.Module.{Module}
use Rattle.stack_steps.specs.declared.space.ModuleTables.{ModuleTables}
use Rattle.stack_steps.specs.declared.space.ModuleTables.TheVariants.{Elf, Macho, Pe}
use Rattle.format_definitions.specs.Modules.{FormatModule}
use Rattle.format_definitions.specs.Modules as formats
use Rattle.stack_steps.specs.Modules.{SpaceValue}
use Rattle.stack_steps.specs.Macho as macho
use Rattle.stack_steps.specs.Pe as pe

abbrev pub tables_of : FrameInfoKind → Tables
tables_of (EhFrame a) = Frames a
tables_of (EhFrameHdr h) = Header h

abbrev pub elf_module : ℕ → ℕ → FrameInfo → Described
elf_module start end frame = record { start = start; end = end; text = frame.text_base; tables = tables_of frame.kind }

-- an ELF module; no other is one of the process
abbrev pub elf_in : ℕ → ℕ → ModuleTables → Option Described
elf_in start end (Elf frame) = Some (elf_module start end frame)
elf_in start end (Macho tables) = None
elf_in start end (Pe tables) = None

abbrev pub elf_of : Module → Option Described
elf_of m = elf_in m.start m.end m.tables

abbrev pub process_of : SpaceValue → Process
process_of space = record { image = space.image; modules = filter_map elf_of space.modules }

-- ---- modules of every format

abbrev pub format_by : Module → ModuleTables → FormatModule
format_by m (Elf frame) = formats.Elf (elf_module m.start m.end frame)
format_by m (Macho tables) = formats.Macho (macho.module_of m tables)
format_by m (Pe tables) = formats.Pe (pe.module_of m tables)

abbrev pub format_of : Module → FormatModule
format_of m = format_by m m.tables

-- the modules of a space, of whatever format each is, by ascending start
abbrev pub formats_of : SpaceValue → List FormatModule
formats_of space = map format_of space.modules
