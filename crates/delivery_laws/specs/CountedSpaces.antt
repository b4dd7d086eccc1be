-- A space with one module, which names the header of its frame table.
use Rattle.std.specs.Prelude.{[], ◌∷◌, None}
use Rattle.unwind_laws.specs.Three as three
use Rattle.fde_finders.specs.declared.custom.FrameInfo.{FrameInfo}
use Rattle.fde_finders.specs.declared.custom.FrameInfoKind.TheVariants.{EhFrameHdr}
use Rattle.stack_steps.specs.declared.space.Module.{Module}
use Rattle.stack_steps.specs.declared.space.ModuleTables.TheVariants.{Elf}
use Rattle.stack_steps.specs.Modules.{SpaceValue, without_index}

abbrev pub header_tables : FrameInfo
header_tables = record { text_base = None; kind = EhFrameHdr 0x504000 }

abbrev pub header_loaded : Module
header_loaded = record { start = three.module_with_header.start; end = three.module_with_header.end; tables = Elf header_tables }

abbrev pub space_by_header : SpaceValue
space_by_header = record { image = three.header_image; modules = header_loaded ∷ []; added = without_index header_loaded ∷ [] }
