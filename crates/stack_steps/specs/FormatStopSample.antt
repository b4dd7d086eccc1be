-- A space with an ELF, a Mach-O and a PE module, and one with a PE module whose function has an epilog in its midst.
use Rattle.std.specs.Prelude.{List, [], ◌∷◌, None, map}
use Rattle.unwind_laws.specs.Three as three
use Rattle.fde_finders.specs.declared.custom.FrameInfoKind.TheVariants.{EhFrame}
use Rattle.format_laws.specs.MachoSamples.{sample_module}
use Rattle.format_laws.specs.PeSamples.{module_of_one, room_image, epilog_image}
use Rattle.stack_steps.specs.declared.space.Module.{Module}
use Rattle.stack_steps.specs.declared.space.ModuleTables.TheVariants.{Elf}
use Rattle.stack_steps.specs.Modules.{SpaceValue, without_index, macho_sized, pe_sized}

abbrev pub elf_loaded : Module
elf_loaded = record { start = three.module_of_them.start; end = three.module_of_them.end; tables = Elf (record { text_base = None; kind = EhFrame 0x500000 }) }

abbrev pub macho_loaded : Module
macho_loaded = macho_sized sample_module.base sample_module.size sample_module.unwind_info None

abbrev pub pe_loaded : Module
pe_loaded = pe_sized module_of_one.base module_of_one.size module_of_one.table_rva module_of_one.table_size

abbrev pub three_formats : List Module
three_formats = elf_loaded ∷ macho_loaded ∷ pe_loaded ∷ []

abbrev pub space_of_three : SpaceValue
space_of_three = record { image = room_image; modules = three_formats; added = map without_index three_formats }

abbrev pub space_with_epilog : SpaceValue
space_with_epilog = record { image = epilog_image; modules = pe_loaded ∷ []; added = without_index pe_loaded ∷ [] }
