-- A space with one module, whose frame table describes a function that pushes RBX, before the module is prepared and after.
use Rattle.std.specs.Prelude.{List, [], ◌∷◌, Some, None}
use Rattle.memory_image.specs.Image.{Span}
use Rattle.eh_frame.specs.PreparedSample.{table, index}
use Rattle.fde_finders.specs.declared.custom.FrameInfo.{FrameInfo}
use Rattle.fde_finders.specs.declared.custom.FrameInfoKind.TheVariants.{EhFrame}
use Rattle.stack_steps.specs.declared.space.Module.{Module}
use Rattle.stack_steps.specs.declared.space.ModuleTables.TheVariants.{Elf}
use Rattle.stack_steps.specs.Modules.{SpaceValue, without_index}

abbrev pub image : List Span
image = record { start = 0x500000; bytes = table.bytes } ∷ []

abbrev pub tables_there : FrameInfo
tables_there = record { text_base = None; kind = EhFrame 0x500000 }

abbrev pub module_there : Module
module_there = record { start = 0x401000; end = 0x401010; tables = Elf tables_there }

abbrev pub unprepared_space : SpaceValue
unprepared_space = record { image = image; modules = module_there ∷ []; added = without_index module_there ∷ [] }

abbrev pub prepared_space : SpaceValue
prepared_space = record unprepared_space { added = record { holder = module_there; index = Some index } ∷ [] }
