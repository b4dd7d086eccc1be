-- The code's modules as those of the definitions.
use Rattle.format_definitions.specs.CompactStep.{MachoModule}
use Rattle.format_definitions.specs.PeImage.{PeModule}
use Rattle.format_frames.specs.declared.macho.MachoModule.{MachoModule as CodeMachoModule}
use Rattle.format_frames.specs.declared.pe.PeModule.{PeModule as CodePeModule}

abbrev pub macho_module : CodeMachoModule → MachoModule
macho_module m = record { base = m.base; size = m.size; unwind_info = m.unwind_info; frames = m.frames }

abbrev pub pe_module : CodePeModule → PeModule
pe_module m = record { base = m.base; size = m.size; table_rva = m.table_rva; table_size = m.table_size }
