-- The description to which an opcode points, in frame data that was handed in. Apple's compact unwinding.
use Rattle.std.specs.Prelude.{ℕ, Option, Some, None, Result, Ok, List}
use Rattle.std.specs.Option.{option_map, option_map_or}
use Rattle.memory_image.specs.Image.{Span}
use Rattle.memory_image.specs.Results.{result_map}
use Rattle.unwind_definitions.specs.declared.error.Error.{Error as Fault}
use Rattle.unwind_definitions.specs.Entries.{Fde}
use Rattle.unwind_definitions.specs.HeaderSearch.{fde_at}
use Rattle.unwind_definitions.specs.LanguageTable.{input_at}
use Rattle.fde_finders.specs.declared.find_fde.FDESearchResult.{FDESearchResult}
use Rattle.fde_finders.specs.Finding.{FoundFde}
use Rattle.fde_finders.specs.FoundViews.{found_fde_of}
use Rattle.macho_unwind_info.specs.declared.function.Function.{Function as Listed}
use Rattle.macho_unwind_info.specs.declared.opcodes.x86_64.OpcodeX86_64.{OpcodeX86_64}
use Rattle.macho_unwind_info.specs.declared.opcodes.x86_64.OpcodeX86_64.TheVariants.{Dwarf}
use Rattle.macho_unwind_info.specs.X86_64.{opcode_of}
use Rattle.format_definitions.specs.CompactStep.{MachoModule, frame_bases}

-- a description in the frame data at an address
abbrev pub found_in : List Span → ℕ → Fde → FoundFde
found_in image frames fde = record { fde = fde; bases = frame_bases frames; table = input_at image frames }

-- the one at an offset
abbrev pub description_in : List Span → ℕ → ℕ → Result FoundFde Fault
description_in image frames offset = result_map (found_in image frames) (fde_at (frame_bases frames) (input_at image frames) offset)

abbrev pub some_found : Result FoundFde Fault → Result (Option FoundFde) Fault
some_found = result_map Some

-- none unless the opcode points to frame data, which was handed in
abbrev pub description_by : List Span → Option ℕ → OpcodeX86_64 → Result (Option FoundFde) Fault
description_by image frames (Dwarf offset) = option_map_or (λ table. some_found (description_in image table offset)) frames (Ok None)
description_by image frames _ = Ok None

abbrev pub description_of : List Span → MachoModule → Listed → Result (Option FoundFde) Fault
description_of image m listed = description_by image m.frames (opcode_of listed.opcode)

-- the code's answer
abbrev pub description_seen : Result (Option FDESearchResult) Fault → Result (Option FoundFde) Fault
description_seen = result_map (option_map found_fde_of)
