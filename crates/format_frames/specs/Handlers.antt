-- What the unwind data of a frame says of its language, which no step reads.
use Rattle.std.specs.Prelude.{ℕ, List, length, Option, None, Result, Ok, Err, nat_lt, ◌==◌, if◌then◌else◌}
use Rattle.std.specs.Option.{option_map}
use Rattle.std.specs.Result.{result_map_both}
use Rattle.memory_image.specs.Image.{Span, table_at}
use Rattle.memory_image.specs.Results.{◌>>=◌, result_map}
use Rattle.unwind_definitions.specs.Caller.{◌+w◌}
use Rattle.unwind_definitions.specs.LanguageSearch.{LanguagePlace}
use Rattle.unwind_definitions.specs.Module.{no_bases}
use Rattle.unwinding_frames.specs.declared.place.Place.{Place}
use Rattle.unwinding_frames.specs.ContextSeen.{language_place_of}
use Rattle.macho_unwind_info.specs.declared.error.Error.{Error}
use Rattle.macho_unwind_info.specs.declared.error.Error.TheVariants.{ReadError}
use Rattle.macho_unwind_info.specs.declared.error.ReadError.TheVariants.{Personalities}
use Rattle.macho_unwind_info.specs.declared.function.Function.{Function as Listed}
use Rattle.macho_unwind_info.specs.declared.raw.unaligned.U32.{U32}
use Rattle.macho_unwind_info.specs.LanguageTables.{personalities_of, lsda_of}
use Rattle.macho_unwind_info.specs.Listing.{Section, part, section_of}
use Rattle.format_definitions.specs.CompactStep.{MachoModule}
use Rattle.format_definitions.specs.MachoModules.{personality_index}
use Rattle.pe_unwind_info.specs.declared.x86_64.fault.FrameFault.{FrameFault}
use Rattle.pe_unwind_info.specs.declared.x86_64.function_table.RuntimeFunction.{RuntimeFunction}
use Rattle.pe_unwind_info.specs.declared.x86_64.handler.Handler.{Handler}
use Rattle.pe_unwind_info.specs.Handlers.{handler_of}
use Rattle.format_definitions.specs.PeImage.{PeModule, memory_of}

-- the code's answer
abbrev pub place_seen : {E : Type 0} → Result (Option Place) E → Result (Option LanguagePlace) E
place_seen r = result_map (option_map language_place_of) r

-- ---- Apple's compact unwinding

-- the offset of a function's language table, where the section lists the personality that its opcode names
abbrev pub offset_if_named : Section → Listed → List U32 → Result (Option ℕ) Error
offset_if_named info listed personalities = if nat_lt (length personalities) (personality_index listed.opcode) then Err (ReadError Personalities) else lsda_of info listed

abbrev pub language_offset : Listed → Section → Result (Option ℕ) Error
language_offset listed info = part (personalities_of info) >>= offset_if_named info listed

-- the same by a section's bytes
abbrev pub offset_in : Listed → List ℕ → Result (Option ℕ) Error
offset_in listed bytes = section_of bytes >>= language_offset listed

-- the function's start and its language table, so far from the module's base
abbrev pub place_at : MachoModule → Listed → ℕ → LanguagePlace
place_at m listed offset = record { start = m.base +w listed.start_address; lsda = m.base +w offset; bases = no_bases }

-- Where the language table of a listed function stands. Nothing is read of one whose opcode names no personality.
abbrev pub macho_place : List Span → MachoModule → Listed → Result (Option LanguagePlace) Error
macho_place image m listed =
    if personality_index listed.opcode == 0 then Ok None
    else result_map (option_map (place_at m listed)) (offset_in listed (table_at image m.unwind_info))

-- ---- Microsoft x64 exception handling

-- the start of the function whose record names a handler, and the handler's data
abbrev pub handler_place : PeModule → Handler → LanguagePlace
handler_place m handler = record { start = m.base +w handler.begin; lsda = m.base +w handler.data_rva; bases = no_bases }

-- Where the language table of a function of a PE module stands, by the record that a look-up answers. The handler's routine isn't
-- looked at.
abbrev pub pe_place : List Span → PeModule → Option RuntimeFunction → Result (Option LanguagePlace) FrameFault
pe_place image m function = result_map_both (option_map (handler_place m)) (λ fault. fault) (handler_of (memory_of image m.base) function)
