-- Unwind data of two functions, of which the first names a handler, and the second goes on with the first one's record.
use Rattle.std.specs.Prelude.{ℕ, List, [], ◌∷◌, take, Some, None, ◌==◌, if◌then◌else◌}
use Rattle.pe_unwind_info.specs.declared.x86_64.function_table.RuntimeFunction.{RuntimeFunction}
use Rattle.pe_unwind_info.specs.declared.x86_64.handler.Handler.{Handler}
use Rattle.pe_unwind_info.specs.FrameOf.{Image}

abbrev pub naming_function : RuntimeFunction
naming_function = record { begin_address = 0x1000; end_address = 0x1100; unwind_info_address = 0x2010 }

abbrev pub chained_function : RuntimeFunction
chained_function = record { begin_address = 0x1100; end_address = 0x1200; unwind_info_address = 0x2028 }

-- version 1, the flag for exceptions, no slots; the handler's address 0x2800, and its data
abbrev pub naming_bytes : List ℕ
naming_bytes = 0x09 ∷ 0 ∷ 0 ∷ 0 ∷ 0 ∷ 0x28 ∷ 0 ∷ 0 ∷ 0xff ∷ 0xff ∷ 0x01 ∷ 0x04 ∷ 0x08 ∷ 0x10 ∷ 0x20 ∷ 0x01 ∷ 0 ∷ []

-- version 1, the flag for chaining, no slots; the first function's record goes on
abbrev pub chained_bytes : List ℕ
chained_bytes = 0x21 ∷ 0 ∷ 0 ∷ 0 ∷ 0 ∷ 0x10 ∷ 0 ∷ 0 ∷ 0 ∷ 0x11 ∷ 0 ∷ 0 ∷ 0x10 ∷ 0x20 ∷ 0 ∷ 0 ∷ []

-- an image that has these records, of the first one so many bytes
abbrev pub memory_up_to : ℕ → Image
memory_up_to count rva =
    if rva == 0x2010 then Some (take count naming_bytes) else (if rva == 0x2028 then Some chained_bytes else None)

abbrev pub sample_handler : Handler
sample_handler = record { begin = 0x1000; handler_address = 0x2800; data_rva = 0x2018 }
