-- Modules of three formats, in each of which a function has a handler; and calls of these functions by one another.
use Rattle.std.specs.Prelude.{ℕ, false, List, [], ◌∷◌, ◌++◌, drop, replicate, Some}
use Rattle.memory_image.specs.Image.{Span}
use Rattle.unwind_definitions.specs.State.{State}
use Rattle.unwind_definitions.specs.Function.{Function, Site, Catch}
use Rattle.unwind_definitions.specs.Chain.{Call}
use Rattle.unwind_definitions.specs.Delivery.{Delivery, Installed}
use Rattle.unwind_laws.specs.Three as three
use Rattle.macho_unwind_info.specs.Sample.{tabled_bytes}
use Rattle.pe_unwind_info.specs.declared.x86_64.function_table.RuntimeFunction.{RuntimeFunction}
use Rattle.pe_unwind_info.specs.declared.x86_64.handler.Handler.{Handler}
use Rattle.pe_unwind_info.specs.Info.{Info}
use Rattle.format_laws.specs.PeSamples.{far, header, table_bytes}

-- a language table: no pad base, no types, sites in uleb128 numbers, four bytes of them; the calls from 8 to 0x18 have a handler at 0x20
abbrev pub language_bytes : List ℕ
language_bytes = 0xff ∷ 0xff ∷ 0x01 ∷ 0x04 ∷ 0x08 ∷ 0x10 ∷ 0x20 ∷ 0x01 ∷ 0x01 ∷ 0x00 ∷ []

-- the address of a PE function's handler, relative to the module's base
abbrev pub handler_address : List ℕ
handler_address = 0x00 ∷ 0x28 ∷ 0x00 ∷ 0x00 ∷ []

-- an unwind record of version 1 with the flag for exceptions, and no slots
abbrev pub info_bytes : List ℕ
info_bytes = 0x09 ∷ 0x00 ∷ 0x00 ∷ 0x00 ∷ (handler_address ++ language_bytes)

-- the return addresses into the PE function and into the ELF function, and that one's frame
abbrev pub stack : List ℕ
stack = far 0x10 0x10 0x00 0x40 0x01 ++ drop 40 (three.stack 0x60)

abbrev pub pe_regions : List Span
pe_regions = record { start = 0x140001000; bytes = replicate 256 0x90 } ∷ record { start = 0x140002000; bytes = table_bytes 0x00 0x11 } ∷ record { start = 0x140002010; bytes = info_bytes } ∷ []

abbrev pub image : List Span
image = record { start = 0x70d0; bytes = stack } ∷ record { start = 0x500000; bytes = three.frames } ∷ record { start = 0x502000; bytes = three.languages } ∷ record { start = 0x503000; bytes = three.cell } ∷
    record { start = 0x600000; bytes = tabled_bytes } ∷ record { start = 0x100001800; bytes = language_bytes } ∷ pe_regions

-- ---- the functions

abbrev pub macho_sites : List Site
macho_sites = record { range = record { from = 0x100001008; to = 0x100001018 }; action = Catch 0x100001020 } ∷ []

abbrev pub macho_function : Function
macho_function = record { start = 0x100001000; end = 0x100002000; prologue = []; bodies = record { from = 0x100001000; to = 0x100002000 } ∷ []; sites = Some macho_sites; outermost = false }

abbrev pub handled_record : RuntimeFunction
handled_record = record { begin_address = 0x1000; end_address = 0x1100; unwind_info_address = 0x2010 }

abbrev pub handled_info : Info
handled_info = record { header = header 0x09 0x00 0x00 0x00; slots = []; after = handler_address ++ language_bytes }

abbrev pub handler : Handler
handler = record { begin = 0x1000; handler_address = 0x2800; data_rva = 0x2018 }

abbrev pub pe_sites : List Site
pe_sites = record { range = record { from = 0x140001008; to = 0x140001018 }; action = Catch 0x140001020 } ∷ []

abbrev pub pe_function : Function
pe_function = record { start = 0x140001000; end = 0x140001100; prologue = []; bodies = record { from = 0x140001000; to = 0x140001100 } ∷ []; sites = Some pe_sites; outermost = false }

abbrev pub functions : List Function
functions = pe_function ∷ macho_function ∷ three.functions

-- ---- the Mach-O function was called by the PE function, and that by the third of the ELF functions

abbrev pub in_pe : State
in_pe = record { ra = 0x140001010; sp = 0x70d8; rbx = 0x22; rbp = 0xc; r12 = 0; r13 = 0; r14 = 0x2e; r15 = 0 }

abbrev pub in_macho : State
in_macho = record in_pe { ra = 0x100001010; sp = 0x70d0 }

abbrev pub calls_from_pe : List Call
calls_from_pe = record { callee = pe_function; caller = three.third 0x401060 } ∷ record { callee = three.fc; caller = three.last } ∷ []

abbrev pub calls_from_macho : List Call
calls_from_macho = record { callee = macho_function; caller = in_pe } ∷ calls_from_pe

-- each handler takes an exception that comes to it first
abbrev pub caught_at : State → ℕ → Delivery
caught_at s pad = record { visited = s ∷ []; trail = []; landing = Some (record { state = record s { ra = pad }; rax = three.exception; rdx = 0 }); outcome = Installed }
