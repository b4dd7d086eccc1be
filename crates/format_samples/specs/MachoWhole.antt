-- A Mach-O module with frame data, which describes a function that saves late and the outermost function that calls it; beside
-- them it has a function whose size stands in its code.
use Rattle.std.specs.Prelude.{ℕ, List, [], ◌∷◌, ◌++◌, replicate, Some}
use Rattle.memory_image.specs.Image.{Span}
use Rattle.unwind_definitions.specs.State.{State}
use Rattle.unwind_definitions.specs.Function.{Function}
use Rattle.unwind_laws.specs.Returning as returning
use Rattle.macho_unwind_info.specs.Sample.{le}
use Rattle.format_definitions.specs.CompactStep.{MachoModule}
use Rattle.format_definitions.specs.Modules.{FormatModule, Macho}
use Rattle.format_laws.specs.MachoSamples.{sample_module, frameless_function, framed_function, frameless_state, indirect_function}

abbrev pub module_of_them : MachoModule
module_of_them = record { base = 0x400000; size = 0x4000; unwind_info = 0x600000; frames = Some 0x500000 }

-- version 1, no global opcodes, no personalities, two pages at 0x1c
abbrev pub header_bytes : List ℕ
header_bytes = le 1 0 0 0 ++ (le 0x1c 0 0 0 ++ (le 0 0 0 0 ++ (le 0 0 0 0 ++ (le 0 0 0 0 ++ (le 0x1c 0 0 0 ++ le 2 0 0 0)))))

-- a page at 0x2000, which lies at 0x34, and the sentinel at 0x4000
abbrev pub page_bytes : List ℕ
page_bytes = le 0 0x20 0 0 ++ (le 0x34 0 0 0 ++ (le 0 0 0 0 ++ (le 0 0x40 0 0 ++ (le 0 0 0 0 ++ le 0 0 0 0))))

-- Five entries at 8: two functions whose descriptions stand 0x18 and 0x44 bytes after the frame data's start, the one whose
-- size stands in its code, and after each of these parts code without an opcode.
abbrev pub entry_bytes : List ℕ
entry_bytes =
    le 2 0 0 0 ++ (le 8 0 5 0 ++
    ((le 0 0x20 0 0 ++ le 0x18 0 0 4) ++
    ((le 0x40 0x20 0 0 ++ le 0x44 0 0 4) ++
    ((le 0x50 0x20 0 0 ++ le 0 0 0 0) ++
    ((le 0 0x30 0 0 ++ le 0 0xf8 0x0d 3) ++
    (le 0x20 0x30 0 0 ++ le 0 0 0 0))))))

abbrev pub section_bytes : List ℕ
section_bytes = header_bytes ++ (page_bytes ++ entry_bytes)

abbrev pub image : List Span
image = record { start = 0x7000; bytes = returning.stack } ∷
    record { start = 0x403000; bytes = 0x55 ∷ 0x41 ∷ 0x57 ∷ 0x41 ∷ 0x56 ∷ 0x41 ∷ 0x55 ∷ 0x41 ∷ 0x54 ∷ 0x53 ∷ 0x48 ∷ 0x81 ∷ 0xec ∷ 0x00 ∷ 0x10 ∷ 0x00 ∷ 0x00 ∷ replicate 15 0x90 } ∷
    record { start = 0x500000; bytes = returning.frames } ∷
    record { start = 0x600000; bytes = section_bytes } ∷ []

abbrev pub indirect : Function
indirect = record indirect_function { start = 0x403000; end = 0x403020; bodies = record { from = 0x403011; to = 0x403020 } ∷ [] }

abbrev pub functions : List Function
functions = returning.callee ∷ returning.outermost ∷ indirect ∷ []

abbrev pub modules : List FormatModule
modules = Macho module_of_them ∷ []

-- ---- the end of a stack, in the module without frame data

abbrev pub ending_modules : List FormatModule
ending_modules = Macho sample_module ∷ []

abbrev pub ending_functions : List Function
ending_functions = frameless_function ∷ framed_function ∷ []

-- a return address past all functions of the module, and inside of it
abbrev pub past_the_last : State
past_the_last = record frameless_state { ra = 0x100003001 }
