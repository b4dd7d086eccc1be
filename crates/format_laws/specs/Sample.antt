-- Calls through modules of three formats: a function of the Mach-O module was called by one of the PE module, and that by the third
-- function of the ELF module.
use Rattle.std.specs.Prelude.{List, [], ◌∷◌, Some}
use Rattle.unwind_definitions.specs.State.{State}
use Rattle.unwind_definitions.specs.Function.{Function}
use Rattle.unwind_definitions.specs.Chain.{Call}
use Rattle.unwind_definitions.specs.Delivery.{Delivery, Installed}
use Rattle.unwind_laws.specs.Three as three
use Rattle.format_definitions.specs.Modules.{FormatModule, Elf, Macho, Pe}
use Rattle.format_laws.specs.MachoSamples.{sample_module, frameless_function, framed_function, frameless_caller}
use Rattle.format_laws.specs.PeSamples.{module_of_one, room_function, leaf_function, room_caller, epilog_function, epilog_caller}

abbrev pub modules : List FormatModule
modules = Elf three.module_of_them ∷ Macho sample_module ∷ Pe module_of_one ∷ []

abbrev pub functions : List Function
functions = room_function ∷ leaf_function ∷ frameless_function ∷ framed_function ∷ three.functions

abbrev pub calls : List Call
calls = record { callee = frameless_function; caller = frameless_caller } ∷ record { callee = room_function; caller = room_caller } ∷ record { callee = three.fc; caller = three.last } ∷ []

-- ---- deeper calls, where the PE function was called by the second of the ELF module, and that by the third, which has a handler

abbrev pub caught_start : State
caught_start = record { ra = 0x100001010; sp = 0x7090; rbx = 0x33; rbp = 0xc; r12 = 0; r13 = 0; r14 = 0x2e; r15 = 0 }

-- in the PE function, in a call, or stopped where it stands
abbrev pub caught_room : State
caught_room = record caught_start { ra = 0x140001050; sp = 0x7098 }

abbrev pub outer_calls : List Call
outer_calls = record { callee = three.fb; caller = three.third 0x401060 } ∷ record { callee = three.fc; caller = three.last } ∷ []

abbrev pub caught_frameless : Call
caught_frameless = record { callee = frameless_function; caller = caught_room }

abbrev pub caught_pushing : Call
caught_pushing = record { callee = room_function; caller = three.second }

abbrev pub caught_calls : List Call
caught_calls = caught_frameless ∷ caught_pushing ∷ outer_calls

-- the second function's cleanup runs, and the third catches
abbrev pub caught_delivery : Delivery
caught_delivery = record {
  visited = caught_start ∷ caught_room ∷ three.second ∷ three.third 0x401060 ∷ [];
  trail = (0x401040, 0x70d0) ∷ [];
  landing = Some (record { state = three.third 0x401070; rax = three.exception; rdx = 0 });
  outcome = Installed;
}

-- stopped in the prologue of the PE function, after its push
abbrev pub pushed_room : State
pushed_room = record { ra = 0x140001001; sp = 0x70c0; rbx = 0x11; rbp = 0xc; r12 = 0; r13 = 0; r14 = 0x2e; r15 = 0 }

-- ---- a call of the function with an epilog in its midst, by nobody

abbrev pub pe_modules : List FormatModule
pe_modules = Pe module_of_one ∷ []

abbrev pub epilog_call : Call
epilog_call = record { callee = epilog_function; caller = epilog_caller }
