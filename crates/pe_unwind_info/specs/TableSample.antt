-- A function table of two functions, with unused code between them.
use Rattle.std.specs.Prelude.{List, [], ◌∷◌}
use Rattle.pe_unwind_info.specs.declared.x86_64.function_table.RuntimeFunction.{RuntimeFunction}

abbrev pub first : RuntimeFunction
first = record { begin_address = 0x1000; end_address = 0x1010; unwind_info_address = 0x3000 }

abbrev pub second : RuntimeFunction
second = record { begin_address = 0x1020; end_address = 0x1040; unwind_info_address = 0x3004 }

abbrev pub functions : List RuntimeFunction
functions = first ∷ second ∷ []
