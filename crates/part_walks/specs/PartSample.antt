-- A thread that was stopped in a function that pushes RBX: its stack, the window of it that the thread's walk reads, and the table of
-- its program.
use Rattle.std.specs.Prelude.{List, [], ◌∷◌}
use Rattle.memory_image.specs.Image.{Span}
use Rattle.unwind_laws.specs.Pushing as pushing
use Rattle.unwind_arch.specs.declared.x86_64.Context.{Context}
use Rattle.stack_steps.specs.Growing.{over_image}
use Rattle.stack_steps.specs.Modules.{SpaceValue}
use Rattle.stack_steps.specs.StopSample.{pushing_module, pushing_space, stopped_at}
use Rattle.mapped_modules.specs.Loading.{LoadedValue}

-- the frame table of the function
abbrev pub table : Span
table = record { start = 0x500000; bytes = pushing.frames }

abbrev pub tables : List Span
tables = table ∷ []

-- the stack, with a word before what is read and one after it
abbrev pub stack : Span
stack = record {
  start = 0x6ff8;
  bytes = 0x07 ∷ 0x00 ∷ 0x00 ∷ 0x00 ∷ 0x00 ∷ 0x00 ∷ 0x00 ∷ 0x00 ∷ 0x05 ∷ 0x00 ∷ 0x00 ∷ 0x00 ∷ 0x00 ∷ 0x00 ∷ 0x00 ∷ 0x00 ∷
      0x00 ∷ 0x00 ∷ 0x00 ∷ 0x00 ∷ 0x00 ∷ 0x00 ∷ 0x00 ∷ 0x00 ∷ 0x08 ∷ 0x00 ∷ 0x00 ∷ 0x00 ∷ 0x00 ∷ 0x00 ∷ 0x00 ∷ 0x00 ∷ [];
}

-- from the stack pointer on the RBX that was pushed, and a return address of 0
abbrev pub window : Span
window = record { start = 0x7000; bytes = pushing.stack }

abbrev pub part : List Span
part = window ∷ tables

abbrev pub whole : List Span
whole = stack ∷ tables

-- where it was stopped, and the state outside of that
abbrev pub start : Context
start = stopped_at 0x401006

abbrev pub outside : Context
outside = record { registers = 0 ∷ 0 ∷ 0 ∷ 5 ∷ 0 ∷ 0 ∷ 0 ∷ 0x7010 ∷ 0 ∷ 0 ∷ 0 ∷ 0 ∷ 0 ∷ 0 ∷ 0 ∷ 0 ∷ []; ra = 0; mcxsr = 0; fcw = 0 }

abbrev pub space_of_part : SpaceValue
space_of_part = over_image pushing_space part

-- the same as a core's threads are walked
abbrev pub loaded : List LoadedValue
loaded = record { code = pushing_module; table = table } ∷ []
