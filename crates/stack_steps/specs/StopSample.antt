-- A function with a step of each kind, its frame table, and states that were stopped after each of its steps and in its body.
use Rattle.std.specs.Prelude.{ℕ, ◌-◌, ◌^◌, false, List, [], ◌∷◌, None}
use Rattle.memory_image.specs.Image.{Span}
use Rattle.unwind_definitions.specs.Instructions.{Instruction, Nop, Advance, Write, CfaColumn, CfaOffset, Offset}
use Rattle.unwind_definitions.specs.Entries.{Fde, Entry, ACie, AFde}
use Rattle.unwind_definitions.specs.State.{State, RBX, RBP, R12}
use Rattle.unwind_definitions.specs.Prologue.{Followed, Push, Allocate, SetFrame, Store}
use Rattle.unwind_definitions.specs.Function.{Function}
use Rattle.unwind_definitions.specs.Module.{Module, Frames}
use Rattle.unwind_definitions.specs.Chain.{Call}
use Rattle.unwind_definitions.specs.Columns as column
use Rattle.unwind_laws.specs.Pushing as pushing
use Rattle.unwind_laws.specs.Storing.{cie, state}
use Rattle.unwind_arch.specs.declared.x86_64.Context.{Context}
use Rattle.format_definitions.specs.Modules.{FormatModule}
use Rattle.format_definitions.specs.Modules as formats
use Rattle.fde_finders.specs.declared.custom.FrameInfoKind.TheVariants.{EhFrame}
use Rattle.stack_steps.specs.declared.space.ModuleTables.TheVariants.{Elf}
use Rattle.stack_steps.specs.Modules.{SpaceValue, without_index}
use Rattle.stack_steps.specs.declared.space.Module.{Module as LoadedModule}

abbrev pub frames : List ℕ
frames = 0x14 ∷ 0x00 ∷ 0x00 ∷ 0x00 ∷ 0x00 ∷ 0x00 ∷ 0x00 ∷ 0x00 ∷ 0x01 ∷ 0x7a ∷ 0x52 ∷ 0x00 ∷ 0x01 ∷ 0x78 ∷ 0x10 ∷ 0x01 ∷ 0x1b ∷ 0x0c ∷ 0x07 ∷ 0x08 ∷ 0x90 ∷ 0x01 ∷ 0x00 ∷ 0x00 ∷
    0x1c ∷ 0x00 ∷ 0x00 ∷ 0x00 ∷ 0x1c ∷ 0x00 ∷ 0x00 ∷ 0x00 ∷ 0xe0 ∷ 0x0f ∷ 0xf0 ∷ 0xff ∷ 0x20 ∷ 0x00 ∷ 0x00 ∷ 0x00 ∷ 0x00 ∷ 0x41 ∷ 0x0e ∷ 0x10 ∷ 0x86 ∷ 0x02 ∷ 0x43 ∷ 0x0d ∷
    0x06 ∷ 0x4e ∷ 0x83 ∷ 0x03 ∷ 0x8c ∷ 0x05 ∷ 0x00 ∷ 0x00 ∷ 0x00 ∷ 0x00 ∷ 0x00 ∷ 0x00 ∷ []

-- the function's room, with R12 in its middle word, the RBX and RBP that it pushed, and where it returns to
abbrev pub stack : List ℕ
stack = 0x00 ∷ 0x00 ∷ 0x00 ∷ 0x00 ∷ 0x00 ∷ 0x00 ∷ 0x00 ∷ 0x00 ∷ 0x12 ∷ 0x0c ∷ 0x00 ∷ 0x00 ∷ 0x00 ∷ 0x00 ∷ 0x00 ∷ 0x00 ∷
    0x00 ∷ 0x00 ∷ 0x00 ∷ 0x00 ∷ 0x00 ∷ 0x00 ∷ 0x00 ∷ 0x00 ∷ 0x03 ∷ 0x00 ∷ 0x00 ∷ 0x00 ∷ 0x00 ∷ 0x00 ∷ 0x00 ∷ 0x00 ∷
    0x06 ∷ 0x00 ∷ 0x00 ∷ 0x00 ∷ 0x00 ∷ 0x00 ∷ 0x00 ∷ 0x00 ∷ 0x05 ∷ 0x00 ∷ 0x00 ∷ 0x00 ∷ 0x00 ∷ 0x00 ∷ 0x00 ∷ 0x00 ∷ []

abbrev pub image : List Span
image = record { start = 0x7000; bytes = stack } ∷ record { start = 0x500000; bytes = frames } ∷ []

abbrev pub home : Module
home = record { start = 0x401000; end = 0x401020; text = None; tables = Frames 0x500000 }

abbrev pub modules : List FormatModule
modules = formats.Elf home ∷ []

abbrev pub fde : Fde
fde = record {
  offset = 24;
  cie = cie;
  start = 0x401000;
  size = 0x20;
  language = None;
  program = record { base = 0x500000; offset = 41; bytes = 0x41 ∷ 0x0e ∷ 0x10 ∷ 0x86 ∷ 0x02 ∷ 0x43 ∷ 0x0d ∷ 0x06 ∷ 0x4e ∷ 0x83 ∷ 0x03 ∷ 0x8c ∷ 0x05 ∷ 0x00 ∷ 0x00 ∷ [] };
}

abbrev pub entries : List Entry
entries = ACie cie ∷ AFde fde ∷ []

-- the description's program up to the body, whose rules for RBX and R12 come late, all at its start
abbrev pub in_body_run : List Instruction
in_body_run = Advance 1 ∷ CfaOffset 16 ∷ Write column.rbp (Offset (2 ^ 64 - 16)) ∷ Advance 3 ∷ CfaColumn column.rbp ∷ Advance 14 ∷ Write column.rbx (Offset (2 ^ 64 - 24)) ∷ Write column.r12 (Offset (2 ^ 64 - 40)) ∷ Nop ∷ Nop ∷ []

-- pushes RBP, sets it, pushes RBX, allocates 24, and stores R12 8 above its stack pointer; its body begins later
abbrev pub function : Function
function = record {
  start = 0x401000;
  end = 0x401020;
  prologue = record { step = Push (Followed RBP); end = 1 } ∷ record { step = SetFrame 0; end = 4 } ∷ record { step = Push (Followed RBX); end = 5 } ∷ record { step = Allocate 24; end = 9 } ∷ record { step = Store (Followed R12) 8; end = 14 } ∷ [];
  bodies = record { from = 0x401012; to = 0x401020 } ∷ [];
  sites = None;
  outermost = false;
}

abbrev pub call : Call
call = record { callee = function; caller = state 5 0x7030 3 6 0xc12 }

-- stopped before the first step, and after each of them
abbrev pub before_steps : State
before_steps = state 0x401000 0x7028 3 6 0xc12

abbrev pub after_push : State
after_push = state 0x401001 0x7020 3 6 0xc12

abbrev pub after_set : State
after_set = state 0x401004 0x7020 3 0x7020 0xc12

abbrev pub after_late_push : State
after_late_push = state 0x401005 0x7018 3 0x7020 0xc12

abbrev pub after_allocation : State
after_allocation = state 0x401009 0x7000 3 0x7020 0xc12

abbrev pub after_store : State
after_store = state 0x401010 0x7000 3 0x7020 0xc12

-- and in its body, where other values are in the saved registers, and the stack pointer is lower
abbrev pub in_body_of_it : State
in_body_of_it = state 0x401012 0x6ff0 1 0x7020 2

-- ---- a function that pushes RBX, stopped before it does and in its body

abbrev pub pushing_module : LoadedModule
pushing_module = record { start = 0x401000; end = 0x401010; tables = Elf (record { text_base = None; kind = EhFrame 0x500000 }) }

abbrev pub pushing_space : SpaceValue
pushing_space = record { image = pushing.image; modules = pushing_module ∷ []; added = without_index pushing_module ∷ [] }

-- RBX is 9, and RSP 0x7000
abbrev pub stopped_at : ℕ → Context
stopped_at ra = record { registers = 0 ∷ 0 ∷ 0 ∷ 9 ∷ 0 ∷ 0 ∷ 0 ∷ 0x7000 ∷ 0 ∷ 0 ∷ 0 ∷ 0 ∷ 0 ∷ 0 ∷ 0 ∷ 0 ∷ []; ra = ra; mcxsr = 0; fcw = 0 }

-- before the push the word at the stack pointer is the return address
abbrev pub before_push : Call
before_push = record { callee = pushing.function; caller = pushing.state 5 0x7008 9 }

abbrev pub after_the_push : Call
after_the_push = record { callee = pushing.function; caller = pushing.caller }
