-- A function that stores R12 into its frame, called by one that sets RBP as its frame pointer and has lowered its stack
-- pointer since. A stack of a call of it.
use Rattle.std.specs.Prelude.{ℕ, ◌-◌, ◌^◌, false, List, [], ◌∷◌, Some, None}
use Rattle.memory_image.specs.Image.{Span}
use Rattle.unwind_definitions.specs.Input.{Input}
use Rattle.unwind_definitions.specs.Pointers.{Bases}
use Rattle.unwind_definitions.specs.Instructions.{Instruction, Nop, Advance, Write, Cfa, CfaColumn, CfaOffset, Offset}
use Rattle.unwind_definitions.specs.Entries.{Cie, Fde, Entry, ACie, AFde}
use Rattle.unwind_definitions.specs.Row.{RowInstructions}
use Rattle.unwind_definitions.specs.State.{State, RBX, RBP, R12}
use Rattle.unwind_definitions.specs.Prologue.{Followed, Push, Allocate, SetFrame, Store}
use Rattle.unwind_definitions.specs.Function.{Function}
use Rattle.unwind_definitions.specs.Module.{Module, Process, Frames, bases_of}
use Rattle.unwind_definitions.specs.Chain.{Call}
use Rattle.unwind_definitions.specs.Columns as column
use Rattle.unwind_definitions.specs.Delivery.{Delivery, EndOfStack}
use Rattle.unwind_definitions.specs.PointerEncodings.{pcrel_sdata4}

abbrev pub frames : List ℕ
frames = 0x14 ∷ 0x00 ∷ 0x00 ∷ 0x00 ∷ 0x00 ∷ 0x00 ∷ 0x00 ∷ 0x00 ∷ 0x01 ∷ 0x7a ∷ 0x52 ∷ 0x00 ∷ 0x01 ∷ 0x78 ∷ 0x10 ∷ 0x01 ∷ 0x1b ∷ 0x0c ∷ 0x07 ∷ 0x08 ∷ 0x90 ∷ 0x01 ∷ 0x00 ∷ 0x00 ∷
    0x14 ∷ 0x00 ∷ 0x00 ∷ 0x00 ∷ 0x1c ∷ 0x00 ∷ 0x00 ∷ 0x00 ∷ 0xe0 ∷ 0x0f ∷ 0xf0 ∷ 0xff ∷ 0x20 ∷ 0x00 ∷ 0x00 ∷ 0x00 ∷ 0x00 ∷ 0x44 ∷ 0x0e ∷ 0x20 ∷ 0x45 ∷ 0x8c ∷ 0x03 ∷ 0x00 ∷
    0x1c ∷ 0x00 ∷ 0x00 ∷ 0x00 ∷ 0x34 ∷ 0x00 ∷ 0x00 ∷ 0x00 ∷ 0xe8 ∷ 0x0f ∷ 0xf0 ∷ 0xff ∷ 0x20 ∷ 0x00 ∷ 0x00 ∷ 0x00 ∷ 0x00 ∷ 0x41 ∷ 0x0e ∷ 0x10 ∷ 0x86 ∷ 0x02 ∷ 0x43 ∷ 0x0d ∷
    0x06 ∷ 0x45 ∷ 0x83 ∷ 0x03 ∷ 0x00 ∷ 0x00 ∷ 0x00 ∷ 0x00 ∷ 0x00 ∷ 0x00 ∷ 0x00 ∷ 0x00 ∷ []

-- The callee's room, with R12 in its middle word, and where it returns to; then a word that the caller took in its body, the
-- RBX and RBP that it pushed, and where it returns to.
abbrev pub stack : List ℕ
stack = 0x00 ∷ 0x00 ∷ 0x00 ∷ 0x00 ∷ 0x00 ∷ 0x00 ∷ 0x00 ∷ 0x00 ∷ 0x0c ∷ 0x00 ∷ 0x00 ∷ 0x00 ∷ 0x00 ∷ 0x00 ∷ 0x00 ∷ 0x00 ∷
    0x00 ∷ 0x00 ∷ 0x00 ∷ 0x00 ∷ 0x00 ∷ 0x00 ∷ 0x00 ∷ 0x00 ∷ 0x30 ∷ 0x10 ∷ 0x40 ∷ 0x00 ∷ 0x00 ∷ 0x00 ∷ 0x00 ∷ 0x00 ∷
    0x00 ∷ 0x00 ∷ 0x00 ∷ 0x00 ∷ 0x00 ∷ 0x00 ∷ 0x00 ∷ 0x00 ∷ 0x03 ∷ 0x00 ∷ 0x00 ∷ 0x00 ∷ 0x00 ∷ 0x00 ∷ 0x00 ∷ 0x00 ∷
    0x06 ∷ 0x00 ∷ 0x00 ∷ 0x00 ∷ 0x00 ∷ 0x00 ∷ 0x00 ∷ 0x00 ∷ 0x00 ∷ 0x00 ∷ 0x00 ∷ 0x00 ∷ 0x00 ∷ 0x00 ∷ 0x00 ∷ 0x00 ∷ []

abbrev pub image : List Span
image = record { start = 0x7000; bytes = stack } ∷ record { start = 0x500000; bytes = frames } ∷ []

abbrev pub table : Input
table = record { base = 0x500000; offset = 0; bytes = frames }

abbrev pub module_of_them : Module
module_of_them = record { start = 0x401000; end = 0x401040; text = None; tables = Frames 0x500000 }

abbrev pub bases : Bases
bases = bases_of module_of_them 0x500000

abbrev pub cie : Cie
cie = record {
  offset = 0;
  version = 1;
  code_factor = 1;
  data_factor = 2 ^ 64 - 8;
  return_column = 16;
  augmentation = 0x7a ∷ 0x52 ∷ [];
  letters = record { language = None; personality = None; address = Some pcrel_sdata4; signal = false };
  program = record { base = 0x500000; offset = 17; bytes = 0x0c ∷ 7 ∷ 8 ∷ 0x90 ∷ 1 ∷ 0 ∷ 0 ∷ [] };
}

abbrev pub storing_fde : Fde
storing_fde = record { offset = 24; cie = cie; start = 0x401000; size = 0x20; language = None; program = record { base = 0x500000; offset = 41; bytes = 0x44 ∷ 0x0e ∷ 0x20 ∷ 0x45 ∷ 0x8c ∷ 0x03 ∷ 0x00 ∷ [] } }

abbrev pub framed_fde : Fde
framed_fde = record {
  offset = 48;
  cie = cie;
  start = 0x401020;
  size = 0x20;
  language = None;
  program = record { base = 0x500000; offset = 65; bytes = 0x41 ∷ 0x0e ∷ 0x10 ∷ 0x86 ∷ 0x02 ∷ 0x43 ∷ 0x0d ∷ 0x06 ∷ 0x45 ∷ 0x83 ∷ 0x03 ∷ 0x00 ∷ 0x00 ∷ 0x00 ∷ 0x00 ∷ [] };
}

abbrev pub entries : List Entry
entries = ACie cie ∷ AFde storing_fde ∷ AFde framed_fde ∷ []

abbrev pub common : List Instruction
common = Cfa column.rsp 8 ∷ Write column.ra (Offset (2 ^ 64 - 8)) ∷ Nop ∷ Nop ∷ []

abbrev pub run_of : List Instruction → RowInstructions
run_of own = record { common = common; own = own }

-- the first program up to each address where it has another row
abbrev pub allocated : List Instruction
allocated = Advance 4 ∷ CfaOffset 32 ∷ []

abbrev pub in_storing : List Instruction
in_storing = Advance 4 ∷ CfaOffset 32 ∷ Advance 5 ∷ Write column.r12 (Offset (2 ^ 64 - 24)) ∷ Nop ∷ []

-- the second one
abbrev pub pushed : List Instruction
pushed = Advance 1 ∷ CfaOffset 16 ∷ Write column.rbp (Offset (2 ^ 64 - 16)) ∷ []

abbrev pub set : List Instruction
set = Advance 1 ∷ CfaOffset 16 ∷ Write column.rbp (Offset (2 ^ 64 - 16)) ∷ Advance 3 ∷ CfaColumn column.rbp ∷ []

abbrev pub in_framed : List Instruction
in_framed = Advance 1 ∷ CfaOffset 16 ∷ Write column.rbp (Offset (2 ^ 64 - 16)) ∷ Advance 3 ∷ CfaColumn column.rbp ∷ Advance 5 ∷ Write column.rbx (Offset (2 ^ 64 - 24)) ∷ Nop ∷ Nop ∷ Nop ∷ Nop ∷ []

-- allocates 24, and stores R12 8 above its stack pointer
abbrev pub storing : Function
storing = record { start = 0x401000; end = 0x401020; prologue = record { step = Allocate 24; end = 4 } ∷ record { step = Store (Followed R12) 8; end = 9 } ∷ []; bodies = record { from = 0x401009; to = 0x401020 } ∷ []; sites = None; outermost = false }

-- pushes RBP, sets it, and pushes RBX; before its body it takes 8 more, of which no step tells
abbrev pub framed : Function
framed = record {
  start = 0x401020;
  end = 0x401040;
  prologue = record { step = Push (Followed RBP); end = 1 } ∷ record { step = SetFrame 0; end = 4 } ∷ record { step = Push (Followed RBX); end = 5 } ∷ [];
  bodies = record { from = 0x401029; to = 0x401040 } ∷ [];
  sites = None;
  outermost = false;
}

abbrev pub functions : List Function
functions = storing ∷ framed ∷ []

abbrev pub process : Process
process = record { image = image; modules = module_of_them ∷ [] }

abbrev pub state : (ra sp rbx rbp r12 : ℕ) → State
state ra sp rbx rbp r12 = record { ra = ra; sp = sp; rbx = rbx; rbp = rbp; r12 = r12; r13 = 0; r14 = 0; r15 = 0 }

abbrev pub start : State
start = state 0x401010 0x7000 9 0x7030 0x2c

-- its prologue left the stack pointer at 0x7028
abbrev pub caller : State
caller = state 0x401030 0x7020 9 0x7030 12

abbrev pub last : State
last = state 0 0x7040 3 6 12

abbrev pub calls : List Call
calls = record { callee = storing; caller = caller } ∷ record { callee = framed; caller = last } ∷ []

abbrev pub delivery : Delivery
delivery = record { visited = start ∷ caller ∷ last ∷ []; trail = []; landing = None; outcome = EndOfStack }
