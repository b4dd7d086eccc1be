-- A function whose save records come late, and which has an epilogue in its midst; the outermost function that calls it; and a
-- description of other code that can't be run. A stack of a call of it.
use Rattle.std.specs.Prelude.{ℕ, ◌-◌, ◌^◌, true, false, List, [], ◌∷◌, Some, None}
use Rattle.memory_image.specs.Image.{Span}
use Rattle.unwind_definitions.specs.Input.{Input}
use Rattle.unwind_definitions.specs.Pointers.{Bases}
use Rattle.unwind_definitions.specs.Instructions.{Instruction, Nop, Remember, Restore, Advance, Write, Cfa, CfaOffset, Offset, Undefined}
use Rattle.unwind_definitions.specs.Entries.{Cie, Fde, Entry, ACie, AFde}
use Rattle.unwind_definitions.specs.Row.{RowInstructions}
use Rattle.unwind_definitions.specs.State.{State, RBX, R14}
use Rattle.unwind_definitions.specs.Prologue.{Followed, Push, Allocate, PrologueStep}
use Rattle.unwind_definitions.specs.Function.{Function}
use Rattle.unwind_definitions.specs.Module.{Module, Process, Frames, bases_of}
use Rattle.unwind_definitions.specs.Chain.{Call}
use Rattle.unwind_definitions.specs.Columns as column
use Rattle.unwind_definitions.specs.Delivery.{Delivery, EndOfStack}
use Rattle.unwind_definitions.specs.PointerEncodings.{pcrel_sdata4}

abbrev pub frames : List ℕ
frames = 0x14 ∷ 0x00 ∷ 0x00 ∷ 0x00 ∷ 0x00 ∷ 0x00 ∷ 0x00 ∷ 0x00 ∷ 0x01 ∷ 0x7a ∷ 0x52 ∷ 0x00 ∷ 0x01 ∷ 0x78 ∷ 0x10 ∷ 0x01 ∷ 0x1b ∷ 0x0c ∷ 0x07 ∷ 0x08 ∷ 0x90 ∷ 0x01 ∷ 0x00 ∷ 0x00 ∷
    0x28 ∷ 0x00 ∷ 0x00 ∷ 0x00 ∷ 0x1c ∷ 0x00 ∷ 0x00 ∷ 0x00 ∷ 0xe0 ∷ 0x1f ∷ 0xf0 ∷ 0xff ∷ 0x40 ∷ 0x00 ∷ 0x00 ∷ 0x00 ∷ 0x00 ∷ 0x42 ∷ 0x0e ∷ 0x10 ∷ 0x41 ∷ 0x0e ∷ 0x18 ∷ 0x44 ∷
    0x0e ∷ 0x20 ∷ 0x83 ∷ 0x03 ∷ 0x8e ∷ 0x02 ∷ 0x59 ∷ 0x0a ∷ 0x44 ∷ 0x0e ∷ 0x18 ∷ 0x41 ∷ 0x0e ∷ 0x10 ∷ 0x42 ∷ 0x0e ∷ 0x08 ∷ 0x41 ∷ 0x0b ∷ 0x00 ∷
    0x10 ∷ 0x00 ∷ 0x00 ∷ 0x00 ∷ 0x48 ∷ 0x00 ∷ 0x00 ∷ 0x00 ∷ 0xf4 ∷ 0x1f ∷ 0xf0 ∷ 0xff ∷ 0x10 ∷ 0x00 ∷ 0x00 ∷ 0x00 ∷ 0x00 ∷ 0x07 ∷ 0x10 ∷ 0x00 ∷
    0x10 ∷ 0x00 ∷ 0x00 ∷ 0x00 ∷ 0x5c ∷ 0x00 ∷ 0x00 ∷ 0x00 ∷ 0xa0 ∷ 0x2f ∷ 0xf0 ∷ 0xff ∷ 0x10 ∷ 0x00 ∷ 0x00 ∷ 0x00 ∷ 0x00 ∷ 0x3f ∷ 0x00 ∷ 0x00 ∷
    0x00 ∷ 0x00 ∷ 0x00 ∷ 0x00 ∷ []

-- the callee's room, the registers that it pushed, and where it returns to; nothing is mapped above
abbrev pub stack : List ℕ
stack = 0x00 ∷ 0x00 ∷ 0x00 ∷ 0x00 ∷ 0x00 ∷ 0x00 ∷ 0x00 ∷ 0x00 ∷ 0x11 ∷ 0x00 ∷ 0x00 ∷ 0x00 ∷ 0x00 ∷ 0x00 ∷ 0x00 ∷ 0x00 ∷
    0x22 ∷ 0x00 ∷ 0x00 ∷ 0x00 ∷ 0x00 ∷ 0x00 ∷ 0x00 ∷ 0x00 ∷ 0x45 ∷ 0x20 ∷ 0x40 ∷ 0x00 ∷ 0x00 ∷ 0x00 ∷ 0x00 ∷ 0x00 ∷ []

abbrev pub image : List Span
image = record { start = 0x7000; bytes = stack } ∷ record { start = 0x500000; bytes = frames } ∷ []

abbrev pub table : Input
table = record { base = 0x500000; offset = 0; bytes = frames }

abbrev pub module_of_them : Module
module_of_them = record { start = 0x402000; end = 0x402050; text = None; tables = Frames 0x500000 }

abbrev pub bases : Bases
bases = bases_of module_of_them 0x500000

abbrev pub cie : Cie
cie = record {
  offset = 0;
  version = 1;
  code_factor = 1;
  data_factor = 2 ^ 64 - 8;
  return_column = 16;
  augmentation = 0x7a ∷ 0x52 ∷ [];
  letters = record { language = None; personality = None; address = Some pcrel_sdata4; signal = false };
  program = record { base = 0x500000; offset = 17; bytes = 0x0c ∷ 7 ∷ 8 ∷ 0x90 ∷ 1 ∷ 0 ∷ 0 ∷ [] };
}

abbrev pub callee_fde : Fde
callee_fde = record {
  offset = 24;
  cie = cie;
  start = 0x402000;
  size = 0x40;
  language = None;
  program = record {
    base = 0x500000;
    offset = 41;
    bytes = 0x42 ∷ 0x0e ∷ 0x10 ∷ 0x41 ∷ 0x0e ∷ 0x18 ∷ 0x44 ∷ 0x0e ∷ 0x20 ∷ 0x83 ∷ 0x03 ∷ 0x8e ∷ 0x02 ∷ 0x59 ∷ 0x0a ∷ 0x44 ∷ 0x0e ∷ 0x18 ∷ 0x41 ∷ 0x0e ∷ 0x10 ∷ 0x42 ∷ 0x0e ∷ 0x08 ∷ 0x41 ∷ 0x0b ∷ 0x00 ∷ [];
  };
}

abbrev pub outermost_fde : Fde
outermost_fde = record { offset = 68; cie = cie; start = 0x402040; size = 0x10; language = None; program = record { base = 0x500000; offset = 85; bytes = 0x07 ∷ 0x10 ∷ 0x00 ∷ [] } }

abbrev pub foreign_fde : Fde
foreign_fde = record { offset = 88; cie = cie; start = 0x403000; size = 0x10; language = None; program = record { base = 0x500000; offset = 105; bytes = 0x3f ∷ 0x00 ∷ 0x00 ∷ [] } }

abbrev pub entries : List Entry
entries = ACie cie ∷ AFde callee_fde ∷ AFde outermost_fde ∷ AFde foreign_fde ∷ []

abbrev pub common : List Instruction
common = Cfa column.rsp 8 ∷ Write column.ra (Offset (2 ^ 64 - 8)) ∷ Nop ∷ Nop ∷ []

abbrev pub run_of : List Instruction → RowInstructions
run_of own = record { common = common; own = own }

-- the program up to each address where it has another row
abbrev pub pushed_one : List Instruction
pushed_one = Advance 2 ∷ CfaOffset 16 ∷ []

abbrev pub pushed_two : List Instruction
pushed_two = Advance 2 ∷ CfaOffset 16 ∷ Advance 1 ∷ CfaOffset 24 ∷ []

abbrev pub in_first_body : List Instruction
in_first_body = Advance 2 ∷ CfaOffset 16 ∷ Advance 1 ∷ CfaOffset 24 ∷ Advance 4 ∷ CfaOffset 32 ∷ Write column.rbx (Offset (2 ^ 64 - 24)) ∷ Write column.r14 (Offset (2 ^ 64 - 16)) ∷ []

-- after the epilogue what was before it is restored
abbrev pub in_second_body : List Instruction
in_second_body = Advance 2 ∷ CfaOffset 16 ∷ Advance 1 ∷ CfaOffset 24 ∷ Advance 4 ∷ CfaOffset 32 ∷ Write column.rbx (Offset (2 ^ 64 - 24)) ∷ Write column.r14 (Offset (2 ^ 64 - 16)) ∷
    Advance 25 ∷ Remember ∷ Advance 4 ∷ CfaOffset 24 ∷ Advance 1 ∷ CfaOffset 16 ∷ Advance 2 ∷ CfaOffset 8 ∷ Advance 1 ∷ Restore ∷ Nop ∷ []

abbrev pub in_outermost : List Instruction
in_outermost = Write column.ra Undefined ∷ Nop ∷ []

-- pushes R14 and RBX, and allocates 8; its epilogue stands between two parts of its body
abbrev pub callee : Function
callee = record {
  start = 0x402000;
  end = 0x402040;
  prologue = record { step = Push (Followed R14); end = 2 } ∷ record { step = Push (Followed RBX); end = 3 } ∷ record { step = Allocate 8; end = 7 } ∷ [];
  bodies = record { from = 0x402007; to = 0x402020 } ∷ record { from = 0x402028; to = 0x402040 } ∷ [];
  sites = None;
  outermost = false;
}

abbrev pub outermost : Function
outermost = record { start = 0x402040; end = 0x402050; prologue = []; bodies = record { from = 0x402040; to = 0x402050 } ∷ []; sites = None; outermost = true }

abbrev pub functions : List Function
functions = callee ∷ outermost ∷ []

abbrev pub process : Process
process = record { image = image; modules = module_of_them ∷ [] }

abbrev pub state : (ra sp rbx r14 : ℕ) → State
state ra sp rbx r14 = record { ra = ra; sp = sp; rbx = rbx; rbp = 0; r12 = 0; r13 = 0; r14 = r14; r15 = 0 }

abbrev pub start : State
start = state 0x402030 0x7000 1 2

abbrev pub caller : State
caller = state 0x402045 0x7020 0x11 0x22

abbrev pub last : State
last = state 0 0x7028 0x11 0x22

abbrev pub calls : List Call
calls = record { callee = callee; caller = caller } ∷ record { callee = outermost; caller = last } ∷ []

abbrev pub delivery : Delivery
delivery = record { visited = start ∷ caller ∷ last ∷ []; trail = []; landing = None; outcome = EndOfStack }

-- stopped after the two pushes, which the table doesn't yet tell of
abbrev pub interrupted : State
interrupted = state 0x402005 0x7008 0x11 0x22

abbrev pub done : List PrologueStep
done = record { step = Push (Followed R14); end = 2 } ∷ record { step = Push (Followed RBX); end = 3 } ∷ []

abbrev pub later : List PrologueStep
later = record { step = Allocate 8; end = 7 } ∷ []
