-- One function, which pushes RBX, its frame table, and stacks of one and of three calls of it.
use Rattle.std.specs.Prelude.{ℕ, ◌-◌, ◌^◌, false, List, [], ◌∷◌, Some, None}
use Rattle.memory_image.specs.Image.{Span}
use Rattle.unwind_definitions.specs.Input.{Input}
use Rattle.unwind_definitions.specs.Pointers.{Bases}
use Rattle.unwind_definitions.specs.Instructions.{Instruction, Rule, Nop, Advance, Write, Cfa, CfaOffset, Offset}
use Rattle.unwind_definitions.specs.Entries.{Cie, Fde, Entry, ACie, AFde}
use Rattle.unwind_definitions.specs.Row.{RowInstructions}
use Rattle.unwind_definitions.specs.State.{State, RBX}
use Rattle.unwind_definitions.specs.Prologue.{Followed, Push}
use Rattle.unwind_definitions.specs.Function.{Function}
use Rattle.unwind_definitions.specs.Module.{Module, Process, Frames, bases_of}
use Rattle.unwind_definitions.specs.Chain.{Call}
use Rattle.unwind_definitions.specs.Columns as column
use Rattle.unwind_definitions.specs.Delivery.{Delivery, EndOfStack}
use Rattle.unwind_definitions.specs.PointerEncodings.{pcrel_sdata4}

abbrev pub frames : List ℕ
frames = 0x14 ∷ 0x00 ∷ 0x00 ∷ 0x00 ∷ 0x00 ∷ 0x00 ∷ 0x00 ∷ 0x00 ∷ 0x01 ∷ 0x7a ∷ 0x52 ∷ 0x00 ∷ 0x01 ∷ 0x78 ∷ 0x10 ∷ 0x01 ∷ 0x1b ∷ 0x0c ∷ 0x07 ∷ 0x08 ∷ 0x90 ∷ 0x01 ∷ 0x00 ∷ 0x00 ∷
    0x14 ∷ 0x00 ∷ 0x00 ∷ 0x00 ∷ 0x1c ∷ 0x00 ∷ 0x00 ∷ 0x00 ∷ 0xe0 ∷ 0x0f ∷ 0xf0 ∷ 0xff ∷ 0x10 ∷ 0x00 ∷ 0x00 ∷ 0x00 ∷ 0x00 ∷ 0x41 ∷ 0x0e ∷ 0x10 ∷ 0x83 ∷ 0x02 ∷ 0x00 ∷ 0x00 ∷
    0x00 ∷ 0x00 ∷ 0x00 ∷ 0x00 ∷ []

-- its frame pushed 5, and returns to 0
abbrev pub stack : List ℕ
stack = 0x05 ∷ 0x00 ∷ 0x00 ∷ 0x00 ∷ 0x00 ∷ 0x00 ∷ 0x00 ∷ 0x00 ∷ 0x00 ∷ 0x00 ∷ 0x00 ∷ 0x00 ∷ 0x00 ∷ 0x00 ∷ 0x00 ∷ 0x00 ∷ []

abbrev pub image : List Span
image = record { start = 0x7000; bytes = stack } ∷ record { start = 0x500000; bytes = frames } ∷ []

abbrev pub table : Input
table = record { base = 0x500000; offset = 0; bytes = frames }

abbrev pub module_of_it : Module
module_of_it = record { start = 0x401000; end = 0x401010; text = None; tables = Frames 0x500000 }

abbrev pub bases : Bases
bases = bases_of module_of_it 0x500000

abbrev pub cie : Cie
cie = record {
  offset = 0;
  version = 1;
  code_factor = 1;
  data_factor = 2 ^ 64 - 8;
  return_column = 16;
  augmentation = 0x7a ∷ 0x52 ∷ [];
  letters = record { language = None; personality = None; address = Some pcrel_sdata4; signal = false };
  program = record { base = 0x500000; offset = 17; bytes = 0x0c ∷ 7 ∷ 8 ∷ 0x90 ∷ 1 ∷ 0 ∷ 0 ∷ [] };
}

abbrev pub fde : Fde
fde = record { offset = 24; cie = cie; start = 0x401000; size = 16; language = None; program = record { base = 0x500000; offset = 41; bytes = 0x41 ∷ 0x0e ∷ 0x10 ∷ 0x83 ∷ 2 ∷ 0 ∷ 0 ∷ [] } }

abbrev pub entries : List Entry
entries = ACie cie ∷ AFde fde ∷ []

-- at each function's start
abbrev pub common : List Instruction
common = Cfa column.rsp 8 ∷ Write column.ra (Offset (2 ^ 64 - 8)) ∷ Nop ∷ Nop ∷ []

abbrev pub start_run : RowInstructions
start_run = record { common = common; own = [] }

abbrev pub body_run : RowInstructions
body_run = record { common = common; own = Advance 1 ∷ CfaOffset 16 ∷ Write column.rbx (Offset (2 ^ 64 - 16)) ∷ Nop ∷ Nop ∷ [] }

-- the rules of that row
abbrev pub body_rules : List (ℕ × Rule)
body_rules = (column.rbx, Offset (2 ^ 64 - 16)) ∷ (column.ra, Offset (2 ^ 64 - 8)) ∷ []

abbrev pub function : Function
function = record { start = 0x401000; end = 0x401010; prologue = record { step = Push (Followed RBX); end = 1 } ∷ []; bodies = record { from = 0x401001; to = 0x401010 } ∷ []; sites = None; outermost = false }

abbrev pub state : (ra sp rbx : ℕ) → State
state ra sp rbx = record { ra = ra; sp = sp; rbx = rbx; rbp = 0; r12 = 0; r13 = 0; r14 = 0; r15 = 0 }

abbrev pub process : Process
process = record { image = image; modules = module_of_it ∷ [] }

abbrev pub start : State
start = state 0x401006 0x7000 9

abbrev pub caller : State
caller = state 0 0x7010 5

abbrev pub calls : List Call
calls = record { callee = function; caller = caller } ∷ []

-- what is printed of it
abbrev pub delivery : Delivery
delivery = record { visited = start ∷ caller ∷ []; trail = []; landing = None; outcome = EndOfStack }

-- ---- the same function, called by itself twice

abbrev pub stack_of_three : List ℕ
stack_of_three = 0x01 ∷ 0x00 ∷ 0x00 ∷ 0x00 ∷ 0x00 ∷ 0x00 ∷ 0x00 ∷ 0x00 ∷ 0x06 ∷ 0x10 ∷ 0x40 ∷ 0x00 ∷ 0x00 ∷ 0x00 ∷ 0x00 ∷ 0x00 ∷
    0x02 ∷ 0x00 ∷ 0x00 ∷ 0x00 ∷ 0x00 ∷ 0x00 ∷ 0x00 ∷ 0x00 ∷ 0x06 ∷ 0x10 ∷ 0x40 ∷ 0x00 ∷ 0x00 ∷ 0x00 ∷ 0x00 ∷ 0x00 ∷
    0x03 ∷ 0x00 ∷ 0x00 ∷ 0x00 ∷ 0x00 ∷ 0x00 ∷ 0x00 ∷ 0x00 ∷ 0x00 ∷ 0x00 ∷ 0x00 ∷ 0x00 ∷ 0x00 ∷ 0x00 ∷ 0x00 ∷ 0x00 ∷ []

abbrev pub image_of_three : List Span
image_of_three = record { start = 0x7000; bytes = stack_of_three } ∷ record { start = 0x500000; bytes = frames } ∷ []

abbrev pub process_of_three : Process
process_of_three = record { image = image_of_three; modules = module_of_it ∷ [] }

abbrev pub calls_of_three : List Call
calls_of_three = record { callee = function; caller = state 0x401006 0x7010 1 } ∷ record { callee = function; caller = state 0x401006 0x7020 2 } ∷ record { callee = function; caller = state 0 0x7030 3 } ∷ []

abbrev pub delivery_of_three : Delivery
delivery_of_three = record { visited = start ∷ state 0x401006 0x7010 1 ∷ state 0x401006 0x7020 2 ∷ state 0 0x7030 3 ∷ []; trail = []; landing = None; outcome = EndOfStack }

-- ---- a stack where the pushed value is another one

abbrev pub other_image : List Span
other_image = record { start = 0x7000; bytes = 0x06 ∷ 0x00 ∷ 0x00 ∷ 0x00 ∷ 0x00 ∷ 0x00 ∷ 0x00 ∷ 0x00 ∷ 0x00 ∷ 0x00 ∷ 0x00 ∷ 0x00 ∷ 0x00 ∷ 0x00 ∷ 0x00 ∷ 0x00 ∷ [] } ∷ record { start = 0x500000; bytes = frames } ∷ []
