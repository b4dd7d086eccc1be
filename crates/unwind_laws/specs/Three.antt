-- Three functions that call one another, two of them with language tables, and a stack.
use Rattle.std.specs.Prelude.{ℕ, ◌-◌, ◌^◌, false, List, [], ◌∷◌, drop, Some, None}
use Rattle.memory_image.specs.Image.{Span}
use Rattle.unwind_definitions.specs.Input.{Input}
use Rattle.unwind_definitions.specs.Pointers.{Direct, Indirect}
use Rattle.unwind_definitions.specs.Header.{PairTable}
use Rattle.unwind_definitions.specs.Entries.{Cie, Fde, Entry, ACie, AFde}
use Rattle.unwind_definitions.specs.State.{State, RBX, RBP, R14}
use Rattle.unwind_definitions.specs.Prologue.{Followed, Push, Allocate, SetFrame}
use Rattle.unwind_definitions.specs.Function.{Function, NoAction, Cleanup, Catch}
use Rattle.unwind_definitions.specs.Module.{Module, Process, Frames, Header}
use Rattle.unwind_definitions.specs.Chain.{Call}
use Rattle.unwind_definitions.specs.Delivery.{Delivery, Installed, EndOfStack, FatalPhase1}
use Rattle.unwind_definitions.specs.PointerEncodings.{pcrel_sdata4, datarel_sdata4, indirect_pcrel_sdata4}

abbrev pub frames : List ℕ
frames = 0x14 ∷ 0x00 ∷ 0x00 ∷ 0x00 ∷ 0x00 ∷ 0x00 ∷ 0x00 ∷ 0x00 ∷ 0x01 ∷ 0x7a ∷ 0x52 ∷ 0x00 ∷ 0x01 ∷ 0x78 ∷ 0x10 ∷ 0x01 ∷ 0x1b ∷ 0x0c ∷ 0x07 ∷ 0x08 ∷ 0x90 ∷ 0x01 ∷ 0x00 ∷ 0x00 ∷
    0x18 ∷ 0x00 ∷ 0x00 ∷ 0x00 ∷ 0x1c ∷ 0x00 ∷ 0x00 ∷ 0x00 ∷ 0xe0 ∷ 0x0f ∷ 0xf0 ∷ 0xff ∷ 0x20 ∷ 0x00 ∷ 0x00 ∷ 0x00 ∷ 0x00 ∷ 0x41 ∷ 0x0e ∷ 0x10 ∷ 0x86 ∷ 0x02 ∷ 0x43 ∷ 0x0d ∷
    0x06 ∷ 0x45 ∷ 0x83 ∷ 0x03 ∷ 0x1c ∷ 0x00 ∷ 0x00 ∷ 0x00 ∷ 0x00 ∷ 0x00 ∷ 0x00 ∷ 0x00 ∷ 0x01 ∷ 0x7a ∷ 0x50 ∷ 0x4c ∷ 0x52 ∷ 0x00 ∷ 0x01 ∷ 0x78 ∷ 0x10 ∷ 0x07 ∷ 0x9b ∷ 0xb9 ∷
    0x2f ∷ 0x00 ∷ 0x00 ∷ 0x1b ∷ 0x1b ∷ 0x0c ∷ 0x07 ∷ 0x08 ∷ 0x90 ∷ 0x01 ∷ 0x00 ∷ 0x00 ∷ 0x18 ∷ 0x00 ∷ 0x00 ∷ 0x00 ∷ 0x24 ∷ 0x00 ∷ 0x00 ∷ 0x00 ∷ 0xc4 ∷ 0x0f ∷ 0xf0 ∷ 0xff ∷
    0x30 ∷ 0x00 ∷ 0x00 ∷ 0x00 ∷ 0x04 ∷ 0x9b ∷ 0x1f ∷ 0x00 ∷ 0x00 ∷ 0x41 ∷ 0x0e ∷ 0x10 ∷ 0x83 ∷ 0x02 ∷ 0x00 ∷ 0x00 ∷ 0x20 ∷ 0x00 ∷ 0x00 ∷ 0x00 ∷ 0x40 ∷ 0x00 ∷ 0x00 ∷ 0x00 ∷
    0xd8 ∷ 0x0f ∷ 0xf0 ∷ 0xff ∷ 0x30 ∷ 0x00 ∷ 0x00 ∷ 0x00 ∷ 0x04 ∷ 0x8b ∷ 0x1f ∷ 0x00 ∷ 0x00 ∷ 0x42 ∷ 0x0e ∷ 0x10 ∷ 0x41 ∷ 0x0e ∷ 0x18 ∷ 0x44 ∷ 0x0e ∷ 0x20 ∷ 0x83 ∷ 0x03 ∷
    0x8e ∷ 0x02 ∷ 0x00 ∷ 0x00 ∷ 0x00 ∷ 0x00 ∷ 0x00 ∷ 0x00 ∷ []

-- the language tables of the second and the third function
abbrev pub languages : List ℕ
languages = 0xff ∷ 0xff ∷ 0x01 ∷ 0x08 ∷ 0x08 ∷ 0x10 ∷ 0x20 ∷ 0x00 ∷ 0x20 ∷ 0x10 ∷ 0x00 ∷ 0x00 ∷ 0xff ∷ 0x9b ∷ 0x0c ∷ 0x01 ∷ 0x04 ∷ 0x08 ∷ 0x10 ∷ 0x20 ∷ 0x01 ∷ 0x01 ∷ 0x00 ∷ 0x00 ∷
    0x00 ∷ 0x00 ∷ 0x00 ∷ []

-- the cell of their personality
abbrev pub cell : List ℕ
cell = 0x00 ∷ 0x40 ∷ 0x40 ∷ 0x00 ∷ 0x00 ∷ 0x00 ∷ 0x00 ∷ 0x00 ∷ []

-- The frames of the three functions. The return address into the third is 0x401060, or another one with this low byte.
abbrev pub stack : ℕ → List ℕ
stack b = 0x00 ∷ 0x00 ∷ 0x00 ∷ 0x00 ∷ 0x00 ∷ 0x00 ∷ 0x00 ∷ 0x00 ∷ 0x11 ∷ 0x00 ∷ 0x00 ∷ 0x00 ∷ 0x00 ∷ 0x00 ∷ 0x00 ∷ 0x00 ∷
    0x0c ∷ 0x00 ∷ 0x00 ∷ 0x00 ∷ 0x00 ∷ 0x00 ∷ 0x00 ∷ 0x00 ∷ 0x30 ∷ 0x10 ∷ 0x40 ∷ 0x00 ∷ 0x00 ∷ 0x00 ∷ 0x00 ∷ 0x00 ∷
    0x22 ∷ 0x00 ∷ 0x00 ∷ 0x00 ∷ 0x00 ∷ 0x00 ∷ 0x00 ∷ 0x00 ∷ b ∷ 0x10 ∷ 0x40 ∷ 0x00 ∷ 0x00 ∷ 0x00 ∷ 0x00 ∷ 0x00 ∷
    0x00 ∷ 0x00 ∷ 0x00 ∷ 0x00 ∷ 0x00 ∷ 0x00 ∷ 0x00 ∷ 0x00 ∷ 0x0b ∷ 0x00 ∷ 0x00 ∷ 0x00 ∷ 0x00 ∷ 0x00 ∷ 0x00 ∷ 0x00 ∷
    0x0e ∷ 0x00 ∷ 0x00 ∷ 0x00 ∷ 0x00 ∷ 0x00 ∷ 0x00 ∷ 0x00 ∷ 0x00 ∷ 0x00 ∷ 0x00 ∷ 0x00 ∷ 0x00 ∷ 0x00 ∷ 0x00 ∷ 0x00 ∷ []

-- the memory, with more regions after
abbrev pub image : ℕ → List Span → List Span
image b more = record { start = 0x70b0; bytes = stack b } ∷ record { start = 0x500000; bytes = frames } ∷ record { start = 0x502000; bytes = languages } ∷ record { start = 0x503000; bytes = cell } ∷ more

abbrev pub table : Input
table = record { base = 0x500000; offset = 0; bytes = frames }

abbrev pub cie_plain : Cie
cie_plain = record {
  offset = 0;
  version = 1;
  code_factor = 1;
  data_factor = 2 ^ 64 - 8;
  return_column = 16;
  augmentation = 0x7a ∷ 0x52 ∷ [];
  letters = record { language = None; personality = None; address = Some pcrel_sdata4; signal = false };
  program = record { base = 0x500000; offset = 17; bytes = 0x0c ∷ 7 ∷ 8 ∷ 0x90 ∷ 1 ∷ 0 ∷ 0 ∷ [] };
}

abbrev pub cie_language : Cie
cie_language = record {
  offset = 52;
  version = 1;
  code_factor = 1;
  data_factor = 2 ^ 64 - 8;
  return_column = 16;
  augmentation = 0x7a ∷ 0x50 ∷ 0x4c ∷ 0x52 ∷ [];
  letters = record { language = Some pcrel_sdata4; personality = Some (indirect_pcrel_sdata4, Indirect 0x503000); address = Some pcrel_sdata4; signal = false };
  program = record { base = 0x500000; offset = 77; bytes = 0x0c ∷ 7 ∷ 8 ∷ 0x90 ∷ 1 ∷ 0 ∷ 0 ∷ [] };
}

abbrev pub fde_a : Fde
fde_a = record { offset = 24; cie = cie_plain; start = 0x401000; size = 0x20; language = None; program = record { base = 0x500000; offset = 41; bytes = 0x41 ∷ 0x0e ∷ 0x10 ∷ 0x86 ∷ 0x02 ∷ 0x43 ∷ 0x0d ∷ 0x06 ∷ 0x45 ∷ 0x83 ∷ 0x03 ∷ [] } }

abbrev pub fde_b : Fde
fde_b = record { offset = 84; cie = cie_language; start = 0x401020; size = 0x30; language = Some (Direct 0x502000); program = record { base = 0x500000; offset = 105; bytes = 0x41 ∷ 0x0e ∷ 0x10 ∷ 0x83 ∷ 0x02 ∷ 0x00 ∷ 0x00 ∷ [] } }

abbrev pub fde_c : Fde
fde_c = record { offset = 112; cie = cie_language; start = 0x401050; size = 0x30; language = Some (Direct 0x50200c); program = record { base = 0x500000; offset = 133; bytes = 0x42 ∷ 0x0e ∷ 0x10 ∷ 0x41 ∷ 0x0e ∷ 0x18 ∷ 0x44 ∷ 0x0e ∷ 0x20 ∷ 0x83 ∷ 0x03 ∷ 0x8e ∷ 0x02 ∷ 0x00 ∷ 0x00 ∷ [] } }

-- pushes RBP, sets it, pushes RBX, and allocates 8
abbrev pub fa : Function
fa = record { start = 0x401000; end = 0x401020; prologue = record { step = Push (Followed RBP); end = 1 } ∷ record { step = SetFrame 0; end = 4 } ∷ record { step = Push (Followed RBX); end = 5 } ∷ record { step = Allocate 8; end = 9 } ∷ []; bodies = record { from = 0x401009; to = 0x401020 } ∷ []; sites = None; outermost = false }

-- pushes RBX; a cleanup
abbrev pub fb : Function
fb = record {
  start = 0x401020;
  end = 0x401050;
  prologue = record { step = Push (Followed RBX); end = 1 } ∷ [];
  bodies = record { from = 0x401021; to = 0x401050 } ∷ [];
  sites = Some (record { range = record { from = 0x401028; to = 0x401038 }; action = Cleanup 0x401040 } ∷ record { range = record { from = 0x401040; to = 0x401050 }; action = NoAction } ∷ []);
  outermost = false;
}

-- pushes R14 and RBX, and allocates 8; a handler
abbrev pub fc : Function
fc = record {
  start = 0x401050;
  end = 0x401080;
  prologue = record { step = Push (Followed R14); end = 2 } ∷ record { step = Push (Followed RBX); end = 3 } ∷ record { step = Allocate 8; end = 7 } ∷ [];
  bodies = record { from = 0x401057; to = 0x401080 } ∷ [];
  sites = Some (record { range = record { from = 0x401058; to = 0x401068 }; action = Catch 0x401070 } ∷ []);
  outermost = false;
}

abbrev pub functions : List Function
functions = fa ∷ fb ∷ fc ∷ []

abbrev pub entries : List Entry
entries = ACie cie_plain ∷ AFde fde_a ∷ ACie cie_language ∷ AFde fde_b ∷ AFde fde_c ∷ []

abbrev pub module_of_them : Module
module_of_them = record { start = 0x401000; end = 0x401080; text = None; tables = Frames 0x500000 }

abbrev pub process : Process
process = record { image = image 0x60 []; modules = module_of_them ∷ [] }

abbrev pub state : (ra sp rbx rbp r14 : ℕ) → State
state ra sp rbx rbp r14 = record { ra = ra; sp = sp; rbx = rbx; rbp = rbp; r12 = 0; r13 = 0; r14 = r14; r15 = 0 }

abbrev pub start : State
start = state 0x401010 0x70b0 7 0x70c0 0x2e

abbrev pub second : State
second = state 0x401030 0x70d0 0x11 0xc 0x2e

-- the state in the third function, by where it returns to
abbrev pub third : ℕ → State
third ra = state ra 0x70e0 0x22 0xc 0x2e

abbrev pub last : State
last = state 0 0x7100 0xb 0xc 0xe

abbrev pub calls_through : ℕ → List Call
calls_through ra = record { callee = fa; caller = second } ∷ record { callee = fb; caller = third ra } ∷ record { callee = fc; caller = last } ∷ []

abbrev pub calls : List Call
calls = calls_through 0x401060

-- after the cleanup the second function goes on
abbrev pub resumes : List (ℕ × ℕ)
resumes = (0x401040, 0x401048) ∷ []

abbrev pub exception : ℕ
exception = 0x900000

-- what is printed of it
abbrev pub delivery : Delivery
delivery = record {
  visited = start ∷ second ∷ third 0x401060 ∷ [];
  trail = (0x401040, 0x70d0) ∷ [];
  landing = Some (record { state = third 0x401070; rax = exception; rdx = 0 });
  outcome = Installed;
}

-- ---- the same with a call in the third function that no site holds

abbrev pub unlisted_process : Process
unlisted_process = record { image = image 0x70 []; modules = module_of_them ∷ [] }

abbrev pub unlisted_calls : List Call
unlisted_calls = calls_through 0x401070

abbrev pub unlisted_delivery : Delivery
unlisted_delivery = record { visited = start ∷ second ∷ third 0x401070 ∷ []; trail = []; landing = None; outcome = FatalPhase1 }

-- ---- the same in two modules, which name one frame table

abbrev pub module_of_first : Module
module_of_first = record { start = 0x401000; end = 0x401020; text = None; tables = Frames 0x500000 }

abbrev pub module_of_others : Module
module_of_others = record { start = 0x401020; end = 0x401080; text = None; tables = Frames 0x500000 }

abbrev pub process_of_two : Process
process_of_two = record { image = image 0x60 []; modules = module_of_first ∷ module_of_others ∷ [] }

-- ---- the first function alone in its module, called from an address that no module holds

abbrev pub process_of_first : Process
process_of_first = record { image = image 0x60 []; modules = module_of_first ∷ [] }

abbrev pub first_call : Call
first_call = record { callee = fa; caller = second }

abbrev pub first_delivery : Delivery
first_delivery = record { visited = start ∷ second ∷ []; trail = []; landing = None; outcome = EndOfStack }

-- ---- the same where the second function calls itself twice, so that its cleanup runs three times

abbrev pub deep_stack : List ℕ
deep_stack = 0x00 ∷ 0x00 ∷ 0x00 ∷ 0x00 ∷ 0x00 ∷ 0x00 ∷ 0x00 ∷ 0x00 ∷ 0x11 ∷ 0x00 ∷ 0x00 ∷ 0x00 ∷ 0x00 ∷ 0x00 ∷ 0x00 ∷ 0x00 ∷
    0x0c ∷ 0x00 ∷ 0x00 ∷ 0x00 ∷ 0x00 ∷ 0x00 ∷ 0x00 ∷ 0x00 ∷ 0x30 ∷ 0x10 ∷ 0x40 ∷ 0x00 ∷ 0x00 ∷ 0x00 ∷ 0x00 ∷ 0x00 ∷
    0x11 ∷ 0x00 ∷ 0x00 ∷ 0x00 ∷ 0x00 ∷ 0x00 ∷ 0x00 ∷ 0x00 ∷ 0x30 ∷ 0x10 ∷ 0x40 ∷ 0x00 ∷ 0x00 ∷ 0x00 ∷ 0x00 ∷ 0x00 ∷
    0x11 ∷ 0x00 ∷ 0x00 ∷ 0x00 ∷ 0x00 ∷ 0x00 ∷ 0x00 ∷ 0x00 ∷ 0x30 ∷ 0x10 ∷ 0x40 ∷ 0x00 ∷ 0x00 ∷ 0x00 ∷ 0x00 ∷ 0x00 ∷
    0x22 ∷ 0x00 ∷ 0x00 ∷ 0x00 ∷ 0x00 ∷ 0x00 ∷ 0x00 ∷ 0x00 ∷ 0x60 ∷ 0x10 ∷ 0x40 ∷ 0x00 ∷ 0x00 ∷ 0x00 ∷ 0x00 ∷ 0x00 ∷
    0x00 ∷ 0x00 ∷ 0x00 ∷ 0x00 ∷ 0x00 ∷ 0x00 ∷ 0x00 ∷ 0x00 ∷ 0x0b ∷ 0x00 ∷ 0x00 ∷ 0x00 ∷ 0x00 ∷ 0x00 ∷ 0x00 ∷ 0x00 ∷
    0x0e ∷ 0x00 ∷ 0x00 ∷ 0x00 ∷ 0x00 ∷ 0x00 ∷ 0x00 ∷ 0x00 ∷ 0x00 ∷ 0x00 ∷ 0x00 ∷ 0x00 ∷ 0x00 ∷ 0x00 ∷ 0x00 ∷ 0x00 ∷ []

abbrev pub deep_image : List Span
deep_image = record { start = 0x7090; bytes = deep_stack } ∷ record { start = 0x500000; bytes = frames } ∷ record { start = 0x502000; bytes = languages } ∷ record { start = 0x503000; bytes = cell } ∷ []

abbrev pub deep_process : Process
deep_process = record { image = deep_image; modules = module_of_them ∷ [] }

abbrev pub deep_start : State
deep_start = state 0x401010 0x7090 7 0x70a0 0x2e

-- the state in the second function, by its stack pointer
abbrev pub deep_second : ℕ → State
deep_second sp = state 0x401030 sp 0x11 0xc 0x2e

abbrev pub deep_calls : List Call
deep_calls = record { callee = fa; caller = deep_second 0x70b0 } ∷ record { callee = fb; caller = deep_second 0x70c0 } ∷ record { callee = fb; caller = deep_second 0x70d0 } ∷ record { callee = fb; caller = third 0x401060 } ∷ record { callee = fc; caller = last } ∷ []

abbrev pub deep_delivery : Delivery
deep_delivery = record {
  visited = deep_start ∷ deep_second 0x70b0 ∷ deep_second 0x70c0 ∷ deep_second 0x70d0 ∷ third 0x401060 ∷ [];
  trail = (0x401040, 0x70b0) ∷ (0x401040, 0x70c0) ∷ (0x401040, 0x70d0) ∷ [];
  landing = Some (record { state = third 0x401070; rax = exception; rdx = 0 });
  outcome = Installed;
}

-- ---- the same with a header table

abbrev pub header : List ℕ
header = 0x01 ∷ 0x1b ∷ 0x03 ∷ 0x3b ∷ 0xfc ∷ 0xbf ∷ 0xff ∷ 0xff ∷ 0x03 ∷ 0x00 ∷ 0x00 ∷ 0x00 ∷
    0x00 ∷ 0xd0 ∷ 0xef ∷ 0xff ∷ 0x18 ∷ 0xc0 ∷ 0xff ∷ 0xff ∷ 0x20 ∷ 0xd0 ∷ 0xef ∷ 0xff ∷
    0x54 ∷ 0xc0 ∷ 0xff ∷ 0xff ∷ 0x50 ∷ 0xd0 ∷ 0xef ∷ 0xff ∷ 0x70 ∷ 0xc0 ∷ 0xff ∷ 0xff ∷ []

-- its three pairs, which begin after twelve bytes, and where their functions begin
abbrev pub pairs : PairTable
pairs = record { count = 3; width = 4; encoding = datarel_sdata4; bases = record { text = None; data_base = Some 0x504000; func = None; hdr = None; frame = None }; pairs = record { base = 0x504000; offset = 12; bytes = drop 12 header } }

abbrev pub starts : List ℕ
starts = 0x401000 ∷ 0x401020 ∷ 0x401050 ∷ []

abbrev pub module_with_header : Module
module_with_header = record { start = 0x401000; end = 0x401080; text = None; tables = Header 0x504000 }

abbrev pub header_image : List Span
header_image = image 0x60 (record { start = 0x504000; bytes = header } ∷ [])

abbrev pub header_process : Process
header_process = record { image = header_image; modules = module_with_header ∷ [] }

-- ---- after the functions, in a module that is longer than they are

abbrev pub longer_module : Module
longer_module = record { start = 0x401000; end = 0x401100; text = None; tables = Header 0x504000 }

abbrev pub longer_process : Process
longer_process = record { image = header_image; modules = longer_module ∷ [] }

abbrev pub after : State
after = state 0x401091 0x70e0 0x22 0xc 0x2e

-- ---- the third function's language table with an action table that is cut inside its number

abbrev pub cut_language : List ℕ
cut_language = 0xff ∷ 0x9b ∷ 0x0c ∷ 0x01 ∷ 0x04 ∷ 0x08 ∷ 0x10 ∷ 0x20 ∷ 0x01 ∷ 0x81 ∷ []

abbrev pub cut_image : List Span
cut_image = record { start = 0x50200c; bytes = cut_language } ∷ []
