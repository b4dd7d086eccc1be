-- A small program (examples/frame_layouts.c), built by gcc at -O2: its frame table, byte for byte, and its stack as gdb saw it. Its
-- innermost function was stopped twice: in its prologue, between two pushes and after a register was overwritten, and in its
-- epilogue, after two pops. The memory is that of the second stop. At the first it was the same but for the word below the stack
-- pointer.
use Rattle.std.specs.Prelude.{ℕ, ◌-◌, ◌^◌, false, true, List, [], ◌∷◌, Some, None}
use Rattle.memory_image.specs.Image.{Span}
use Rattle.unwind_definitions.specs.Input.{Input}
use Rattle.unwind_definitions.specs.Pointers.{Bases}
use Rattle.unwind_definitions.specs.PointerEncodings.{pcrel_sdata4}
use Rattle.unwind_definitions.specs.Columns as column
use Rattle.unwind_definitions.specs.Instructions.{Instruction, Nop, Advance, Write, Cfa, CfaColumn, CfaOffset, Offset, Undefined}
use Rattle.unwind_definitions.specs.Entries.{Cie, Fde, Entry, ACie, AFde}
use Rattle.unwind_definitions.specs.Row.{RowInstructions}
use Rattle.unwind_definitions.specs.State.{State, RBX, RBP, R12, R13, R14, R15}
use Rattle.unwind_definitions.specs.Function.{Cleanup}
use Rattle.unwind_definitions.specs.Module.{Module, Process, Frames, bases_of}
use Rattle.frame_facts.specs.Facts.{Slot, Facts}
use Rattle.frame_facts.specs.FactChains.{FactFrame}
use Rattle.frame_facts.specs.StepFacts.{all_callee_saved}
use Rattle.frame_facts.specs.Claims.{Claim}
use Rattle.frame_facts.specs.FactDeliveries.{AskedFrame}

-- ---- the frame table

abbrev pub frames : List ℕ
frames =
    0x14 ∷ 0x00 ∷ 0x00 ∷ 0x00 ∷ 0x00 ∷ 0x00 ∷ 0x00 ∷ 0x00 ∷ 0x01 ∷ 0x7a ∷ 0x52 ∷ 0x00 ∷ 0x01 ∷ 0x78 ∷ 0x10 ∷ 0x01 ∷ 0x1b ∷ 0x0c ∷ 0x07 ∷ 0x08 ∷ 0x90 ∷ 0x01 ∷ 0x07 ∷ 0x10 ∷
    0x10 ∷ 0x00 ∷ 0x00 ∷ 0x00 ∷ 0x1c ∷ 0x00 ∷ 0x00 ∷ 0x00 ∷ 0x08 ∷ 0xf0 ∷ 0xff ∷ 0xff ∷ 0x22 ∷ 0x00 ∷ 0x00 ∷ 0x00 ∷ 0x00 ∷ 0x00 ∷ 0x00 ∷ 0x00 ∷ 0x14 ∷ 0x00 ∷ 0x00 ∷ 0x00 ∷
    0x00 ∷ 0x00 ∷ 0x00 ∷ 0x00 ∷ 0x01 ∷ 0x7a ∷ 0x52 ∷ 0x00 ∷ 0x01 ∷ 0x78 ∷ 0x10 ∷ 0x01 ∷ 0x1b ∷ 0x0c ∷ 0x07 ∷ 0x08 ∷ 0x90 ∷ 0x01 ∷ 0x00 ∷ 0x00 ∷ 0x10 ∷ 0x00 ∷ 0x00 ∷ 0x00 ∷
    0x1c ∷ 0x00 ∷ 0x00 ∷ 0x00 ∷ 0x0c ∷ 0xf0 ∷ 0xff ∷ 0xff ∷ 0x01 ∷ 0x00 ∷ 0x00 ∷ 0x00 ∷ 0x00 ∷ 0x00 ∷ 0x00 ∷ 0x00 ∷ 0x10 ∷ 0x00 ∷ 0x00 ∷ 0x00 ∷ 0x30 ∷ 0x00 ∷ 0x00 ∷ 0x00 ∷
    0x08 ∷ 0xf0 ∷ 0xff ∷ 0xff ∷ 0x01 ∷ 0x00 ∷ 0x00 ∷ 0x00 ∷ 0x00 ∷ 0x00 ∷ 0x00 ∷ 0x00 ∷ 0x24 ∷ 0x00 ∷ 0x00 ∷ 0x00 ∷ 0x44 ∷ 0x00 ∷ 0x00 ∷ 0x00 ∷ 0x04 ∷ 0xf0 ∷ 0xff ∷ 0xff ∷
    0x24 ∷ 0x00 ∷ 0x00 ∷ 0x00 ∷ 0x00 ∷ 0x41 ∷ 0x0e ∷ 0x10 ∷ 0x86 ∷ 0x02 ∷ 0x44 ∷ 0x0e ∷ 0x18 ∷ 0x83 ∷ 0x03 ∷ 0x47 ∷ 0x0e ∷ 0x20 ∷ 0x52 ∷ 0x0e ∷ 0x18 ∷ 0x44 ∷ 0x0e ∷ 0x10 ∷
    0x41 ∷ 0x0e ∷ 0x08 ∷ 0x00 ∷ 0x10 ∷ 0x00 ∷ 0x00 ∷ 0x00 ∷ 0x6c ∷ 0x00 ∷ 0x00 ∷ 0x00 ∷ 0x5c ∷ 0xef ∷ 0xff ∷ 0xff ∷ 0x01 ∷ 0x00 ∷ 0x00 ∷ 0x00 ∷ 0x00 ∷ 0x00 ∷ 0x00 ∷ 0x00 ∷
    0x24 ∷ 0x00 ∷ 0x00 ∷ 0x00 ∷ 0x80 ∷ 0x00 ∷ 0x00 ∷ 0x00 ∷ 0xf8 ∷ 0xef ∷ 0xff ∷ 0xff ∷ 0x26 ∷ 0x00 ∷ 0x00 ∷ 0x00 ∷ 0x00 ∷ 0x41 ∷ 0x0e ∷ 0x10 ∷ 0x86 ∷ 0x02 ∷ 0x44 ∷ 0x0e ∷
    0x18 ∷ 0x83 ∷ 0x03 ∷ 0x48 ∷ 0x0e ∷ 0x20 ∷ 0x53 ∷ 0x0e ∷ 0x18 ∷ 0x44 ∷ 0x0e ∷ 0x10 ∷ 0x41 ∷ 0x0e ∷ 0x08 ∷ 0x00 ∷ 0x14 ∷ 0x00 ∷ 0x00 ∷ 0x00 ∷ 0xa8 ∷ 0x00 ∷ 0x00 ∷ 0x00 ∷
    0x21 ∷ 0xef ∷ 0xff ∷ 0xff ∷ 0x18 ∷ 0x00 ∷ 0x00 ∷ 0x00 ∷ 0x00 ∷ 0x0e ∷ 0x20 ∷ 0x83 ∷ 0x03 ∷ 0x86 ∷ 0x02 ∷ 0x00 ∷ 0x18 ∷ 0x00 ∷ 0x00 ∷ 0x00 ∷ 0xc0 ∷ 0x00 ∷ 0x00 ∷ 0x00 ∷
    0xe8 ∷ 0xef ∷ 0xff ∷ 0xff ∷ 0x18 ∷ 0x00 ∷ 0x00 ∷ 0x00 ∷ 0x00 ∷ 0x41 ∷ 0x0e ∷ 0x10 ∷ 0x83 ∷ 0x02 ∷ 0x56 ∷ 0x0e ∷ 0x08 ∷ 0x00 ∷ 0x00 ∷ 0x00 ∷ 0x24 ∷ 0x00 ∷ 0x00 ∷ 0x00 ∷
    0xdc ∷ 0x00 ∷ 0x00 ∷ 0x00 ∷ 0xec ∷ 0xef ∷ 0xff ∷ 0xff ∷ 0x2c ∷ 0x00 ∷ 0x00 ∷ 0x00 ∷ 0x00 ∷ 0x45 ∷ 0x0e ∷ 0x10 ∷ 0x83 ∷ 0x02 ∷ 0x4b ∷ 0x0e ∷ 0x18 ∷ 0x50 ∷ 0x0e ∷ 0x20 ∷
    0x46 ∷ 0x0e ∷ 0x18 ∷ 0x41 ∷ 0x0e ∷ 0x10 ∷ 0x44 ∷ 0x0e ∷ 0x08 ∷ 0x00 ∷ 0x00 ∷ 0x00 ∷ 0x1c ∷ 0x00 ∷ 0x00 ∷ 0x00 ∷ 0x04 ∷ 0x01 ∷ 0x00 ∷ 0x00 ∷ 0xf4 ∷ 0xef ∷ 0xff ∷ 0xff ∷
    0x33 ∷ 0x00 ∷ 0x00 ∷ 0x00 ∷ 0x00 ∷ 0x41 ∷ 0x0e ∷ 0x10 ∷ 0x86 ∷ 0x02 ∷ 0x43 ∷ 0x0d ∷ 0x06 ∷ 0x41 ∷ 0x83 ∷ 0x03 ∷ 0x6a ∷ 0x0c ∷ 0x07 ∷ 0x08 ∷ 0x10 ∷ 0x00 ∷ 0x00 ∷ 0x00 ∷
    0x24 ∷ 0x01 ∷ 0x00 ∷ 0x00 ∷ 0xc4 ∷ 0xee ∷ 0xff ∷ 0xff ∷ 0x03 ∷ 0x00 ∷ 0x00 ∷ 0x00 ∷ 0x00 ∷ 0x00 ∷ 0x00 ∷ 0x00 ∷ 0x10 ∷ 0x00 ∷ 0x00 ∷ 0x00 ∷ 0x38 ∷ 0x01 ∷ 0x00 ∷ 0x00 ∷
    0x00 ∷ 0xf0 ∷ 0xff ∷ 0xff ∷ 0x27 ∷ 0x00 ∷ 0x00 ∷ 0x00 ∷ 0x00 ∷ 0x47 ∷ 0x0e ∷ 0x10 ∷ []

abbrev pub table : Input
table = record { base = 0x402008; offset = 0; bytes = frames }

abbrev pub program_at : ℕ → List ℕ → Input
program_at offset bytes = record { base = 0x402008; offset = offset; bytes = bytes }

abbrev pub cie_with : ℕ → Input → Cie
cie_with offset program = record {
  offset = offset;
  version = 1;
  code_factor = 1;
  data_factor = 2 ^ 64 - 8;
  return_column = 16;
  augmentation = 0x7a ∷ 0x52 ∷ [];
  letters = record { language = None; personality = None; address = Some pcrel_sdata4; signal = false };
  program = program;
}

-- of crt1.o, whose program itself says that the return address is undefined
abbrev pub start_cie : Cie
start_cie = cie_with 0 (program_at 17 (0x0c ∷ 0x07 ∷ 0x08 ∷ 0x90 ∷ 0x01 ∷ 0x07 ∷ 0x10 ∷ []))

abbrev pub cie : Cie
cie = cie_with 44 (program_at 61 (0x0c ∷ 0x07 ∷ 0x08 ∷ 0x90 ∷ 0x01 ∷ 0x00 ∷ 0x00 ∷ []))

-- _start
abbrev pub start_code : Fde
start_code = record { offset = 24; cie = start_cie; start = 0x401030; size = 34; language = None; program = program_at 41 (0x00 ∷ 0x00 ∷ 0x00 ∷ []) }

abbrev pub relocate : Fde
relocate = record { offset = 68; cie = cie; start = 0x401060; size = 1; language = None; program = program_at 85 (0x00 ∷ 0x00 ∷ 0x00 ∷ []) }

abbrev pub work : Fde
work = record { offset = 88; cie = cie; start = 0x401070; size = 1; language = None; program = program_at 105 (0x00 ∷ 0x00 ∷ 0x00 ∷ []) }

-- two pushes with a move between them, and two pops
abbrev pub sums : Fde
sums = record { offset = 108; cie = cie; start = 0x401080; size = 36; language = None; program = program_at 125 (0x41 ∷ 0x0e ∷ 0x10 ∷ 0x86 ∷ 0x02 ∷ 0x44 ∷ 0x0e ∷ 0x18 ∷ 0x83 ∷ 0x03 ∷ 0x47 ∷ 0x0e ∷ 0x20 ∷ 0x52 ∷ 0x0e ∷ 0x18 ∷ 0x44 ∷ 0x0e ∷ 0x10 ∷ 0x41 ∷ 0x0e ∷ 0x08 ∷ 0x00 ∷ []) }

abbrev pub seldom : Fde
seldom = record { offset = 148; cie = cie; start = 0x401000; size = 1; language = None; program = program_at 165 (0x00 ∷ 0x00 ∷ 0x00 ∷ []) }

abbrev pub checked : Fde
checked = record { offset = 168; cie = cie; start = 0x4010b0; size = 38; language = None; program = program_at 185 (0x41 ∷ 0x0e ∷ 0x10 ∷ 0x86 ∷ 0x02 ∷ 0x44 ∷ 0x0e ∷ 0x18 ∷ 0x83 ∷ 0x03 ∷ 0x48 ∷ 0x0e ∷ 0x20 ∷ 0x53 ∷ 0x0e ∷ 0x18 ∷ 0x44 ∷ 0x0e ∷ 0x10 ∷ 0x41 ∷ 0x0e ∷ 0x08 ∷ 0x00 ∷ []) }

-- the part of `checked` that the compiler put apart from it: its first row is that of a whole frame
abbrev pub checked_part : Fde
checked_part = record { offset = 208; cie = cie; start = 0x401001; size = 24; language = None; program = program_at 225 (0x0e ∷ 0x20 ∷ 0x83 ∷ 0x03 ∷ 0x86 ∷ 0x02 ∷ 0x00 ∷ []) }

abbrev pub many : Fde
many = record { offset = 232; cie = cie; start = 0x4010e0; size = 24; language = None; program = program_at 249 (0x41 ∷ 0x0e ∷ 0x10 ∷ 0x83 ∷ 0x02 ∷ 0x56 ∷ 0x0e ∷ 0x08 ∷ 0x00 ∷ 0x00 ∷ 0x00 ∷ []) }

-- arguments are pushed in the body
abbrev pub pushes : Fde
pushes = record { offset = 260; cie = cie; start = 0x401100; size = 44; language = None; program = program_at 277 (0x45 ∷ 0x0e ∷ 0x10 ∷ 0x83 ∷ 0x02 ∷ 0x4b ∷ 0x0e ∷ 0x18 ∷ 0x50 ∷ 0x0e ∷ 0x20 ∷ 0x46 ∷ 0x0e ∷ 0x18 ∷ 0x41 ∷ 0x0e ∷ 0x10 ∷ 0x44 ∷ 0x0e ∷ 0x08 ∷ 0x00 ∷ 0x00 ∷ 0x00 ∷ []) }

-- the frame is aligned at 64 bytes, and its CFA is found by RBP
abbrev pub aligned : Fde
aligned = record { offset = 300; cie = cie; start = 0x401130; size = 51; language = None; program = program_at 317 (0x41 ∷ 0x0e ∷ 0x10 ∷ 0x86 ∷ 0x02 ∷ 0x43 ∷ 0x0d ∷ 0x06 ∷ 0x41 ∷ 0x83 ∷ 0x03 ∷ 0x6a ∷ 0x0c ∷ 0x07 ∷ 0x08 ∷ []) }

abbrev pub main_code : Fde
main_code = record { offset = 332; cie = cie; start = 0x401020; size = 3; language = None; program = program_at 349 (0x00 ∷ 0x00 ∷ 0x00 ∷ []) }

abbrev pub libc_start : Fde
libc_start = record { offset = 352; cie = cie; start = 0x401170; size = 39; language = None; program = program_at 369 (0x47 ∷ 0x0e ∷ 0x10 ∷ []) }

abbrev pub entries : List Entry
entries = ACie start_cie ∷ AFde start_code ∷ ACie cie ∷ AFde relocate ∷ AFde work ∷ AFde sums ∷ AFde seldom ∷ AFde checked ∷ AFde checked_part ∷ AFde many ∷ AFde pushes ∷ AFde aligned ∷ AFde main_code ∷ AFde libc_start ∷ []

abbrev pub fdes : List Fde
fdes = start_code ∷ relocate ∷ work ∷ sums ∷ seldom ∷ checked ∷ checked_part ∷ many ∷ pushes ∷ aligned ∷ main_code ∷ libc_start ∷ []

abbrev pub home : Module
home = record { start = 0x401000; end = 0x401197; text = None; tables = Frames 0x402008 }

abbrev pub bases : Bases
bases = bases_of home 0x402008

-- ---- the stack

abbrev pub stack : List ℕ
stack =
    0x08 ∷ 0x00 ∷ 0x00 ∷ 0x00 ∷ 0x00 ∷ 0x00 ∷ 0x00 ∷ 0x00 ∷ 0x6b ∷ 0x00 ∷ 0x00 ∷ 0x00 ∷ 0x00 ∷ 0x00 ∷ 0x00 ∷ 0x00 ∷ 0x11 ∷ 0x10 ∷ 0x40 ∷ 0x00 ∷ 0x00 ∷ 0x00 ∷ 0x00 ∷ 0x00 ∷
    0x00 ∷ 0x00 ∷ 0x00 ∷ 0x00 ∷ 0x00 ∷ 0x00 ∷ 0x00 ∷ 0x00 ∷ 0x07 ∷ 0x00 ∷ 0x00 ∷ 0x00 ∷ 0x00 ∷ 0x00 ∷ 0x00 ∷ 0x00 ∷ 0xb0 ∷ 0xed ∷ 0xff ∷ 0xff ∷ 0xff ∷ 0x7f ∷ 0x00 ∷ 0x00 ∷
    0xf3 ∷ 0x10 ∷ 0x40 ∷ 0x00 ∷ 0x00 ∷ 0x00 ∷ 0x00 ∷ 0x00 ∷ 0x07 ∷ 0x00 ∷ 0x00 ∷ 0x00 ∷ 0x00 ∷ 0x00 ∷ 0x00 ∷ 0x00 ∷ 0x25 ∷ 0x11 ∷ 0x40 ∷ 0x00 ∷ 0x00 ∷ 0x00 ∷ 0x00 ∷ 0x00 ∷
    0x6b ∷ 0x00 ∷ 0x00 ∷ 0x00 ∷ 0x00 ∷ 0x00 ∷ 0x00 ∷ 0x00 ∷ 0x07 ∷ 0x00 ∷ 0x00 ∷ 0x00 ∷ 0x00 ∷ 0x00 ∷ 0x00 ∷ 0x00 ∷ 0x07 ∷ 0x00 ∷ 0x00 ∷ 0x00 ∷ 0x00 ∷ 0x00 ∷ 0x00 ∷ 0x00 ∷
    0x53 ∷ 0x11 ∷ 0x40 ∷ 0x00 ∷ 0x00 ∷ 0x00 ∷ 0x00 ∷ 0x00 ∷ 0x07 ∷ 0x00 ∷ 0x00 ∷ 0x00 ∷ 0x00 ∷ 0x00 ∷ 0x00 ∷ 0x00 ∷ 0x00 ∷ 0x00 ∷ 0x00 ∷ 0x00 ∷ 0x00 ∷ 0x00 ∷ 0x00 ∷ 0x00 ∷
    0x00 ∷ 0x00 ∷ 0x00 ∷ 0x00 ∷ 0x00 ∷ 0x00 ∷ 0x00 ∷ 0x00 ∷ 0x00 ∷ 0x00 ∷ 0x00 ∷ 0x00 ∷ 0x00 ∷ 0x00 ∷ 0x00 ∷ 0x00 ∷ 0x00 ∷ 0x00 ∷ 0x00 ∷ 0x00 ∷ 0x00 ∷ 0x00 ∷ 0x00 ∷ 0x00 ∷
    0x00 ∷ 0x00 ∷ 0x00 ∷ 0x00 ∷ 0x00 ∷ 0x00 ∷ 0x00 ∷ 0x00 ∷ 0x00 ∷ 0x00 ∷ 0x00 ∷ 0x00 ∷ 0x00 ∷ 0x00 ∷ 0x00 ∷ 0x00 ∷ 0x00 ∷ 0x00 ∷ 0x00 ∷ 0x00 ∷ 0x00 ∷ 0x00 ∷ 0x00 ∷ 0x00 ∷
    0x00 ∷ 0x00 ∷ 0x00 ∷ 0x00 ∷ 0x00 ∷ 0x00 ∷ 0x00 ∷ 0x00 ∷ 0x00 ∷ 0x00 ∷ 0x00 ∷ 0x00 ∷ 0x00 ∷ 0x00 ∷ 0x00 ∷ 0x00 ∷ 0x00 ∷ 0x00 ∷ 0x00 ∷ 0x00 ∷ 0x00 ∷ 0x00 ∷ 0x00 ∷ 0x00 ∷
    0x00 ∷ 0x00 ∷ 0x00 ∷ 0x00 ∷ 0x00 ∷ 0x00 ∷ 0x00 ∷ 0x00 ∷ 0x00 ∷ 0x00 ∷ 0x00 ∷ 0x00 ∷ 0x00 ∷ 0x00 ∷ 0x00 ∷ 0x00 ∷ 0x00 ∷ 0x00 ∷ 0x00 ∷ 0x00 ∷ 0x00 ∷ 0x00 ∷ 0x00 ∷ 0x00 ∷
    0x00 ∷ 0x00 ∷ 0x00 ∷ 0x00 ∷ 0x00 ∷ 0x00 ∷ 0x00 ∷ 0x00 ∷ 0x7f ∷ 0x11 ∷ 0x40 ∷ 0x00 ∷ 0x00 ∷ 0x00 ∷ 0x00 ∷ 0x00 ∷ 0x00 ∷ 0x00 ∷ 0x00 ∷ 0x00 ∷ 0x00 ∷ 0x00 ∷ 0x00 ∷ 0x00 ∷
    0x51 ∷ 0x10 ∷ 0x40 ∷ 0x00 ∷ 0x00 ∷ 0x00 ∷ 0x00 ∷ 0x00 ∷ 0xd8 ∷ 0xed ∷ 0xff ∷ 0xff ∷ 0xff ∷ 0x7f ∷ 0x00 ∷ 0x00 ∷ []

abbrev pub image : List Span
image = record { start = 0x402008; bytes = frames } ∷ record { start = 0x7fffffffecd8; bytes = stack } ∷ []

abbrev pub process : Process
process = record { image = image; modules = home ∷ [] }

abbrev pub state : (ra sp rbx rbp : ℕ) → State
state ra sp rbx rbp = record { ra = ra; sp = sp; rbx = rbx; rbp = rbp; r12 = 0; r13 = 0; r14 = 0; r15 = 0 }

-- stopped in the prologue, and in the epilogue
abbrev pub overwritten : State
overwritten = state 0x401084 0x7fffffffece0 0x8 0x8

abbrev pub popped : State
popped = state 0x4010a3 0x7fffffffece8 0x8 0x6b

abbrev pub in_part : State
in_part = state 0x401011 0x7fffffffecf0 0x8 0x6b

abbrev pub in_many : State
in_many = state 0x4010f3 0x7fffffffed10 0x7 0x7fffffffedb0

abbrev pub in_pushes : State
in_pushes = state 0x401125 0x7fffffffed20 0x7 0x7fffffffedb0

abbrev pub in_aligned : State
in_aligned = state 0x401153 0x7fffffffed40 0x7 0x7fffffffedb0

abbrev pub in_libc_start : State
in_libc_start = state 0x40117f 0x7fffffffedc0 0x0 0x0

abbrev pub in_start : State
in_start = state 0x401051 0x7fffffffedd0 0x0 0x0

-- what _start would return to
abbrev pub outside : State
outside = state 0x0 0x7fffffffedd8 0x0 0x0

-- ---- what is known

abbrev pub rbx_at : ℕ → Slot
rbx_at d = record { register = RBX; distance = d }

abbrev pub rbp_at : ℕ → Slot
rbp_at d = record { register = RBP; distance = d }

-- after the push of RBP and a move to it
abbrev pub known_overwritten : Facts
known_overwritten = record { rsp = Some 16; rbp = None; saved = rbp_at 16 ∷ []; kept = RBX ∷ R12 ∷ R13 ∷ R14 ∷ R15 ∷ []; outermost = false }

-- after both pops: the slots lie below the stack pointer, in the red zone
abbrev pub known_popped : Facts
known_popped = record { rsp = Some 8; rbp = None; saved = rbx_at 24 ∷ rbp_at 16 ∷ []; kept = all_callee_saved; outermost = false }

abbrev pub known_in_part : Facts
known_in_part = record { rsp = Some 32; rbp = None; saved = rbx_at 24 ∷ rbp_at 16 ∷ []; kept = R12 ∷ R13 ∷ R14 ∷ R15 ∷ []; outermost = false }

abbrev pub known_in_many : Facts
known_in_many = record { rsp = Some 16; rbp = None; saved = rbx_at 16 ∷ []; kept = RBP ∷ R12 ∷ R13 ∷ R14 ∷ R15 ∷ []; outermost = false }

-- two arguments were pushed below a frame of 16 bytes
abbrev pub known_in_pushes : Facts
known_in_pushes = record { rsp = Some 32; rbp = None; saved = rbx_at 16 ∷ []; kept = RBP ∷ R12 ∷ R13 ∷ R14 ∷ R15 ∷ []; outermost = false }

-- how far the CFA lies above RSP depends on the caller's stack pointer
abbrev pub known_in_aligned : Facts
known_in_aligned = record { rsp = None; rbp = Some 16; saved = rbx_at 24 ∷ rbp_at 16 ∷ []; kept = R12 ∷ R13 ∷ R14 ∷ R15 ∷ []; outermost = false }

abbrev pub known_in_libc_start : Facts
known_in_libc_start = record { rsp = Some 16; rbp = None; saved = []; kept = all_callee_saved; outermost = false }

abbrev pub known_in_start : Facts
known_in_start = record { rsp = Some 8; rbp = None; saved = []; kept = all_callee_saved; outermost = true }

-- ---- the chains

abbrev pub outer_frames : List FactFrame
outer_frames =
    record { facts = known_in_part; caller = in_many } ∷
    record { facts = known_in_many; caller = in_pushes } ∷
    record { facts = known_in_pushes; caller = in_aligned } ∷
    record { facts = known_in_aligned; caller = in_libc_start } ∷
    record { facts = known_in_libc_start; caller = in_start } ∷
    record { facts = known_in_start; caller = outside } ∷
    []

abbrev pub frames_after : Facts → List FactFrame
frames_after facts = record { facts = facts; caller = in_part } ∷ outer_frames

abbrev pub states : List State
states = in_part ∷ in_many ∷ in_pushes ∷ in_aligned ∷ in_libc_start ∷ in_start ∷ outside ∷ []

-- ---- claims

abbrev pub claim : (from to : ℕ) → Facts → Claim
claim from to facts = record { range = record { from = from; to = to }; facts = facts }

-- the whole of the part, the body of `sums`, its return after both pops, and the call in `pushes`
abbrev pub claims : List Claim
claims = claim 0x401001 0x401019 known_in_part ∷ claim 0x40108c 0x40109e known_in_part ∷ claim 0x4010a3 0x4010a4 known_popped ∷ claim 0x401120 0x401126 known_in_pushes ∷ []

-- ---- a frame with arguments that goes on after a cleanup

-- the frame at the call whose two arguments were pushed, as if it asked for a cleanup
abbrev pub cleaned : AskedFrame
cleaned = record { state = in_pushes; action = Cleanup 0x401127; arguments = 16 }

-- once they are popped
abbrev pub known_past_arguments : Facts
known_past_arguments = record known_in_pushes { rsp = Some 16 }

-- ---- rows

abbrev pub start_cie_program : List Instruction
start_cie_program = Cfa column.rsp 8 ∷ Write column.ra (Offset (2 ^ 64 - 8)) ∷ Write column.ra Undefined ∷ []

abbrev pub cie_program : List Instruction
cie_program = Cfa column.rsp 8 ∷ Write column.ra (Offset (2 ^ 64 - 8)) ∷ Nop ∷ Nop ∷ []

abbrev pub row_overwritten : RowInstructions
row_overwritten = record { common = cie_program; own = Advance 1 ∷ CfaOffset 16 ∷ Write column.rbp (Offset (2 ^ 64 - 16)) ∷ [] }

abbrev pub row_of_sums : RowInstructions
row_of_sums = record { common = cie_program; own = Advance 1 ∷ CfaOffset 16 ∷ Write column.rbp (Offset (2 ^ 64 - 16)) ∷ Advance 4 ∷ CfaOffset 24 ∷ Write column.rbx (Offset (2 ^ 64 - 24)) ∷ Advance 7 ∷ CfaOffset 32 ∷ [] }

abbrev pub row_popped : RowInstructions
row_popped = record { common = cie_program; own = Advance 1 ∷ CfaOffset 16 ∷ Write column.rbp (Offset (2 ^ 64 - 16)) ∷ Advance 4 ∷ CfaOffset 24 ∷ Write column.rbx (Offset (2 ^ 64 - 24)) ∷ Advance 7 ∷ CfaOffset 32 ∷ Advance 18 ∷ CfaOffset 24 ∷ Advance 4 ∷ CfaOffset 16 ∷ Advance 1 ∷ CfaOffset 8 ∷ Nop ∷ [] }

abbrev pub row_in_part : RowInstructions
row_in_part = record { common = cie_program; own = CfaOffset 32 ∷ Write column.rbx (Offset (2 ^ 64 - 24)) ∷ Write column.rbp (Offset (2 ^ 64 - 16)) ∷ Nop ∷ [] }

abbrev pub row_in_many : RowInstructions
row_in_many = record { common = cie_program; own = Advance 1 ∷ CfaOffset 16 ∷ Write column.rbx (Offset (2 ^ 64 - 16)) ∷ [] }

abbrev pub row_in_pushes : RowInstructions
row_in_pushes = record { common = cie_program; own = Advance 5 ∷ CfaOffset 16 ∷ Write column.rbx (Offset (2 ^ 64 - 16)) ∷ Advance 11 ∷ CfaOffset 24 ∷ Advance 16 ∷ CfaOffset 32 ∷ [] }

abbrev pub row_past_arguments : RowInstructions
row_past_arguments = record { common = cie_program; own = Advance 5 ∷ CfaOffset 16 ∷ Write column.rbx (Offset (2 ^ 64 - 16)) ∷ Advance 11 ∷ CfaOffset 24 ∷ Advance 16 ∷ CfaOffset 32 ∷ Advance 6 ∷ CfaOffset 24 ∷ Advance 1 ∷ CfaOffset 16 ∷ [] }

abbrev pub row_in_aligned : RowInstructions
row_in_aligned = record { common = cie_program; own = Advance 1 ∷ CfaOffset 16 ∷ Write column.rbp (Offset (2 ^ 64 - 16)) ∷ Advance 3 ∷ CfaColumn column.rbp ∷ Advance 1 ∷ Write column.rbx (Offset (2 ^ 64 - 24)) ∷ [] }

abbrev pub row_in_libc_start : RowInstructions
row_in_libc_start = record { common = cie_program; own = Advance 7 ∷ CfaOffset 16 ∷ [] }

abbrev pub row_in_start : RowInstructions
row_in_start = record { common = start_cie_program; own = Nop ∷ Nop ∷ Nop ∷ [] }
