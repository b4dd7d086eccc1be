-- A small C++ program (examples/pushed_landings.cpp), built by g++ at -O2: its frame table, its language tables and the cell of its
-- personality, byte for byte, and its stack as gdb saw it where its innermost frame would raise an exception. Of the two frames
-- outside of that one the first has a cleanup and the second a handler, each entered past two pushed arguments. The cleanup's code
-- jumps to a part of its function that the compiler put apart from it, and goes on from there: it ends with a call.
use Rattle.std.specs.Prelude.{ℕ, ◌-◌, ◌^◌, false, List, [], ◌∷◌, Some, None}
use Rattle.memory_image.specs.Image.{Span}
use Rattle.unwind_definitions.specs.Input.{Input}
use Rattle.unwind_definitions.specs.Pointers.{Bases, Direct, Indirect}
use Rattle.unwind_definitions.specs.PointerEncodings.{pcrel_sdata4, indirect_pcrel_sdata4}
use Rattle.unwind_definitions.specs.Columns as column
use Rattle.unwind_definitions.specs.Instructions.{Instruction, Nop, Advance, Write, Cfa, CfaColumn, CfaOffset, Offset, Arguments}
use Rattle.unwind_definitions.specs.Entries.{Cie, Fde, Entry, ACie, AFde}
use Rattle.unwind_definitions.specs.Row.{RowInstructions}
use Rattle.unwind_definitions.specs.State.{State, CalleeSaved, RBX, RBP, R12, R13, R14, R15}
use Rattle.unwind_definitions.specs.Function.{Site, NoAction, Cleanup, Catch}
use Rattle.unwind_definitions.specs.Module.{Module, Process, Frames, bases_of}
use Rattle.unwind_definitions.specs.Delivery.{Delivery, Installed}
use Rattle.frame_facts.specs.Facts.{Slot, Facts}
use Rattle.frame_facts.specs.FactDeliveries.{AskedFrame}
use Rattle.frame_facts.specs.StepFacts.{all_callee_saved}

-- ---- the tables

abbrev pub frames : List ℕ
frames =
    0x14 ∷ 0x00 ∷ 0x00 ∷ 0x00 ∷ 0x00 ∷ 0x00 ∷ 0x00 ∷ 0x00 ∷ 0x01 ∷ 0x7a ∷ 0x52 ∷ 0x00 ∷ 0x01 ∷ 0x78 ∷ 0x10 ∷ 0x01 ∷ 0x1b ∷ 0x0c ∷ 0x07 ∷ 0x08 ∷ 0x90 ∷ 0x01 ∷ 0x00 ∷ 0x00 ∷
    0x10 ∷ 0x00 ∷ 0x00 ∷ 0x00 ∷ 0x1c ∷ 0x00 ∷ 0x00 ∷ 0x00 ∷ 0x10 ∷ 0xf0 ∷ 0xff ∷ 0xff ∷ 0x01 ∷ 0x00 ∷ 0x00 ∷ 0x00 ∷ 0x00 ∷ 0x00 ∷ 0x00 ∷ 0x00 ∷ 0x10 ∷ 0x00 ∷ 0x00 ∷ 0x00 ∷
    0x30 ∷ 0x00 ∷ 0x00 ∷ 0x00 ∷ 0x0c ∷ 0xf0 ∷ 0xff ∷ 0xff ∷ 0x02 ∷ 0x00 ∷ 0x00 ∷ 0x00 ∷ 0x00 ∷ 0x00 ∷ 0x00 ∷ 0x00 ∷ 0x10 ∷ 0x00 ∷ 0x00 ∷ 0x00 ∷ 0x44 ∷ 0x00 ∷ 0x00 ∷ 0x00 ∷
    0x08 ∷ 0xf0 ∷ 0xff ∷ 0xff ∷ 0x04 ∷ 0x00 ∷ 0x00 ∷ 0x00 ∷ 0x00 ∷ 0x00 ∷ 0x00 ∷ 0x00 ∷ 0x10 ∷ 0x00 ∷ 0x00 ∷ 0x00 ∷ 0x58 ∷ 0x00 ∷ 0x00 ∷ 0x00 ∷ 0x04 ∷ 0xf0 ∷ 0xff ∷ 0xff ∷
    0x0f ∷ 0x00 ∷ 0x00 ∷ 0x00 ∷ 0x00 ∷ 0x44 ∷ 0x0e ∷ 0x10 ∷ 0x10 ∷ 0x00 ∷ 0x00 ∷ 0x00 ∷ 0x6c ∷ 0x00 ∷ 0x00 ∷ 0x00 ∷ 0x00 ∷ 0xf0 ∷ 0xff ∷ 0xff ∷ 0x04 ∷ 0x00 ∷ 0x00 ∷ 0x00 ∷
    0x00 ∷ 0x00 ∷ 0x00 ∷ 0x00 ∷ 0x10 ∷ 0x00 ∷ 0x00 ∷ 0x00 ∷ 0x80 ∷ 0x00 ∷ 0x00 ∷ 0x00 ∷ 0xfc ∷ 0xef ∷ 0xff ∷ 0xff ∷ 0x01 ∷ 0x00 ∷ 0x00 ∷ 0x00 ∷ 0x00 ∷ 0x00 ∷ 0x00 ∷ 0x00 ∷
    0x10 ∷ 0x00 ∷ 0x00 ∷ 0x00 ∷ 0x94 ∷ 0x00 ∷ 0x00 ∷ 0x00 ∷ 0xf8 ∷ 0xef ∷ 0xff ∷ 0xff ∷ 0x03 ∷ 0x00 ∷ 0x00 ∷ 0x00 ∷ 0x00 ∷ 0x00 ∷ 0x00 ∷ 0x00 ∷ 0x18 ∷ 0x00 ∷ 0x00 ∷ 0x00 ∷
    0xa8 ∷ 0x00 ∷ 0x00 ∷ 0x00 ∷ 0xf4 ∷ 0xef ∷ 0xff ∷ 0xff ∷ 0x18 ∷ 0x00 ∷ 0x00 ∷ 0x00 ∷ 0x00 ∷ 0x41 ∷ 0x0e ∷ 0x10 ∷ 0x83 ∷ 0x02 ∷ 0x56 ∷ 0x0e ∷ 0x08 ∷ 0x00 ∷ 0x00 ∷ 0x00 ∷
    0x1c ∷ 0x00 ∷ 0x00 ∷ 0x00 ∷ 0x00 ∷ 0x00 ∷ 0x00 ∷ 0x00 ∷ 0x01 ∷ 0x7a ∷ 0x50 ∷ 0x4c ∷ 0x52 ∷ 0x00 ∷ 0x01 ∷ 0x78 ∷ 0x10 ∷ 0x07 ∷ 0x9b ∷ 0x2d ∷ 0x0f ∷ 0x00 ∷ 0x00 ∷ 0x1b ∷
    0x1b ∷ 0x0c ∷ 0x07 ∷ 0x08 ∷ 0x90 ∷ 0x01 ∷ 0x00 ∷ 0x00 ∷ 0x28 ∷ 0x00 ∷ 0x00 ∷ 0x00 ∷ 0x24 ∷ 0x00 ∷ 0x00 ∷ 0x00 ∷ 0xd8 ∷ 0xef ∷ 0xff ∷ 0xff ∷ 0x59 ∷ 0x00 ∷ 0x00 ∷ 0x00 ∷
    0x04 ∷ 0x97 ∷ 0x00 ∷ 0x00 ∷ 0x00 ∷ 0x41 ∷ 0x0e ∷ 0x10 ∷ 0x86 ∷ 0x02 ∷ 0x5e ∷ 0x0d ∷ 0x06 ∷ 0x43 ∷ 0x8e ∷ 0x03 ∷ 0x83 ∷ 0x04 ∷ 0x4e ∷ 0x2e ∷ 0x10 ∷ 0x60 ∷ 0x0a ∷ 0x0c ∷
    0x07 ∷ 0x08 ∷ 0x41 ∷ 0x0b ∷ 0x1c ∷ 0x00 ∷ 0x00 ∷ 0x00 ∷ 0x50 ∷ 0x00 ∷ 0x00 ∷ 0x00 ∷ 0xec ∷ 0xee ∷ 0xff ∷ 0xff ∷ 0x10 ∷ 0x00 ∷ 0x00 ∷ 0x00 ∷ 0x04 ∷ 0x73 ∷ 0x00 ∷ 0x00 ∷
    0x00 ∷ 0x0c ∷ 0x06 ∷ 0x10 ∷ 0x83 ∷ 0x04 ∷ 0x86 ∷ 0x02 ∷ 0x8e ∷ 0x03 ∷ 0x00 ∷ 0x00 ∷ 0x28 ∷ 0x00 ∷ 0x00 ∷ 0x00 ∷ 0x70 ∷ 0x00 ∷ 0x00 ∷ 0x00 ∷ 0xec ∷ 0xef ∷ 0xff ∷ 0xff ∷
    0x42 ∷ 0x00 ∷ 0x00 ∷ 0x00 ∷ 0x04 ∷ 0x5b ∷ 0x00 ∷ 0x00 ∷ 0x00 ∷ 0x41 ∷ 0x0e ∷ 0x10 ∷ 0x86 ∷ 0x02 ∷ 0x62 ∷ 0x0d ∷ 0x06 ∷ 0x41 ∷ 0x83 ∷ 0x03 ∷ 0x49 ∷ 0x2e ∷ 0x10 ∷ 0x4c ∷
    0x0a ∷ 0x0c ∷ 0x07 ∷ 0x08 ∷ 0x41 ∷ 0x0b ∷ 0x00 ∷ 0x00 ∷ 0x18 ∷ 0x00 ∷ 0x00 ∷ 0x00 ∷ 0x9c ∷ 0x00 ∷ 0x00 ∷ 0x00 ∷ 0xb0 ∷ 0xee ∷ 0xff ∷ 0xff ∷ 0x12 ∷ 0x00 ∷ 0x00 ∷ 0x00 ∷
    0x04 ∷ 0x3f ∷ 0x00 ∷ 0x00 ∷ 0x00 ∷ 0x0c ∷ 0x06 ∷ 0x10 ∷ 0x83 ∷ 0x03 ∷ 0x86 ∷ 0x02 ∷ 0x10 ∷ 0x00 ∷ 0x00 ∷ 0x00 ∷ 0x78 ∷ 0x01 ∷ 0x00 ∷ 0x00 ∷ 0xf4 ∷ 0xef ∷ 0xff ∷ 0xff ∷
    0x1f ∷ 0x00 ∷ 0x00 ∷ 0x00 ∷ 0x00 ∷ 0x44 ∷ 0x0e ∷ 0x10 ∷ []

-- the language tables of the four descriptions that name one
abbrev pub languages : List ℕ
languages =
    0xff ∷ 0xff ∷ 0x01 ∷ 0x04 ∷ 0x30 ∷ 0x05 ∷ 0x51 ∷ 0x00 ∷ 0xff ∷ 0xff ∷ 0x01 ∷ 0x04 ∷ 0x0b ∷ 0x05 ∷ 0x00 ∷ 0x00 ∷ 0xff ∷ 0x9b ∷ 0x0d ∷ 0x01 ∷ 0x04 ∷ 0x2d ∷ 0x05 ∷ 0x3a ∷
    0x01 ∷ 0x01 ∷ 0x00 ∷ 0x00 ∷ 0x00 ∷ 0x00 ∷ 0x00 ∷ 0x00 ∷ 0xff ∷ 0x9b ∷ 0x09 ∷ 0x01 ∷ 0x00 ∷ 0x01 ∷ 0x00 ∷ 0x00 ∷ 0x00 ∷ 0x00 ∷ 0x00 ∷ 0x00 ∷ []

-- the cell of their personality
abbrev pub cell : List ℕ
cell = 0x90 ∷ 0x10 ∷ 0x40 ∷ 0x00 ∷ 0x00 ∷ 0x00 ∷ 0x00 ∷ 0x00 ∷ []

abbrev pub table : Input
table = record { base = 0x402000; offset = 0; bytes = frames }

abbrev pub program_at : ℕ → List ℕ → Input
program_at offset bytes = record { base = 0x402000; offset = offset; bytes = bytes }

abbrev pub cie : Cie
cie = record {
  offset = 0;
  version = 1;
  code_factor = 1;
  data_factor = 2 ^ 64 - 8;
  return_column = 16;
  augmentation = 0x7a ∷ 0x52 ∷ [];
  letters = record { language = None; personality = None; address = Some pcrel_sdata4; signal = false };
  program = program_at 17 (0x0c ∷ 0x07 ∷ 0x08 ∷ 0x90 ∷ 0x01 ∷ 0x00 ∷ 0x00 ∷ []);
}

abbrev pub cie_language : Cie
cie_language = record {
  offset = 192;
  version = 1;
  code_factor = 1;
  data_factor = 2 ^ 64 - 8;
  return_column = 16;
  augmentation = 0x7a ∷ 0x50 ∷ 0x4c ∷ 0x52 ∷ [];
  letters = record { language = Some pcrel_sdata4; personality = Some (indirect_pcrel_sdata4, Indirect 0x403000); address = Some pcrel_sdata4; signal = false };
  program = program_at 217 (0x0c ∷ 0x07 ∷ 0x08 ∷ 0x90 ∷ 0x01 ∷ 0x00 ∷ 0x00 ∷ []);
}

abbrev pub work : Fde
work = record { offset = 24; cie = cie; start = 0x401030; size = 1; language = None; program = program_at 41 (0x00 ∷ 0x00 ∷ 0x00 ∷ []) }

abbrev pub throw_here : Fde
throw_here = record { offset = 44; cie = cie; start = 0x401040; size = 2; language = None; program = program_at 61 (0x00 ∷ 0x00 ∷ 0x00 ∷ []) }

abbrev pub release : Fde
release = record { offset = 64; cie = cie; start = 0x401050; size = 4; language = None; program = program_at 81 (0x00 ∷ 0x00 ∷ 0x00 ∷ []) }

abbrev pub resume_unwinding : Fde
resume_unwinding = record { offset = 84; cie = cie; start = 0x401060; size = 15; language = None; program = program_at 101 (0x44 ∷ 0x0e ∷ 0x10 ∷ []) }

abbrev pub begin_catch : Fde
begin_catch = record { offset = 104; cie = cie; start = 0x401070; size = 4; language = None; program = program_at 121 (0x00 ∷ 0x00 ∷ 0x00 ∷ []) }

abbrev pub end_catch : Fde
end_catch = record { offset = 124; cie = cie; start = 0x401080; size = 1; language = None; program = program_at 141 (0x00 ∷ 0x00 ∷ 0x00 ∷ []) }

abbrev pub personality : Fde
personality = record { offset = 144; cie = cie; start = 0x401090; size = 3; language = None; program = program_at 161 (0x00 ∷ 0x00 ∷ 0x00 ∷ []) }

abbrev pub raises : Fde
raises = record { offset = 164; cie = cie; start = 0x4010a0; size = 24; language = None; program = program_at 181 (0x41 ∷ 0x0e ∷ 0x10 ∷ 0x83 ∷ 0x02 ∷ 0x56 ∷ 0x0e ∷ 0x08 ∷ 0x00 ∷ 0x00 ∷ 0x00 ∷ []) }

-- pushes two arguments for its call, and has a cleanup
abbrev pub cleans : Fde
cleans = record { offset = 224; cie = cie_language; start = 0x4010c0; size = 89; language = Some (Direct 0x402188); program = program_at 245 (0x41 ∷ 0x0e ∷ 0x10 ∷ 0x86 ∷ 0x02 ∷ 0x5e ∷ 0x0d ∷ 0x06 ∷ 0x43 ∷ 0x8e ∷ 0x03 ∷ 0x83 ∷ 0x04 ∷ 0x4e ∷ 0x2e ∷ 0x10 ∷ 0x60 ∷ 0x0a ∷ 0x0c ∷ 0x07 ∷ 0x08 ∷ 0x41 ∷ 0x0b ∷ []) }

-- the part of `cleans` that lies apart from it
abbrev pub cleans_part : Fde
cleans_part = record { offset = 268; cie = cie_language; start = 0x401000; size = 16; language = Some (Direct 0x402190); program = program_at 289 (0x0c ∷ 0x06 ∷ 0x10 ∷ 0x83 ∷ 0x04 ∷ 0x86 ∷ 0x02 ∷ 0x8e ∷ 0x03 ∷ 0x00 ∷ 0x00 ∷ []) }

-- the same, with a handler
abbrev pub catches : Fde
catches = record { offset = 300; cie = cie_language; start = 0x401120; size = 66; language = Some (Direct 0x402198); program = program_at 321 (0x41 ∷ 0x0e ∷ 0x10 ∷ 0x86 ∷ 0x02 ∷ 0x62 ∷ 0x0d ∷ 0x06 ∷ 0x41 ∷ 0x83 ∷ 0x03 ∷ 0x49 ∷ 0x2e ∷ 0x10 ∷ 0x4c ∷ 0x0a ∷ 0x0c ∷ 0x07 ∷ 0x08 ∷ 0x41 ∷ 0x0b ∷ 0x00 ∷ 0x00 ∷ []) }

-- that of `catches`
abbrev pub catches_part : Fde
catches_part = record { offset = 344; cie = cie_language; start = 0x401010; size = 18; language = Some (Direct 0x4021a8); program = program_at 365 (0x0c ∷ 0x06 ∷ 0x10 ∷ 0x83 ∷ 0x03 ∷ 0x86 ∷ 0x02 ∷ []) }

abbrev pub start_code : Fde
start_code = record { offset = 372; cie = cie; start = 0x401170; size = 31; language = None; program = program_at 389 (0x44 ∷ 0x0e ∷ 0x10 ∷ []) }

abbrev pub entries : List Entry
entries = ACie cie ∷ AFde work ∷ AFde throw_here ∷ AFde release ∷ AFde resume_unwinding ∷ AFde begin_catch ∷ AFde end_catch ∷ AFde personality ∷ AFde raises ∷ ACie cie_language ∷ AFde cleans ∷ AFde cleans_part ∷ AFde catches ∷ AFde catches_part ∷ AFde start_code ∷ []

abbrev pub fdes : List Fde
fdes = work ∷ throw_here ∷ release ∷ resume_unwinding ∷ begin_catch ∷ end_catch ∷ personality ∷ raises ∷ cleans ∷ cleans_part ∷ catches ∷ catches_part ∷ start_code ∷ []

abbrev pub home : Module
home = record { start = 0x401000; end = 0x40118f; text = None; tables = Frames 0x402000 }

abbrev pub bases : Bases
bases = bases_of home 0x402000

-- ---- the stack

abbrev pub stack : List ℕ
stack =
    0x09 ∷ 0x00 ∷ 0x00 ∷ 0x00 ∷ 0x00 ∷ 0x00 ∷ 0x00 ∷ 0x00 ∷ 0xf5 ∷ 0x10 ∷ 0x40 ∷ 0x00 ∷ 0x00 ∷ 0x00 ∷ 0x00 ∷ 0x00 ∷ 0x10 ∷ 0x00 ∷ 0x00 ∷ 0x00 ∷ 0x00 ∷ 0x00 ∷ 0x00 ∷ 0x00 ∷
    0x09 ∷ 0x00 ∷ 0x00 ∷ 0x00 ∷ 0x00 ∷ 0x00 ∷ 0x00 ∷ 0x00 ∷ 0x09 ∷ 0x00 ∷ 0x00 ∷ 0x00 ∷ 0x00 ∷ 0x00 ∷ 0x00 ∷ 0x00 ∷ 0x00 ∷ 0x00 ∷ 0x00 ∷ 0x00 ∷ 0x00 ∷ 0x00 ∷ 0x00 ∷ 0x00 ∷
    0xb8 ∷ 0xed ∷ 0xff ∷ 0xff ∷ 0xff ∷ 0x7f ∷ 0x00 ∷ 0x00 ∷ 0x52 ∷ 0x11 ∷ 0x40 ∷ 0x00 ∷ 0x00 ∷ 0x00 ∷ 0x00 ∷ 0x00 ∷ 0x10 ∷ 0x00 ∷ 0x00 ∷ 0x00 ∷ 0x00 ∷ 0x00 ∷ 0x00 ∷ 0x00 ∷
    0x09 ∷ 0x00 ∷ 0x00 ∷ 0x00 ∷ 0x00 ∷ 0x00 ∷ 0x00 ∷ 0x00 ∷ 0x00 ∷ 0x00 ∷ 0x00 ∷ 0x00 ∷ 0x00 ∷ 0x00 ∷ 0x00 ∷ 0x00 ∷ 0x00 ∷ 0x00 ∷ 0x00 ∷ 0x00 ∷ 0x00 ∷ 0x00 ∷ 0x00 ∷ 0x00 ∷
    0x00 ∷ 0x00 ∷ 0x00 ∷ 0x00 ∷ 0x00 ∷ 0x00 ∷ 0x00 ∷ 0x00 ∷ 0x7e ∷ 0x11 ∷ 0x40 ∷ 0x00 ∷ 0x00 ∷ 0x00 ∷ 0x00 ∷ 0x00 ∷ 0x00 ∷ 0x00 ∷ 0x00 ∷ 0x00 ∷ 0x00 ∷ 0x00 ∷ 0x00 ∷ 0x00 ∷
    0x01 ∷ 0x00 ∷ 0x00 ∷ 0x00 ∷ 0x00 ∷ 0x00 ∷ 0x00 ∷ 0x00 ∷ []

abbrev pub image : List Span
image =
    record { start = 0x402000; bytes = frames } ∷
    record { start = 0x402188; bytes = languages } ∷
    record { start = 0x403000; bytes = cell } ∷
    record { start = 0x7fffffffed58; bytes = stack } ∷
    []

abbrev pub process : Process
process = record { image = image; modules = home ∷ [] }

abbrev pub state : (ra sp rbx rbp : ℕ) → State
state ra sp rbx rbp = record { ra = ra; sp = sp; rbx = rbx; rbp = rbp; r12 = 0; r13 = 0; r14 = 0; r15 = 0 }

abbrev pub in_raises : State
in_raises = state 0x4010ae 0x7fffffffed58 0x1 0x7fffffffed88

abbrev pub in_cleans : State
in_cleans = state 0x4010f5 0x7fffffffed68 0x9 0x7fffffffed88

abbrev pub in_catches : State
in_catches = state 0x401152 0x7fffffffed98 0x9 0x7fffffffedb8

abbrev pub in_start : State
in_start = state 0x40117e 0x7fffffffedc8 0x0 0x0

-- above the frame of _start lies the number of the program's words, which would be its return address
abbrev pub outside : State
outside = state 0x1 0x7fffffffedd8 0x0 0x0

-- the states of the callers
abbrev pub callers : List State
callers = in_cleans ∷ in_catches ∷ in_start ∷ outside ∷ []

-- after the cleanup, where the call in its part returns to, past the two arguments; that address ends the part
abbrev pub cleaned : State
cleaned = state 0x401010 0x7fffffffed78 0x9 0x7fffffffed88

-- ---- what is known

abbrev pub slot_of : CalleeSaved → ℕ → Slot
slot_of r d = record { register = r; distance = d }

abbrev pub known_in_raises : Facts
known_in_raises = record { rsp = Some 16; rbp = None; saved = slot_of RBX 16 ∷ []; kept = RBP ∷ R12 ∷ R13 ∷ R14 ∷ R15 ∷ []; outermost = false }

abbrev pub known_in_cleans : Facts
known_in_cleans = record { rsp = Some 48; rbp = Some 16; saved = slot_of RBP 16 ∷ slot_of R14 24 ∷ slot_of RBX 32 ∷ []; kept = R12 ∷ R13 ∷ R15 ∷ []; outermost = false }

-- once its two arguments are popped
abbrev pub known_when_cleaned : Facts
known_when_cleaned = record known_in_cleans { rsp = Some 32 }

abbrev pub known_in_catches : Facts
known_in_catches = record { rsp = Some 48; rbp = Some 16; saved = slot_of RBP 16 ∷ slot_of RBX 24 ∷ []; kept = R12 ∷ R13 ∷ R14 ∷ R15 ∷ []; outermost = false }

abbrev pub known_in_start : Facts
known_in_start = record { rsp = Some 16; rbp = None; saved = []; kept = all_callee_saved; outermost = false }

-- ---- what is asked

abbrev pub sites_of_cleans : List Site
sites_of_cleans = record { range = record { from = 0x4010f0; to = 0x4010f5 }; action = Cleanup 0x401111 } ∷ []

abbrev pub sites_of_part : List Site
sites_of_part = record { range = record { from = 0x40100b; to = 0x401010 }; action = NoAction } ∷ []

abbrev pub sites_of_catches : List Site
sites_of_catches = record { range = record { from = 0x40114d; to = 0x401152 }; action = Catch 0x40115a } ∷ []

-- the frames, each with what it asks and the size of its arguments
abbrev pub asked : List AskedFrame
asked =
    record { state = in_raises; action = NoAction; arguments = 0 } ∷
    record { state = in_cleans; action = Cleanup 0x401111; arguments = 16 } ∷
    record { state = in_catches; action = Catch 0x40115a; arguments = 16 } ∷
    record { state = in_start; action = NoAction; arguments = 0 } ∷
    []

abbrev pub exception : ℕ
exception = 0x900000

-- the cleanup at this pad goes on after the call that ends it
abbrev pub resumes : List (ℕ × ℕ)
resumes = (0x401111, 0x401010) ∷ []

abbrev pub delivery : Delivery
delivery = record {
  visited = in_raises ∷ in_cleans ∷ in_catches ∷ [];
  trail = (0x401111, 0x7fffffffed78) ∷ [];
  landing = Some (record { state = state 0x40115a 0x7fffffffeda8 0x9 0x7fffffffedb8; rax = exception; rdx = 0 });
  outcome = Installed;
}

-- ---- rows

abbrev pub common_rules : List Instruction
common_rules = Cfa column.rsp 8 ∷ Write column.ra (Offset (2 ^ 64 - 8)) ∷ Nop ∷ Nop ∷ []

abbrev pub saves : ℕ → ℕ → Instruction
saves c d = Write c (Offset (2 ^ 64 - d))

abbrev pub row_in_raises : RowInstructions
row_in_raises = record { common = common_rules; own = Advance 1 ∷ CfaOffset 16 ∷ saves column.rbx 16 ∷ [] }

abbrev pub row_in_cleans : RowInstructions
row_in_cleans = record { common = common_rules; own = Advance 1 ∷ CfaOffset 16 ∷ saves column.rbp 16 ∷ Advance 30 ∷ CfaColumn column.rbp ∷ Advance 3 ∷ saves column.r14 24 ∷ saves column.rbx 32 ∷ Advance 14 ∷ Arguments 16 ∷ [] }

abbrev pub row_in_part : RowInstructions
row_in_part = record { common = common_rules; own = Cfa column.rbp 16 ∷ saves column.rbx 32 ∷ saves column.rbp 16 ∷ saves column.r14 24 ∷ Nop ∷ Nop ∷ [] }

abbrev pub row_in_catches : RowInstructions
row_in_catches = record { common = common_rules; own = Advance 1 ∷ CfaOffset 16 ∷ saves column.rbp 16 ∷ Advance 34 ∷ CfaColumn column.rbp ∷ Advance 1 ∷ saves column.rbx 24 ∷ Advance 9 ∷ Arguments 16 ∷ [] }

abbrev pub row_in_start : RowInstructions
row_in_start = record { common = common_rules; own = Advance 4 ∷ CfaOffset 16 ∷ [] }
