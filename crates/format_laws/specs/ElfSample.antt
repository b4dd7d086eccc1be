-- The function that pushes R15, R14 and RBX, described by a frame table whose save records come late.
use Rattle.std.specs.Prelude.{ℕ, ◌-◌, ◌^◌, ◌++◌, false, List, [], ◌∷◌, None}
use Rattle.memory_image.specs.Image.{Span}
use Rattle.unwind_definitions.specs.Columns as column
use Rattle.unwind_definitions.specs.Input.{Input}
use Rattle.unwind_definitions.specs.Pointers.{Bases}
use Rattle.unwind_definitions.specs.Instructions.{Instruction, Nop, Advance, Write, Cfa, CfaOffset, Offset}
use Rattle.unwind_definitions.specs.Entries.{Fde, Entry, ACie, AFde}
use Rattle.unwind_definitions.specs.Row.{RowInstructions}
use Rattle.unwind_definitions.specs.State.{State}
use Rattle.unwind_definitions.specs.Function.{Function}
use Rattle.unwind_definitions.specs.Module.{Module, Frames, bases_of}
use Rattle.unwind_laws.specs.Pushing.{cie}
use Rattle.format_laws.specs.PeSamples.{word, pushes_done, pushes_later}

abbrev pub frames : List ℕ
frames = 0x14 ∷ 0x00 ∷ 0x00 ∷ 0x00 ∷ 0x00 ∷ 0x00 ∷ 0x00 ∷ 0x00 ∷ 0x01 ∷ 0x7a ∷ 0x52 ∷ 0x00 ∷ 0x01 ∷ 0x78 ∷ 0x10 ∷ 0x01 ∷ 0x1b ∷ 0x0c ∷ 0x07 ∷ 0x08 ∷ 0x90 ∷ 0x01 ∷ 0x00 ∷ 0x00 ∷
    0x1c ∷ 0x00 ∷ 0x00 ∷ 0x00 ∷ 0x1c ∷ 0x00 ∷ 0x00 ∷ 0x00 ∷ 0xe0 ∷ 0x1f ∷ 0xf0 ∷ 0xff ∷ 0x20 ∷ 0x00 ∷ 0x00 ∷ 0x00 ∷ 0x00 ∷ 0x42 ∷ 0x0e ∷ 0x10 ∷ 0x42 ∷ 0x0e ∷ 0x18 ∷ 0x41 ∷ 0x0e ∷ 0x20 ∷
    0x83 ∷ 0x04 ∷ 0x8e ∷ 0x03 ∷ 0x8f ∷ 0x02 ∷ 0x00 ∷ 0x00 ∷ 0x00 ∷ 0x00 ∷ []

abbrev pub image : List Span
image = record { start = 0x7000; bytes = word 0x14 ++ (word 0x15 ++ word 0) } ∷ record { start = 0x500000; bytes = frames } ∷ []

abbrev pub table : Input
table = record { base = 0x500000; offset = 0; bytes = frames }

abbrev pub module_of_it : Module
module_of_it = record { start = 0x402000; end = 0x402020; text = None; tables = Frames 0x500000 }

abbrev pub bases : Bases
bases = bases_of module_of_it 0x500000

abbrev pub fde : Fde
fde = record {
  offset = 24;
  cie = cie;
  start = 0x402000;
  size = 0x20;
  language = None;
  program = record { base = 0x500000; offset = 41; bytes = 0x42 ∷ 0x0e ∷ 0x10 ∷ 0x42 ∷ 0x0e ∷ 0x18 ∷ 0x41 ∷ 0x0e ∷ 0x20 ∷ 0x83 ∷ 0x04 ∷ 0x8e ∷ 0x03 ∷ 0x8f ∷ 0x02 ∷ [] };
}

abbrev pub entries : List Entry
entries = ACie cie ∷ AFde fde ∷ []

abbrev pub run_of : List Instruction → RowInstructions
run_of own = record { common = Cfa column.rsp 8 ∷ Write column.ra (Offset (2 ^ 64 - 8)) ∷ Nop ∷ Nop ∷ []; own = own }

-- the program up to each address where it has another row
abbrev pub pushed_one : List Instruction
pushed_one = Advance 2 ∷ CfaOffset 16 ∷ []

abbrev pub pushed_two : List Instruction
pushed_two = Advance 2 ∷ CfaOffset 16 ∷ Advance 2 ∷ CfaOffset 24 ∷ []

abbrev pub pushed_all : List Instruction
pushed_all = Advance 2 ∷ CfaOffset 16 ∷ Advance 2 ∷ CfaOffset 24 ∷ Advance 1 ∷ CfaOffset 32 ∷ Write column.rbx (Offset (2 ^ 64 - 32)) ∷ Write column.r14 (Offset (2 ^ 64 - 24)) ∷ Write column.r15 (Offset (2 ^ 64 - 16)) ∷ []

abbrev pub function : Function
function = record { start = 0x402000; end = 0x402020; prologue = pushes_done ++ pushes_later; bodies = record { from = 0x402005; to = 0x402020 } ∷ []; sites = None; outermost = false }

-- stopped after the second push, of which the table doesn't yet tell
abbrev pub state : State
state = record { ra = 0x402004; sp = 0x7000; rbx = 9; rbp = 0; r12 = 0; r13 = 0; r14 = 0x14; r15 = 0x15 }

abbrev pub caller : State
caller = record { ra = 0; sp = 0x7018; rbx = 9; rbp = 0; r12 = 0; r13 = 0; r14 = 0x14; r15 = 0x15 }
