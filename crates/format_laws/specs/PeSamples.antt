-- PE modules byte for byte, their functions, and states of them.
use Rattle.std.specs.Prelude.{ℕ, false, List, [], ◌∷◌, ◌++◌, replicate, None}
use Rattle.memory_image.specs.Image.{Span}
use Rattle.unwind_definitions.specs.State.{State, RBX, RBP, R14, R15}
use Rattle.unwind_definitions.specs.Prologue.{Followed, RDI, RSI, XMM, Push, Allocate, SetFrame, Store, PrologueStep}
use Rattle.unwind_definitions.specs.Function.{Function}
use Rattle.unwind_laws.specs.Three as three
use Rattle.unwind_laws.specs.Windows as windows
use Rattle.macho_unwind_info.specs.Sample.{described_bytes}
use Rattle.pe_unwind_info.specs.declared.x86_64.function_table.RuntimeFunction.{RuntimeFunction}
use Rattle.pe_unwind_info.specs.declared.x86_64.unwind_info.UnwindInfoHeader.{UnwindInfoHeader}
use Rattle.pe_unwind_info.specs.Info.{Info}
use Rattle.format_definitions.specs.PeImage.{PeModule}

-- a module of three pages whose function table has one record
abbrev pub module_of_one : PeModule
module_of_one = record { base = 0x140000000; size = 0x3000; table_rva = 0x2000; table_size = 12 }

-- a word below 256
abbrev pub word : ℕ → List ℕ
word n = n ∷ replicate 7 0

-- a word of five bytes
abbrev pub far : ℕ → ℕ → ℕ → ℕ → ℕ → List ℕ
far a b c d e = a ∷ b ∷ c ∷ d ∷ e ∷ 0 ∷ 0 ∷ 0 ∷ []

-- the record of a function that begins at 0x1000, and whose unwind record stands at 0x2010
abbrev pub table_bytes : ℕ → ℕ → List ℕ
table_bytes low high = 0x00 ∷ 0x10 ∷ 0 ∷ 0 ∷ low ∷ high ∷ 0 ∷ 0 ∷ 0x10 ∷ 0x20 ∷ 0 ∷ 0 ∷ []

abbrev pub header : ℕ → ℕ → ℕ → ℕ → UnwindInfoHeader
header flags size count frame = record { version_and_flags = flags; prolog_size = size; unwind_codes_len = count; frame_register_and_offset = frame }

-- ---- a function that pushes R15, R14 and RBX

abbrev pub pushes_image : List Span
pushes_image = record { start = 0x7000; bytes = word 0x14 ++ (word 0x15 ++ word 0) } ∷
    record { start = 0x140001000; bytes = 0x41 ∷ 0x57 ∷ 0x41 ∷ 0x56 ∷ 0x53 ∷ replicate 27 0x90 } ∷
    record { start = 0x140002000; bytes = table_bytes 0x20 0x10 } ∷
    record { start = 0x140002010; bytes = 0x01 ∷ 0x05 ∷ 0x03 ∷ 0x00 ∷ 0x05 ∷ 0x30 ∷ 0x04 ∷ 0xe0 ∷ 0x02 ∷ 0xf0 ∷ 0 ∷ 0 ∷ [] } ∷ []

abbrev pub pushes_record : RuntimeFunction
pushes_record = record { begin_address = 0x1000; end_address = 0x1020; unwind_info_address = 0x2010 }

abbrev pub pushes_info : Info
pushes_info = record { header = header 0x01 0x05 0x03 0x00; slots = 0x05 ∷ 0x30 ∷ 0x04 ∷ 0xe0 ∷ 0x02 ∷ 0xf0 ∷ []; after = [] }

-- the first two steps, and the last
abbrev pub pushes_done : List PrologueStep
pushes_done = record { step = Push (Followed R15); end = 2 } ∷ record { step = Push (Followed R14); end = 4 } ∷ []

abbrev pub pushes_later : List PrologueStep
pushes_later = record { step = Push (Followed RBX); end = 5 } ∷ []

abbrev pub pushes_function : Function
pushes_function = record { start = 0x140001000; end = 0x140001020; prologue = pushes_done ++ pushes_later; bodies = record { from = 0x140001005; to = 0x140001020 } ∷ []; sites = None; outermost = false }

-- stopped after the second push
abbrev pub pushes_state : State
pushes_state = record { ra = 0x140001004; sp = 0x7000; rbx = 9; rbp = 0; r12 = 0; r13 = 0; r14 = 0x14; r15 = 0x15 }

abbrev pub pushes_caller : State
pushes_caller = record { ra = 0; sp = 0x7018; rbx = 9; rbp = 0; r12 = 0; r13 = 0; r14 = 0x14; r15 = 0x15 }

-- ---- a function that pushes RBX, with an epilog in its midst that a record of version 2 lists

abbrev pub epilog_regions : List Span
epilog_regions = record { start = 0x140001000; bytes = replicate 736 0x90 ++ (0x5b ∷ 0xc3 ∷ replicate 286 0x90) } ∷
    record { start = 0x140002000; bytes = table_bytes 0x00 0x14 } ∷
    record { start = 0x140002010; bytes = 0x02 ∷ 0x01 ∷ 0x03 ∷ 0x00 ∷ 0x02 ∷ 0x06 ∷ 0x20 ∷ 0x16 ∷ 0x01 ∷ 0x30 ∷ 0 ∷ 0 ∷ [] } ∷ []

-- the stack from the pushed RBX on, and from the return address on
abbrev pub epilog_image : List Span
epilog_image = record { start = 0x6ff8; bytes = word 9 ++ word 0 } ∷ epilog_regions

abbrev pub short_epilog_image : List Span
short_epilog_image = record { start = 0x7000; bytes = word 0 } ∷ epilog_regions

abbrev pub epilog_record : RuntimeFunction
epilog_record = record { begin_address = 0x1000; end_address = 0x1400; unwind_info_address = 0x2010 }

abbrev pub epilog_info : Info
epilog_info = record { header = header 0x02 0x01 0x03 0x00; slots = 0x02 ∷ 0x06 ∷ 0x20 ∷ 0x16 ∷ 0x01 ∷ 0x30 ∷ []; after = [] }

abbrev pub epilog_function : Function
epilog_function = record {
  start = 0x140001000;
  end = 0x140001400;
  prologue = record { step = Push (Followed RBX); end = 1 } ∷ [];
  bodies = record { from = 0x140001001; to = 0x1400012e0 } ∷ record { from = 0x1400012e2; to = 0x140001400 } ∷ [];
  sites = None;
  outermost = false;
}

-- before the pop, where RBX holds another value, and after it
abbrev pub epilog_start : State
epilog_start = record { ra = 0x1400012e0; sp = 0x6ff8; rbx = 7; rbp = 0; r12 = 0; r13 = 0; r14 = 0; r15 = 0 }

abbrev pub epilog_state : State
epilog_state = record { ra = 0x1400012e1; sp = 0x7000; rbx = 9; rbp = 0; r12 = 0; r13 = 0; r14 = 0; r15 = 0 }

abbrev pub epilog_caller : State
epilog_caller = record { ra = 0; sp = 0x7008; rbx = 9; rbp = 0; r12 = 0; r13 = 0; r14 = 0; r15 = 0 }

-- ---- a record that goes on with itself

abbrev pub loop_image : List Span
loop_image = record { start = 0x140001000; bytes = replicate 256 0x90 } ∷
    record { start = 0x140002000; bytes = table_bytes 0x00 0x11 } ∷
    record { start = 0x140002010; bytes = 0x21 ∷ 0 ∷ 0 ∷ 0 ∷ table_bytes 0x00 0x11 } ∷ []

abbrev pub loop_record : RuntimeFunction
loop_record = record { begin_address = 0x1000; end_address = 0x1100; unwind_info_address = 0x2010 }

abbrev pub loop_info : Info
loop_info = record { header = header 0x21 0 0 0; slots = []; after = table_bytes 0x00 0x11 }

abbrev pub loop_state : State
loop_state = record { ra = 0x140001050; sp = 0x7000; rbx = 0; rbp = 0; r12 = 0; r13 = 0; r14 = 0; r15 = 0 }

-- ---- a function that pushes RBX and allocates 40

-- Beside it an ELF module with three functions and a Mach-O module, and a stack: a function of the Mach-O module was called by this
-- one, and this one by the third of the ELF module. Below them lie the frames of three deeper calls, where this one was called by
-- the second of the ELF module, and that by the third.
abbrev pub deeper_stack : List ℕ
deeper_stack = far 0x50 0x10 0 0x40 0x01 ++ word 0

abbrev pub room_stack : List ℕ
room_stack = deeper_stack ++ (far 0x50 0x10 0 0x40 0x01 ++ (replicate 24 0 ++ (word 0x11 ++ (far 0x30 0x10 0x40 0 0 ++ (word 0x22 ++ (far 0x60 0x10 0x40 0 0 ++ (word 0 ++ (word 0x0b ++ (word 0x0e ++ word 0)))))))))

abbrev pub room_image : List Span
room_image = record { start = 0x7090; bytes = room_stack } ∷
    record { start = 0x500000; bytes = three.frames } ∷
    record { start = 0x502000; bytes = three.languages } ∷
    record { start = 0x503000; bytes = three.cell } ∷
    record { start = 0x600000; bytes = described_bytes } ∷
    record { start = 0x140001000; bytes = replicate 256 0x90 } ∷
    record { start = 0x140002000; bytes = table_bytes 0x00 0x11 } ∷
    record { start = 0x140002010; bytes = 0x01 ∷ 0x05 ∷ 0x02 ∷ 0x00 ∷ 0x05 ∷ 0x42 ∷ 0x01 ∷ 0x30 ∷ [] } ∷ []

abbrev pub room_info : Info
room_info = record { header = header 0x01 0x05 0x02 0x00; slots = 0x05 ∷ 0x42 ∷ 0x01 ∷ 0x30 ∷ []; after = [] }

abbrev pub room_function : Function
room_function = record {
  start = 0x140001000;
  end = 0x140001100;
  prologue = record { step = Push (Followed RBX); end = 1 } ∷ record { step = Allocate 40; end = 5 } ∷ [];
  bodies = record { from = 0x140001005; to = 0x140001100 } ∷ [];
  sites = None;
  outermost = false;
}

-- a leaf after it
abbrev pub leaf_function : Function
leaf_function = record { start = 0x140001100; end = 0x140001110; prologue = []; bodies = record { from = 0x140001100; to = 0x140001110 } ∷ []; sites = None; outermost = false }

abbrev pub leaf_state : State
leaf_state = record { ra = 0x140001104; sp = 0x70d8; rbx = 0x22; rbp = 0xc; r12 = 0; r13 = 0; r14 = 0x2e; r15 = 0 }

abbrev pub room_state : State
room_state = record { ra = 0x140001050; sp = 0x70a8; rbx = 0x11; rbp = 0xc; r12 = 0; r13 = 0; r14 = 0x2e; r15 = 0 }

abbrev pub room_caller : State
room_caller = record { ra = 0x401060; sp = 0x70e0; rbx = 0x22; rbp = 0xc; r12 = 0; r13 = 0; r14 = 0x2e; r15 = 0 }

-- ---- a function whose record goes on with another, sets RBP, and stores registers

-- the function and the stack of a call of it that the laws of the call machine show
abbrev pub chained_first : List ℕ
chained_first = 0x18 ∷ 0x69 ∷ 40 ∷ 0 ∷ 0 ∷ 0 ∷ 0x13 ∷ 0x64 ∷ 3 ∷ 0 ∷ 0x0e ∷ 0x34 ∷ 2 ∷ 0 ∷ 0x09 ∷ 0x03 ∷ 0x04 ∷ 0x72 ∷ []

-- the record that it goes on with stands at 0x2040
abbrev pub chained_trailer : List ℕ
chained_trailer = 0x00 ∷ 0x10 ∷ 0 ∷ 0 ∷ 0x00 ∷ 0x11 ∷ 0 ∷ 0 ∷ 0x40 ∷ 0x20 ∷ 0 ∷ 0 ∷ []

abbrev pub chained_image : List Span
chained_image = record { start = 0x7fa8; bytes = windows.stack } ∷
    record { start = 0x140001000; bytes = replicate 256 0x90 } ∷
    record { start = 0x140002000; bytes = table_bytes 0x00 0x11 } ∷
    record { start = 0x140002010; bytes = 0x21 ∷ 0x18 ∷ 9 ∷ 0x25 ∷ (chained_first ++ 0 ∷ 0 ∷ chained_trailer) } ∷
    record { start = 0x140002040; bytes = 0x01 ∷ 0x02 ∷ 2 ∷ 0x25 ∷ 0x02 ∷ 0x50 ∷ 0x01 ∷ 0x70 ∷ [] } ∷ []

abbrev pub chained_info : Info
chained_info = record { header = header 0x21 0x18 9 0x25; slots = chained_first; after = chained_trailer }

abbrev pub inherited_info : Info
inherited_info = record { header = header 0x01 0x02 2 0x25; slots = 0x02 ∷ 0x50 ∷ 0x01 ∷ 0x70 ∷ []; after = [] }

abbrev pub inherited_steps : List PrologueStep
inherited_steps = record { step = Push RDI; end = 0 } ∷ record { step = Push (Followed RBP); end = 0 } ∷ []

abbrev pub own_steps : List PrologueStep
own_steps = record { step = Allocate 64; end = 4 } ∷ record { step = SetFrame 32; end = 9 } ∷ record { step = Store (Followed RBX) 16; end = 14 } ∷ record { step = Store RSI 24; end = 19 } ∷
    record { step = Store (XMM 6) 40; end = 24 } ∷ []
