-- Functions of PE modules with epilogs at their ends, of which one gives the stack back by `lea`, and one is listed by a record of
-- version 2 as the one that ends with the function. Both were called from one state.
use Rattle.std.specs.Prelude.{false, List, [], ◌∷◌, ◌++◌, replicate, None}
use Rattle.memory_image.specs.Image.{Span}
use Rattle.unwind_definitions.specs.State.{State, RBX, RBP}
use Rattle.unwind_definitions.specs.Prologue.{Followed, Push, Allocate, SetFrame}
use Rattle.unwind_definitions.specs.Function.{Function}
use Rattle.unwind_definitions.specs.Chain.{Call}
use Rattle.pe_unwind_info.specs.Info.{Info}
use Rattle.format_laws.specs.PeSamples.{word, far, header, table_bytes}
use Rattle.format_samples.specs.StopSamples.{returning_caller}

-- ---- a function that pushes RBP, allocates 64, and sets RBP 32 above the stack pointer

-- push rbp; sub rsp, 64; lea rbp, [rsp + 32]; nops; lea rsp, [rbp + 32]; pop rbp; ret; and after the function int3
abbrev pub framed_image : List Span
framed_image = record { start = 0x6ff8; bytes = word 2 ++ far 0x60 0x10 0x40 0 0 } ∷
    record { start = 0x140001000; bytes = 0x55 ∷ 0x48 ∷ 0x83 ∷ 0xec ∷ 0x40 ∷ 0x48 ∷ 0x8d ∷ 0x6c ∷ 0x24 ∷ 0x20 ∷ (replicate 48 0x90 ++ (0x48 ∷ 0x8d ∷ 0x65 ∷ 0x20 ∷ 0x5d ∷ 0xc3 ∷ replicate 16 0xcc)) } ∷
    record { start = 0x140002000; bytes = table_bytes 0x40 0x10 } ∷
    record { start = 0x140002010; bytes = 0x01 ∷ 0x0a ∷ 0x03 ∷ 0x25 ∷ 0x0a ∷ 0x03 ∷ 0x05 ∷ 0x72 ∷ 0x01 ∷ 0x50 ∷ 0 ∷ 0 ∷ [] } ∷ []

abbrev pub framed_info : Info
framed_info = record { header = header 0x01 0x0a 0x03 0x25; slots = 0x0a ∷ 0x03 ∷ 0x05 ∷ 0x72 ∷ 0x01 ∷ 0x50 ∷ []; after = [] }

abbrev pub framed_function : Function
framed_function = record {
  start = 0x140001000;
  end = 0x140001040;
  prologue = record { step = Push (Followed RBP); end = 1 } ∷ record { step = Allocate 64; end = 5 } ∷ record { step = SetFrame 32; end = 10 } ∷ [];
  bodies = record { from = 0x14000100a; to = 0x14000103a } ∷ [];
  sites = None;
  outermost = false;
}

abbrev pub framed_call : Call
framed_call = record { callee = framed_function; caller = returning_caller }

-- before the lea, below what the prologue left
abbrev pub at_lea : State
at_lea = record returning_caller { ra = 0x14000103a; sp = 0x6f80; rbp = 0x6fd8 }

-- ---- a function that pushes RBX

-- push rbx; nops; pop rbx; ret; and after the function int3
abbrev pub listed_image : List Span
listed_image = record { start = 0x6ff8; bytes = word 9 ++ far 0x60 0x10 0x40 0 0 } ∷
    record { start = 0x140001000; bytes = 0x53 ∷ (replicate 61 0x90 ++ (0x5b ∷ 0xc3 ∷ replicate 16 0xcc)) } ∷
    record { start = 0x140002000; bytes = table_bytes 0x40 0x10 } ∷
    record { start = 0x140002010; bytes = 0x02 ∷ 0x01 ∷ 0x02 ∷ 0x00 ∷ 0x02 ∷ 0x16 ∷ 0x01 ∷ 0x30 ∷ [] } ∷ []

abbrev pub listed_info : Info
listed_info = record { header = header 0x02 0x01 0x02 0x00; slots = 0x02 ∷ 0x16 ∷ 0x01 ∷ 0x30 ∷ []; after = [] }

abbrev pub listed_function : Function
listed_function = record {
  start = 0x140001000;
  end = 0x140001040;
  prologue = record { step = Push (Followed RBX); end = 1 } ∷ [];
  bodies = record { from = 0x140001001; to = 0x14000103e } ∷ [];
  sites = None;
  outermost = false;
}

abbrev pub listed_call : Call
listed_call = record { callee = listed_function; caller = returning_caller }
