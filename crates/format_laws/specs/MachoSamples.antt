-- Mach-O modules byte for byte, their functions, and states of them.
use Rattle.std.specs.Prelude.{ℕ, false, List, [], ◌∷◌, ◌++◌, replicate, None}
use Rattle.memory_image.specs.Image.{Span}
use Rattle.unwind_definitions.specs.State.{State, RBX, RBP, R12, R13, R14, R15}
use Rattle.unwind_definitions.specs.Prologue.{Followed, Push, Allocate, SetFrame}
use Rattle.unwind_definitions.specs.Function.{Function}
use Rattle.macho_unwind_info.specs.Sample.{described_bytes, damaged_bytes}
use Rattle.format_definitions.specs.CompactStep.{MachoModule}
use Rattle.format_laws.specs.PeSamples.{word, far}

abbrev pub sample_module : MachoModule
sample_module = record { base = 0x100000000; size = 0x4000; unwind_info = 0x600000; frames = None }

-- ---- a section with a frameless function and one with a frame pointer

abbrev pub stack : Span
stack = record { start = 0x70a0; bytes = far 0x50 0x10 0 0x40 0x01 ++ (replicate 56 0 ++ (word 0x22 ++ (word 0x0c ++ far 0x60 0x10 0x40 0 0))) }

abbrev pub image : List Span
image = stack ∷ record { start = 0x600000; bytes = described_bytes } ∷ []

-- the same where an entry names an opcode that isn't there
abbrev pub damaged_image : List Span
damaged_image = stack ∷ record { start = 0x600000; bytes = damaged_bytes } ∷ []

abbrev pub frameless_function : Function
frameless_function = record { start = 0x100001000; end = 0x100001100; prologue = []; bodies = record { from = 0x100001000; to = 0x100001100 } ∷ []; sites = None; outermost = false }

-- pushes RBP, sets it, and pushes RBX
abbrev pub framed_function : Function
framed_function = record {
  start = 0x100002000;
  end = 0x100003000;
  prologue = record { step = Push (Followed RBP); end = 1 } ∷ record { step = SetFrame 0; end = 4 } ∷ record { step = Push (Followed RBX); end = 5 } ∷ [];
  bodies = record { from = 0x100002005; to = 0x100003000 } ∷ [];
  sites = None;
  outermost = false;
}

abbrev pub frameless_state : State
frameless_state = record { ra = 0x100001010; sp = 0x70a0; rbx = 0x11; rbp = 0xc; r12 = 0; r13 = 0; r14 = 0x2e; r15 = 0 }

abbrev pub frameless_caller : State
frameless_caller = record frameless_state { ra = 0x140001050; sp = 0x70a8 }

-- below what its prologue left
abbrev pub framed_state : State
framed_state = record { ra = 0x100002010; sp = 0x70c0; rbx = 1; rbp = 0x70e8; r12 = 2; r13 = 3; r14 = 4; r15 = 5 }

abbrev pub framed_caller : State
framed_caller = record { ra = 0x401060; sp = 0x70f8; rbx = 0x22; rbp = 0x0c; r12 = 2; r13 = 3; r14 = 4; r15 = 5 }

-- ---- a function that saves all registers, whose size stands in its code

abbrev pub indirect_word : ℕ
indirect_word = 0x030df800

abbrev pub indirect_image : List Span
indirect_image = record { start = 0x9000; bytes = word 1 ++ (word 2 ++ (word 3 ++ (word 4 ++ (word 5 ++ (word 6 ++ word 7))))) } ∷
    record { start = 0x100003000; bytes = 0x55 ∷ 0x41 ∷ 0x57 ∷ 0x41 ∷ 0x56 ∷ 0x41 ∷ 0x55 ∷ 0x41 ∷ 0x54 ∷ 0x53 ∷ 0x48 ∷ 0x81 ∷ 0xec ∷ 0x00 ∷ 0x10 ∷ 0x00 ∷ 0x00 ∷ replicate 15 0x90 } ∷ []

abbrev pub indirect_function : Function
indirect_function = record {
  start = 0x100003000;
  end = 0x100003020;
  prologue = record { step = Push (Followed RBP); end = 1 } ∷ record { step = Push (Followed R15); end = 3 } ∷ record { step = Push (Followed R14); end = 5 } ∷ record { step = Push (Followed R13); end = 7 } ∷
      record { step = Push (Followed R12); end = 9 } ∷ record { step = Push (Followed RBX); end = 10 } ∷ record { step = Allocate 0x1000; end = 17 } ∷ [];
  bodies = record { from = 0x100003011; to = 0x100003020 } ∷ [];
  sites = None;
  outermost = false;
}

abbrev pub indirect_state : State
indirect_state = record { ra = 0x100003018; sp = 0x8000; rbx = 0; rbp = 0; r12 = 0; r13 = 0; r14 = 0; r15 = 0 }

abbrev pub indirect_caller : State
indirect_caller = record { ra = 7; sp = 0x9038; rbx = 1; rbp = 6; r12 = 2; r13 = 3; r14 = 4; r15 = 5 }

-- ---- a function that frame data describes

-- the description stands 24 bytes after the frame data's start
abbrev pub dwarf_word : ℕ
dwarf_word = 0x04000018
