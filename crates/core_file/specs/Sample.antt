-- A core file of one thread that was stopped in a function that had pushed RBX, with sixteen bytes of its stack.
use Rattle.std.specs.Prelude.{ℕ, List, [], ◌∷◌, ◌++◌, None, replicate}
use Rattle.core_file.specs.ElfHeader.{identification}
use Rattle.core_file.specs.CoreValue.{CoreValue}
use Rattle.core_file.specs.Fronts.{FrontValue}

-- numbers of two, four and eight bytes that are below 256, and zeros
abbrev pub half : ℕ → List ℕ
half n = n ∷ 0 ∷ []

abbrev pub number : ℕ → List ℕ
number n = n ∷ 0 ∷ 0 ∷ 0 ∷ []

abbrev pub word : ℕ → List ℕ
word n = number n ++ number 0

abbrev pub zeros : ℕ → List ℕ
zeros n = replicate n 0

-- type 4, machine 62, and two program headers from byte 64 on
abbrev pub elf_header : List ℕ
elf_header = identification ++ zeros 10 ++ half 4 ++ half 62 ++ number 1 ++ zeros 8 ++ word 64 ++ zeros 8 ++ zeros 4 ++ half 64 ++ half 56 ++ half 2 ++ zeros 6

-- 356 bytes of notes from byte 176 on
abbrev pub notes_header : List ℕ
notes_header = number 4 ++ number 4 ++ word 176 ++ zeros 16 ++ (100 ∷ 1 ∷ zeros 6) ++ zeros 8 ++ word 4

-- 16 bytes of memory from byte 532 on, at the address 0x7000
abbrev pub memory_header : List ℕ
memory_header = number 1 ++ number 6 ++ (20 ∷ 2 ∷ zeros 6) ++ (0 ∷ 0x70 ∷ zeros 6) ++ zeros 8 ++ word 16 ++ word 16 ++ word 1

-- the status of a thread: RBX 9, RIP 0x401006 and RSP 0x7000
abbrev pub status : List ℕ
status = zeros 152 ++ word 9 ++ zeros 80 ++ (6 ∷ 0x10 ∷ 0x40 ∷ zeros 5) ++ zeros 16 ++ (0 ∷ 0x70 ∷ zeros 6) ++ zeros 64

-- the name CORE with a zero byte and three bytes of filling, and the status
abbrev pub note : List ℕ
note = number 5 ++ (80 ∷ 1 ∷ 0 ∷ 0 ∷ []) ++ number 1 ++ (0x43 ∷ 0x4f ∷ 0x52 ∷ 0x45 ∷ zeros 4) ++ status

-- the RBX that was pushed, and the return address 0
abbrev pub stack : List ℕ
stack = word 5 ++ word 0

abbrev pub one_thread : List ℕ
one_thread = elf_header ++ notes_header ++ memory_header ++ note ++ stack

abbrev pub one_thread_value : CoreValue
one_thread_value = record {
  segments = record { start = 0x7000; bytes = stack } ∷ [];
  threads = record { registers = 0 ∷ 0 ∷ 0 ∷ 9 ∷ 0 ∷ 0 ∷ 0 ∷ 0x7000 ∷ 0 ∷ 0 ∷ 0 ∷ 0 ∷ 0 ∷ 0 ∷ 0 ∷ 0 ∷ []; ra = 0x401006; mcxsr = 0; fcw = 0 } ∷ [];
}

-- the file without its memory, and what this says
abbrev pub one_thread_front : List ℕ
one_thread_front = elf_header ++ notes_header ++ memory_header ++ note

abbrev pub one_thread_front_value : FrontValue
one_thread_front_value = record {
  threads = one_thread_value.threads;
  places = record { address = 0x7000; offset = 532; size = 16 } ∷ [];
  parts = None;
  end = 548;
}
