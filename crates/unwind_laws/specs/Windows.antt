-- A function of a module for Windows, described by a chained record and its own, and a stack of a call of it.
use Rattle.std.specs.Prelude.{ℕ, zero, suc, false, List, [], ◌∷◌, ◌++◌, None}
use Rattle.memory_image.specs.Image.{Span}
use Rattle.unwind_definitions.specs.State.{State, RBX, RBP}
use Rattle.unwind_definitions.specs.Prologue.{Followed, RDI, RSI, XMM, Push, Allocate, SetFrame, Store, PrologueStep}
use Rattle.unwind_definitions.specs.Function.{Function}

-- Pushes RDI and RBP, which the chained record tells of, allocates 64, sets RBP 32 above the stack pointer, and stores RBX,
-- RSI and XMM6.
abbrev pub prologue : List PrologueStep
prologue = record { step = Push RDI; end = 0 } ∷ record { step = Push (Followed RBP); end = 0 } ∷ record { step = Allocate 64; end = 4 } ∷ record { step = SetFrame 32; end = 9 } ∷
    record { step = Store (Followed RBX) 16; end = 14 } ∷ record { step = Store RSI 24; end = 19 } ∷ record { step = Store (XMM 6) 40; end = 24 } ∷ []

abbrev pub function : Function
function = record { start = 0x140001000; end = 0x140001100; prologue = prologue; bodies = record { from = 0x140001018; to = 0x140001100 } ∷ []; sites = None; outermost = false }

abbrev pub zeros : ℕ → List ℕ
zeros zero = []
zeros (suc n) = 0 ∷ zeros n

-- 16 bytes of room, RBX, RSI, 8 bytes of room, XMM6, 8 bytes of room, RBP, RDI, and the return address
abbrev pub stack : List ℕ
stack = zeros 16 ++ 0x11 ∷ zeros 7 ++ zeros 8 ++ zeros 8 ++ zeros 16 ++ zeros 8 ++ 0x22 ∷ zeros 7 ++ zeros 8 ++ 0x34 ∷ 0x12 ∷ zeros 6

abbrev pub image : List Span
image = record { start = 0x7fa8; bytes = stack } ∷ []

-- stopped in the body, below what the prologue allocated
abbrev pub start : State
start = record { ra = 0x140001020; sp = 0x7f00; rbx = 1; rbp = 0x7fc8; r12 = 3; r13 = 4; r14 = 5; r15 = 6 }

abbrev pub caller : State
caller = record { ra = 0x1234; sp = 0x8000; rbx = 0x11; rbp = 0x22; r12 = 3; r13 = 4; r14 = 5; r15 = 6 }
