-- What a function's first instructions do to the stack: they push registers, make room, perhaps set RBP as a frame
-- pointer, and store registers. System V x86-64 psABI, section 3.2.2; Microsoft x64 calling convention, prolog.
use Rattle.std.specs.Prelude.{◌≡◌, ◌≢◌, ℕ, ◌+◌, ◌-◌, ◌%◌, ◌<◌, ◌≤◌, Bool, true, false, List, [], ◌∷◌, ◌++◌, map, replicate, Option, Some, None, IsTrue, nat_lt, if◌then◌else◌}
use Rattle.std.specs.List.{AllPairs, sum_by, list_any}
use Rattle.unwind_definitions.specs.State.{CalleeSaved, RBP, is_same}

-- What a prologue may save: a register whose value is followed, or one that only code for Windows saves.
pub data Register : Type 0 where
  Followed : CalleeSaved → Register
  RDI RSI : Register
  XMM : ℕ → Register

-- how many bytes it takes
abbrev pub size_of : Register → ℕ
size_of (Followed r) = 8
size_of RDI = 8
size_of RSI = 8
size_of (XMM n) = 16

-- Push puts a register below the stack pointer, Allocate lowers the stack pointer, SetFrame makes RBP the stack pointer
-- plus a number, and Store puts a register so far above the stack pointer.
pub data Step : Type 0 where
  Push : Register → Step
  Allocate : ℕ → Step
  SetFrame : ℕ → Step
  Store : Register → ℕ → Step

-- by how much a step lowers the stack pointer
abbrev pub room_of : Step → ℕ
room_of (Push r) = 8
room_of (Allocate n) = n
room_of (SetFrame m) = 0
room_of (Store r k) = 0

-- how far the stack pointer is below the caller's after steps; the return address takes 8 bytes of it
abbrev pub depth : List Step → ℕ
depth steps = 8 + sum_by room_of steps

-- a register that is saved, and how far its slot lies below the caller's stack pointer
pub record Save : Type 0 where
  pub register : Register
  pub distance : ℕ

-- what steps save, from a depth on
abbrev pub saves_from : ℕ → List Step → List Save
saves_from d [] = []
saves_from d (Push r ∷ steps) = record { register = r; distance = d + 8 } ∷ saves_from (d + 8) steps
saves_from d (Allocate n ∷ steps) = saves_from (d + n) steps
saves_from d (SetFrame m ∷ steps) = saves_from d steps
saves_from d (Store r k ∷ steps) = record { register = r; distance = d - k } ∷ saves_from d steps

abbrev pub saves : List Step → List Save
saves steps = saves_from 8 steps

abbrev pub is_register : CalleeSaved → Register → Bool
is_register r (Followed q) = is_same r q
is_register r RDI = false
is_register r RSI = false
is_register r (XMM n) = false

abbrev pub distance_in : CalleeSaved → List Save → Option ℕ
distance_in r [] = None
distance_in r (s ∷ ss) = if is_register r s.register then Some s.distance else distance_in r ss

-- how far below the caller's stack pointer a register is saved, None where it isn't
abbrev pub distance : CalleeSaved → List Step → Option ℕ
distance r steps = distance_in r (saves steps)

-- the depth at which RBP is set, from a depth on
abbrev pub frame_depth_from : ℕ → List Step → Option ℕ
frame_depth_from d [] = None
frame_depth_from d (Push r ∷ steps) = frame_depth_from (d + 8) steps
frame_depth_from d (Allocate n ∷ steps) = frame_depth_from (d + n) steps
frame_depth_from d (SetFrame m ∷ steps) = Some d
frame_depth_from d (Store r k ∷ steps) = frame_depth_from d steps

abbrev pub frame_depth : List Step → Option ℕ
frame_depth steps = frame_depth_from 8 steps

-- ---- which steps make a prologue

-- the rules of the platform that a function is compiled for: those of ELF and Mach-O modules, and those of PE modules
pub data Convention : Type 0 where
  SystemV Windows : Convention

abbrev pub may_push : Convention → Register → Bool
may_push SystemV (Followed r) = true
may_push SystemV _ = false
may_push Windows (XMM n) = false
may_push Windows _ = true

abbrev pub may_store : Convention → Register → Bool
may_store SystemV (Followed r) = true
may_store SystemV _ = false
may_store Windows (XMM n) = nat_lt n 16
may_store Windows _ = true

abbrev pub pushes : CalleeSaved → Step → Bool
pushes r (Push q) = is_register r q
pushes r (Allocate n) = false
pushes r (SetFrame m) = false
pushes r (Store q k) = false

-- RBP becomes the stack pointer itself, except under the rules of Windows
abbrev pub MayAdd : Convention → ℕ → Type 0
MayAdd SystemV m = m ≡ 0
MayAdd Windows m = Unit {0}

-- What a step asks of those before it. Room is made in whole words. RBP is set once at most, and was pushed before.
-- A stored slot is a whole number of words above the stack pointer, and below the return address.
abbrev pub MayFollow : Convention → List Step → Step → Type 0
MayFollow convention before (Push r) = IsTrue (may_push convention r)
MayFollow convention before (Allocate n) = (0 < n) × (n % 8 ≡ 0)
MayFollow convention before (SetFrame m) = (frame_depth before ≡ None) × IsTrue (list_any (pushes RBP) before) × MayAdd convention m
MayFollow convention before (Store r k) = IsTrue (may_store convention r) × (k % 8 ≡ 0) × (k + size_of r + 8 ≤ depth before)

abbrev pub EachMayFollow : Convention → List Step → List Step → Type 0
EachMayFollow convention before [] = Unit {0}
EachMayFollow convention before (step ∷ steps) = MayFollow convention before step × EachMayFollow convention (before ++ step ∷ []) steps

-- a step, and the offset in the function's code at which it has ended
pub record PrologueStep : Type 0 where
  pub step : Step
  pub end : ℕ

abbrev pub steps_of : List PrologueStep → List Step
steps_of prologue = map (λ (p : PrologueStep). p.step) prologue

abbrev pub ends_of : List PrologueStep → List ℕ
ends_of prologue = map (λ (p : PrologueStep). p.end) prologue

-- each above the one before, and the first above low
abbrev pub Ascend : ℕ → List ℕ → Type 0
Ascend low [] = Unit {0}
Ascend low (n ∷ ns) = (low < n) × Ascend n ns

-- Ends ascend from above 0. In a function that Windows describes by chained records, their steps come first, and end at 0.
abbrev pub AreEnds : Convention → List ℕ → Type 0
AreEnds SystemV ends = Ascend 0 ends
AreEnds Windows ends = (chained : ℕ) × (own : List ℕ) × (ends ≡ replicate chained 0 ++ own) × Ascend 0 own

-- The steps of a prologue. No register is saved twice.
pub record IsPrologue (convention : Convention) (prologue : List PrologueStep) : Type 0 where
  pub ends : AreEnds convention (ends_of prologue)
  pub each : EachMayFollow convention [] (steps_of prologue)
  pub once : AllPairs (λ (a b : Save). a.register ≢ b.register) (saves (steps_of prologue))
