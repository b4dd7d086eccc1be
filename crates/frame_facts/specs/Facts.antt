-- What is known at an address of code, of every frame that stands there: how far its canonical frame address (CFA), which is the
-- caller's stack pointer, lies above RSP or RBP, and where the caller's values of the callee-saved registers are.
-- System V x86-64 psABI, sections 3.2.1 (registers), 3.2.2 (the stack frame) and 3.4.1 (how a process starts); DWARF 5 section 6.4
-- for the CFA.
use Rattle.std.specs.Prelude.{◌≡◌, ℕ, ◌+◌, ◌-◌, ◌<◌, ◌≤◌, Bool, List, Option, Some, IfSome, IsTrue, IsFalse}
use Rattle.std.specs.List.{AllByRecursion}
use Rattle.memory_image.specs.Image.{Span, word_at}
use Rattle.unwind_definitions.specs.State.{CalleeSaved, State, value_of}

-- a register whose value in the caller is in memory, and the distance of its first byte below the CFA
pub record Slot : Type 0 where
  pub register : CalleeSaved
  pub distance : ℕ

-- what is known; of a register that is neither saved nor kept nothing is
pub record Facts : Type 0 where
  -- how far the CFA lies above RSP, and above RBP, where that is known
  pub rsp : Option ℕ
  pub rbp : Option ℕ
  -- the registers whose values in the caller are saved, and where
  pub saved : List Slot
  -- the registers that hold their values in the caller
  pub kept : List CalleeSaved
  -- the frame is the outermost of its stack, as that of _start is, which no call entered and which has no return address
  pub outermost : Bool

-- the word at the distance below the caller's stack pointer is what the caller has in the register
abbrev pub SlotHolds : List Span → State → Slot → Type 0
SlotHolds image t slot = (slot.distance ≤ t.sp) × (word_at image (t.sp - slot.distance) ≡ Some (value_of slot.register t))

-- A state s stands with facts from its caller's state t. Its stack pointer is below t's, which is the CFA by each form that is
-- known. The word just below the CFA is the return address. Of an outermost frame that isn't asked; its t, which is no frame's state,
-- has the return address 0. Each saved register's slot holds what t has in the register, and each kept register holds that in s.
pub record StandsWith (image : List Span) (facts : Facts) (t s : State) : Type 0 where
  pub room : 8 ≤ t.sp
  pub below : s.sp < t.sp
  pub by_rsp : IfSome facts.rsp (λ n. s.sp + n ≡ t.sp)
  pub by_rbp : IfSome facts.rbp (λ n. s.rbp + n ≡ t.sp)
  pub returns : IsFalse facts.outermost → word_at image (t.sp - 8) ≡ Some t.ra
  pub ends : IsTrue facts.outermost → t.ra ≡ 0
  pub saved : AllByRecursion (SlotHolds image t) facts.saved
  pub kept : AllByRecursion (λ (r : CalleeSaved). value_of r s ≡ value_of r t) facts.kept
