-- The call machine: what memory and registers hold once a function was called and its prologue has run.
-- System V x86-64 psABI, section 3.2.2: a call pushes the return address.
use Rattle.std.specs.Prelude.{◌≡◌, ◌≢◌, ℕ, ◌+◌, ◌-◌, ◌^◌, ◌<◌, ◌≤◌, Bool, List, [], ◌∷◌, Option, Some, None, MatchOption, IsFalse}
use Rattle.memory_image.specs.Image.{Span, byte_at, word_at}
use Rattle.unwind_definitions.specs.State.{CalleeSaved, State, value_of}
use Rattle.unwind_definitions.specs.Prologue.{Register, Followed, RDI, RSI, XMM, size_of, Step, Push, Allocate, SetFrame, Store, distance}

-- the n bytes from an address are mapped
abbrev pub IsMapped : List Span → ℕ → ℕ → Type 0
IsMapped image a n = (k : ℕ) → k < n → byte_at image (a + k) ≢ None

-- a slot holds what the caller has in the register; of one that isn't followed it is mapped
abbrev pub SlotHolds : List Span → State → ℕ → Register → Type 0
SlotHolds image t a (Followed r) = word_at image a ≡ Some (value_of r t)
SlotHolds image t a RDI = IsMapped image a 8
SlotHolds image t a RSI = IsMapped image a 8
SlotHolds image t a (XMM n) = IsMapped image a 16

-- What steps leave in memory for a caller t, run from a stack pointer on. No address falls below 0 or passes 2^64 - 1.
abbrev pub Leaves : List Span → State → ℕ → List Step → Type 0
Leaves image t sp [] = Unit {0}
Leaves image t sp (Push r ∷ steps) = (8 ≤ sp) × SlotHolds image t (sp - 8) r × Leaves image t (sp - 8) steps
Leaves image t sp (Allocate n ∷ steps) = (n ≤ sp) × Leaves image t (sp - n) steps
Leaves image t sp (SetFrame m ∷ steps) = (sp + m < 2 ^ 64) × Leaves image t sp steps
Leaves image t sp (Store r k ∷ steps) = (sp + k + size_of r ≤ 2 ^ 64) × SlotHolds image t (sp + k) r × Leaves image t sp steps

-- the stack pointer after steps
abbrev pub stack_after : ℕ → List Step → ℕ
stack_after sp [] = sp
stack_after sp (Push r ∷ steps) = stack_after (sp - 8) steps
stack_after sp (Allocate n ∷ steps) = stack_after (sp - n) steps
stack_after sp (SetFrame m ∷ steps) = stack_after sp steps
stack_after sp (Store r k ∷ steps) = stack_after sp steps

-- what RBP was set to, None where it wasn't
abbrev pub frame_after : ℕ → List Step → Option ℕ
frame_after sp [] = None
frame_after sp (Push r ∷ steps) = frame_after (sp - 8) steps
frame_after sp (Allocate n ∷ steps) = frame_after (sp - n) steps
frame_after sp (SetFrame m ∷ steps) = Some (sp + m)
frame_after sp (Store r k ∷ steps) = frame_after sp steps

-- A state s is entered from its caller's state t by steps. The word below t's stack pointer is the return address, which
-- only an outermost function doesn't have, and the steps run from there. The stack pointer of s is the last one; where RBP
-- was set, it may be lower, and RBP holds what it was set to. A register that isn't saved has its value in t.
pub record IsEntered (image : List Span) (outermost : Bool) (steps : List Step) (t s : State) : Type 0 where
  pub room : 8 ≤ t.sp
  pub returns : IsFalse outermost → word_at image (t.sp - 8) ≡ Some t.ra
  pub leaves : Leaves image t (t.sp - 8) steps
  pub stack : MatchOption (frame_after (t.sp - 8) steps) (s.sp ≡ stack_after (t.sp - 8) steps)
      (λ frame. (s.sp ≤ stack_after (t.sp - 8) steps) × (s.rbp ≡ frame))
  pub keeps : (r : CalleeSaved) → distance r steps ≡ None → value_of r s ≡ value_of r t
