-- Chains of calls: from the state of a stopped function, call by call, to the outermost one.
-- System V x86-64 psABI, section 3.2.
use Rattle.std.specs.Prelude.{◌≡◌, ◌≢◌, ◌⊎◌, ℕ, ◌-◌, ◌<◌, List, [], ◌∷◌, IsTrue}
use Rattle.std.specs.List.{Contains}
use Rattle.memory_image.specs.Image.{Span}
use Rattle.unwind_definitions.specs.State.{State, IsState}
use Rattle.unwind_definitions.specs.Prologue.{steps_of}
use Rattle.unwind_definitions.specs.Entered.{IsEntered}
use Rattle.unwind_definitions.specs.Function.{Function, in_body}

-- a call: the function that was called, and its caller's state
pub record Call : Type 0 where
  pub callee : Function
  pub caller : State

-- A state is stopped in the body of a function that was entered from the caller's state. The return address is the one
-- after a call, so that the address before it lies in the body.
pub record IsCalled (image : List Span) (s : State) (c : Call) : Type 0 where
  pub returns : s.ra ≢ 0
  pub inside : IsTrue (in_body c.callee (s.ra - 1))
  pub entered : IsEntered image c.callee.outermost (steps_of c.callee.prologue) c.caller s

-- the states of a chain, the innermost first
abbrev pub states_of : State → List Call → List State
states_of s [] = s ∷ []
states_of s (c ∷ calls) = s ∷ states_of c.caller calls

-- the outermost state
abbrev pub last_state : State → List Call → State
last_state s [] = s
last_state s (c ∷ calls) = last_state c.caller calls

-- stack pointers strictly rise
abbrev pub StacksRise : List State → Type 0
StacksRise [] = Unit {0}
StacksRise (s ∷ []) = Unit {0}
StacksRise (s ∷ t ∷ states) = (s.sp < t.sp) × StacksRise (t ∷ states)

-- what is asked of a call, before the calls that its caller is in: of a listed function, an outermost one is the last
pub record IsLink (image : List Span) (functions : List Function) (s : State) (c : Call) (outer : List Call) : Type 0 where
  pub state : IsState s
  pub listed : Contains functions c.callee
  pub called : IsCalled image s c
  pub last : IsTrue c.callee.outermost → (outer ≡ []) × (c.caller.ra ≡ 0)

module _ (image : List Span) (Uncovered : ℕ → Type 0) (functions : List Function) where
  -- the stack ends at a return address that is 0, or that no function covers
  pub record IsEnd (s : State) : Type 0 where
    pub state : IsState s
    pub ends : (s.ra ≡ 0) ⊎ ((s.ra ≢ 0) × Uncovered (s.ra - 1))

  -- A chain over listed functions, where `Uncovered` says which addresses no function covers.
  abbrev pub IsChain : State → List Call → Type 0
  IsChain s [] = IsEnd s
  IsChain s (c ∷ calls) = IsLink image functions s c calls × IsChain c.caller calls
