-- The states of a generated chain, its calls, and what its frames leave on the stack.
use Rattle.std.specs.Prelude.{ℕ, ◌+◌, ◌-◌, List, [], ◌∷◌, ◌++◌, Option, Some, None}
use Rattle.std.specs.List.{filter_map, flat_map}
use Rattle.unwind_definitions.specs.State.{State}
use Rattle.unwind_definitions.specs.Chain.{Call}
use Rattle.generated_chains.specs.declared.outline.Kind.{Kind}
use Rattle.generated_chains.specs.declared.outline.Kind.TheVariants.{Pushes, PushesAndAllocates, SetsFrame, SetsFrameAndPushes}
use Rattle.generated_chains.specs.declared.outline.Handling.{Handling}
use Rattle.generated_chains.specs.declared.outline.Handling.TheVariants.{PassesOn, CleansUp, Catches}
use Rattle.generated_chains.specs.declared.outline.Outline.{Outline}
use Rattle.generated_chains.specs.Spelled.{word}
use Rattle.generated_chains.specs.Code.{start_of, function_of}

-- the end of the stack
abbrev pub top : ℕ
top = 0x7fff00000000

-- the state from which the outermost function was called, which returns to 0
abbrev pub outermost_state : ℕ → State
outermost_state seed = record { ra = 0; sp = top; rbx = seed; rbp = 0; r12 = 0; r13 = 0; r14 = 0; r15 = 0 }

-- where each function's call returns to
abbrev pub return_address : ℕ → ℕ
return_address index = start_of index + 32

-- How many bytes a function's frame takes, the return address included.
abbrev pub frame_size : Kind → ℕ
frame_size Pushes = 16
frame_size PushesAndAllocates = 32
frame_size SetsFrame = 16
frame_size SetsFrameAndPushes = 48

-- The state of a function that was called from another state. A function that saved RBX holds its own index there.
abbrev pub entered_from : Kind → ℕ → State → State
entered_from Pushes index t = record t { ra = return_address index; sp = t.sp - 16; rbx = index }
entered_from PushesAndAllocates index t = record t { ra = return_address index; sp = t.sp - 32; rbx = index }
entered_from SetsFrame index t = record t { ra = return_address index; sp = t.sp - 16; rbp = t.sp - 16 }
entered_from SetsFrameAndPushes index t = record t { ra = return_address index; sp = t.sp - 48; rbx = index; rbp = t.sp - 16 }

-- the innermost state of these functions, each called by the next
abbrev pub state_of : ℕ → List Outline → State
state_of seed [] = outermost_state seed
state_of seed (o ∷ os) = entered_from o.kind o.index (state_of seed os)

abbrev pub calls_of : ℕ → List Outline → List Call
calls_of seed [] = []
calls_of seed (o ∷ os) = record { callee = function_of o; caller = state_of seed os } ∷ calls_of seed os

-- ---- the stack

-- the words of a function's frame, the lowest first, by the state that it was called from
abbrev pub frame_words : Kind → State → List ℕ
frame_words Pushes t = t.rbx ∷ t.ra ∷ []
frame_words PushesAndAllocates t = 0 ∷ 0 ∷ t.rbx ∷ t.ra ∷ []
frame_words SetsFrame t = t.rbp ∷ t.ra ∷ []
frame_words SetsFrameAndPushes t = 0 ∷ 0 ∷ 0 ∷ t.rbx ∷ t.rbp ∷ t.ra ∷ []

abbrev pub frame_bytes : Kind → State → List ℕ
frame_bytes kind t = flat_map word (frame_words kind t)

-- from the innermost stack pointer up to the end of the stack
abbrev pub stack_bytes : ℕ → List Outline → List ℕ
stack_bytes seed [] = []
stack_bytes seed (o ∷ os) = frame_bytes o.kind (state_of seed os) ++ stack_bytes seed os

-- ---- cleanups

-- a function that cleans up goes on after its landing pad
abbrev pub resume_by : Handling → ℕ → Option (ℕ × ℕ)
resume_by PassesOn start = None
resume_by CleansUp start = Some (start + 48, start + 56)
resume_by Catches start = None

abbrev pub resume_in : Outline → Option (ℕ × ℕ)
resume_in o = resume_by o.handling (start_of o.index)

-- the landing pads of cleanups, each with the address at which its function goes on
abbrev pub resumes_of : List Outline → List (ℕ × ℕ)
resumes_of os = filter_map resume_in os
