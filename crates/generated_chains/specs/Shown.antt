-- What the program's values of a generated chain stand for.
use Rattle.std.specs.Prelude.{◌≡◌, ℕ, List}
use Rattle.unwind_definitions.specs.State.{State}
use Rattle.generated_chains.specs.declared.outline.Outline.{Outline}
use Rattle.generated_chains.specs.declared.stack.Registers.{Registers}
use Rattle.generated_chains.specs.declared.stack.Stack.{Stack}
use Rattle.generated_chains.specs.Calls.{state_of, stack_bytes}

-- the state whose other registers hold 0
abbrev pub state_in : Registers → State
state_in r = record { ra = r.ra; sp = r.sp; rbx = r.rbx; rbp = r.rbp; r12 = 0; r13 = 0; r14 = 0; r15 = 0 }

-- the stack of a chain, and its innermost state
pub record IsStackOf (stack : Stack) (seed : ℕ) (os : List Outline) : Type 0 where
  pub bytes : stack.bytes.items ≡ stack_bytes seed os
  pub innermost : state_in stack.innermost ≡ state_of seed os
