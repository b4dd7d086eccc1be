-- What is folded of samples.
use Rattle.std.specs.Prelude.{ℕ, Bool, List, Option, Some, None, Result, Ok, Err, is_none}
use Rattle.std.specs.List.{count_by, filter_map}
use Rattle.unwind_definitions.specs.State.{State}
use Rattle.unwind_definitions.specs.Chain.{Call, states_of}
use Rattle.unwind_arch.specs.declared.x86_64.Context.{Context}
use Rattle.stack_steps.specs.declared.error.DeliverError.{DeliverError}
use Rattle.stack_steps.specs.Modules.{SpaceValue}
use Rattle.stack_walks.specs.Lines.{line_of}
use Rattle.folded_stacks.specs.declared.samples.Sample.{Sample}
use Rattle.folded_stacks.specs.Counts.{FoldedValue, counts_of}
use Rattle.folded_stacks.specs.Stacks.{stack_of, stack_shown}

-- ---- the stack of a sample

abbrev pub stack_in : Result (List Context) DeliverError → Option (List ℕ)
stack_in (Ok states) = Some (stack_of states)
stack_in (Err e) = None

-- the stack of a sample's walk of at most so many states, None where it is refused
unfoldable pub walked_stack : SpaceValue → ℕ → Sample → Option (List ℕ)
walked_stack space limit s = stack_in (line_of space limit s.start s.interrupted)

-- the return addresses of a chain of calls, the outermost first
abbrev pub chain_stack : State → List Call → List ℕ
chain_stack s calls = stack_shown (states_of s calls)

-- ---- of all samples

-- the stacks of the samples whose walks are accepted, in their order
abbrev pub accepted : SpaceValue → ℕ → List Sample → List (List ℕ)
accepted space limit samples = filter_map (walked_stack space limit) samples

-- a sample whose walk is refused
abbrev pub is_refused : SpaceValue → ℕ → Sample → Bool
is_refused space limit s = is_none (walked_stack space limit s)

-- how many are refused
abbrev pub refused_of : SpaceValue → ℕ → List Sample → ℕ
refused_of space limit samples = count_by (is_refused space limit) samples

-- What is folded of samples in a space, where a walk has places for so many states.
unfoldable pub fold_of : SpaceValue → ℕ → List Sample → FoldedValue
fold_of space limit samples = record { lines = counts_of (accepted space limit samples); refused = refused_of space limit samples }
