-- Snapshots that begin a known stack, and the lines of its states.
use Rattle.std.specs.Prelude.{◌≢◌, ℕ, ◌+◌, ◌<◌, true, false, List, [], ◌∷◌, length, IsFalse}
use Rattle.unwind_definitions.specs.State.{State, Shows}
use Rattle.unwind_definitions.specs.Entered.{IsEntered}
use Rattle.unwind_arch.specs.ContextViews.{columns_of}
use Rattle.stack_steps.specs.KnownStacks.{IsKnownStack}
use Rattle.stack_walks.specs.KnownWalks.{StartsKnownStack, end_reason_of_stack}
use Rattle.stack_snapshot.specs.Content.{Content, space_of}
use Rattle.backtrace.specs.Code.{PlacesValue}
use Rattle.backtrace.specs.declared.options.Options.{Options}
use Rattle.backtrace.specs.Tracing.{IsNowhere, is_nowhere}
use Rattle.backtrace.specs.Lines.{form_with, states_text}

-- The start shows the innermost state of a known stack, and it wasn't interrupted at the address 0 or in no module.
pub record BeginsKnownStack (s : Content) (places : PlacesValue) (start : State) (callers : List State) : Type 0 where
  pub starts : StartsKnownStack (space_of s) s.start s.limit s.interrupted start callers
  pub somewhere : IsFalse (is_nowhere (space_of s) places.code s.start s.interrupted)

-- The lines of a stack whose innermost state is the snapshot's start: of the frame of each state, and last that the outermost one
-- returns to 0, or that nothing covers the address asked there.
abbrev pub stack_text : (o : Options) (s : Content) (places : PlacesValue) (start : State) (callers : List State) → BeginsKnownStack s places start callers → List ℕ
stack_text o s places start callers begins =
    states_text (form_with o.registers s.interrupted places false false) (start ∷ callers) (end_reason_of_stack (space_of s) s.interrupted start callers begins.starts.stack)

-- The snapshot was taken after a call to the address 0 or into no module, before anything else was done. The caller's state is the
-- innermost of a known stack, and the limit has room for the start beside it.
pub record BeginsByCallToNowhere (s : Content) (places : PlacesValue) (start caller : State) (callers : List State) : Type 0 where
  pub nowhere : IsNowhere (space_of s) places.code s.start s.interrupted
  pub entered : IsEntered (space_of s).image false [] caller start
  pub returns : caller.ra ≢ 0
  pub shows : Shows (columns_of s.start) start
  pub stack : IsKnownStack (space_of s) false caller callers
  pub shorter : length callers + 1 < s.limit

-- the lines of the start and of that stack, where it is said that the return address was read from the machine's stack
abbrev pub called_stack_text : (o : Options) (s : Content) (places : PlacesValue) (start caller : State) (callers : List State) → BeginsByCallToNowhere s places start caller callers → List ℕ
called_stack_text o s places start caller callers begins =
    states_text (form_with o.registers s.interrupted places true false) (start ∷ caller ∷ callers) (end_reason_of_stack (space_of s) false caller callers begins.stack)
