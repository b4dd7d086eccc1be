-- Snapshots of threads that were interrupted after registers were popped, and the lines of their stacks.
use Rattle.std.specs.Prelude.{ℕ, true, false, List, ◌∷◌, IsTrue}
use Rattle.unwind_definitions.specs.State.{State}
use Rattle.stack_steps.specs.Modules.{SpaceValue}
use Rattle.stack_walks.specs.declared.walk_end.EndReason.{EndReason}
use Rattle.stack_walks.specs.KnownWalks.{StartsKnownStack, end_reason_of_stack}
use Rattle.stack_walks.specs.WalkEnds.{contexts_to_end}
use Rattle.popped_registers.specs.PoppedRegisters.{is_popped, kept_space}
use Rattle.stack_snapshot.specs.Content.{Content, space_of}
use Rattle.backtrace.specs.Code.{PlacesValue}
use Rattle.backtrace.specs.declared.options.Options.{Options}
use Rattle.backtrace.specs.Lines.{form_with, shown_states, states_text}

-- A snapshot was taken where its thread was interrupted, after registers were popped: the step from there meets what isn't mapped, and
-- there are registers whose slots lie below the stack pointer, and not all of whose bytes are mapped.
pub record PopsAtStart (s : Content) : Type 0 where
  pub stops : IsTrue s.interrupted
  pub some : IsTrue (is_popped (space_of s) s.limit s.start)

-- its modules over the memory in which these slots hold what the registers hold
abbrev pub kept_of : Content → SpaceValue
kept_of s = kept_space (space_of s) s.limit s.start

-- The lines of the walk over that memory, which ends for this reason. The first frame is marked.
abbrev pub popped_text : Options → Content → PlacesValue → EndReason → List ℕ
popped_text o s places why =
    states_text (form_with o.registers s.interrupted places false true) (shown_states (contexts_to_end (kept_of s) s.limit s.start true)) why

-- its start shows the innermost state of a stack that is known over that memory
pub record BeginsPoppedStack (s : Content) (start : State) (callers : List State) : Type 0 where
  pub pops : PopsAtStart s
  pub starts : StartsKnownStack (kept_of s) s.start s.limit true start callers

-- The lines of that stack: of the frame of each state, the first with a mark, and last that the outermost one returns to 0, or that
-- nothing covers the address asked there.
abbrev pub popped_stack_text : (o : Options) (s : Content) (places : PlacesValue) (start : State) (callers : List State) → BeginsPoppedStack s start callers → List ℕ
popped_stack_text o s places start callers begins =
    states_text (form_with o.registers s.interrupted places false true) (start ∷ callers) (end_reason_of_stack (kept_of s) true start callers begins.starts.stack)
