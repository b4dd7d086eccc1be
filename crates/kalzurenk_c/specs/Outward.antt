-- The states of a walk with their marks, and where it stops.
use Rattle.std.specs.Prelude.{◌≡◌, ℕ, zero, suc, Bool, true, false, List, [], ◌∷◌, length, Option, Some, None, Result, Ok, Err}
use Rattle.unwind_arch.specs.declared.x86_64.Context.{Context}
use Rattle.format_frames.specs.declared.machine.Stepped.{Stepped}
use Rattle.stack_steps.specs.declared.error.DeliverError.{DeliverError}
use Rattle.stack_steps.specs.Modules.{SpaceValue}
use Rattle.stack_steps.specs.Stepping.{step_of}
use Rattle.stack_walks.specs.declared.walk_end.EndReason.{EndReason}
use Rattle.stack_walks.specs.declared.walk_end.EndReason.TheVariants.{Limit}
use Rattle.stack_walks.specs.WalkEnds.{EndsFor, Meets, caller_from}
use Rattle.stack_walks.specs.Lines.{NeedsMore}
use Rattle.kalzurenk_c.specs.declared.outward.WalkStop.{WalkStop}

abbrev pub states_after : Option Stepped → (Stepped → List Stepped) → List Stepped
states_after None outer = []
states_after (Some t) outer = outer t

-- The states from one outwards, at most so many, each the caller of the one before, up to the end of the stack or to the first whose
-- step has a fault. Each has a mark, whether it was interrupted where it stands: the first as it is given, and each next one where the
-- frame before is a signal's.
abbrev pub states_from : SpaceValue → ℕ → Stepped → List Stepped
states_from space zero s = []
states_from space (suc room) s = s ∷ states_after (caller_from space s) (states_from space room)

-- ---- where a walk stops, in the words of what a step answers: whether there is a caller, or its fault

-- a context and its mark are those of a state
abbrev pub IsAt : Stepped → Context → Bool → Type 0
IsAt t c interrupted = (c ≡ t.context) × (interrupted ≡ t.signal)

-- the step from the last state finds no caller, or has a fault; or there is one, for which there is no place
abbrev pub HasNoNext : Result Bool DeliverError → SpaceValue → Stepped → Type 0
HasNoNext (Ok true) space t = Unit {0}
HasNoNext (Ok false) space t = step_of space t.context t.signal ≡ Ok None
HasNoNext (Err e) space t = step_of space t.context t.signal ≡ Err e

-- the last state is met among so many, or each of so many has a caller
abbrev pub ComesAt : Result Bool DeliverError → SpaceValue → ℕ → Stepped → Stepped → Type 0
ComesAt (Ok true) space limit s t = NeedsMore space limit s.context s.signal
ComesAt (Ok false) space limit s t = Meets space (IsAt t) limit s.context s.signal
ComesAt (Err e) space limit s t = Meets space (IsAt t) limit s.context s.signal

abbrev pub IsStop : WalkStop → SpaceValue → ℕ → Stepped → Stepped → Type 0
IsStop stop space limit s t =
    (stop.count ≡ length (states_from space limit s)) × ComesAt stop.last space limit s t × HasNoNext stop.last space t

-- why it goes no further
abbrev pub StopsFor : Result Bool DeliverError → EndReason → SpaceValue → Stepped → Type 0
StopsFor (Ok true) why space t = why ≡ Limit
StopsFor (Ok false) why space t = EndsFor why space t.context t.signal
StopsFor (Err e) why space t = EndsFor why space t.context t.signal
