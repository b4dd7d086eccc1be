-- What a walk gives: the states from the start outwards.
use Rattle.std.specs.Prelude.{◌≡◌, ◌⊎◌, ℕ, zero, suc, Bool, List, [], ◌∷◌, Option, Some, None, Result, Ok, Err}
use Rattle.memory_image.specs.Results.{result_map}
use Rattle.unwind_arch.specs.declared.x86_64.Context.{Context}
use Rattle.format_frames.specs.declared.machine.Stepped.{Stepped}
use Rattle.stack_steps.specs.declared.error.DeliverError.{DeliverError}
use Rattle.stack_steps.specs.declared.error.DeliverError.TheVariants.{NoMemory, FrameLimit}
use Rattle.stack_steps.specs.Modules.{SpaceValue}
use Rattle.stack_steps.specs.Stepping.{step_of}

-- the answer, unless memory ran out
abbrev pub GivesUnlessNoMemory : {A : Type 0} → Result A DeliverError → Result A DeliverError → Type 0
GivesUnlessNoMemory result answer = (result ≡ Err NoMemory) ⊎ (result ≡ answer)

abbrev pub with_first : Context → Result (List Context) DeliverError → Result (List Context) DeliverError
with_first c = result_map (λ cs. c ∷ cs)

-- what follows a context: nothing at the end of the stack, or its caller
abbrev pub line_after : Context → Result (Option Stepped) DeliverError → (Context → Bool → Result (List Context) DeliverError) → Result (List Context) DeliverError
line_after c (Err e) outer = Err e
line_after c (Ok None) outer = Ok (c ∷ [])
line_after c (Ok (Some s)) outer = with_first c (outer s.context s.signal)

-- The contexts from one outwards, each the caller of the one before, where there is room for so many. The mark says whether a
-- context was interrupted where it stands, as after a signal's frame, and not after a call.
abbrev pub line_of : SpaceValue → ℕ → Context → Bool → Result (List Context) DeliverError
line_of space zero c interrupted = Err FrameLimit
line_of space (suc room) c interrupted = line_after c (step_of space c interrupted) (line_of space room)

-- ---- the same in the words of its answers

-- More states are needed than there is room for: each of so many has a caller.
abbrev pub NeedsMore : SpaceValue → ℕ → Context → Bool → Type 0
NeedsMore space zero c interrupted = Unit {0}
NeedsMore space (suc room) c interrupted = (s : Stepped) × (step_of space c interrupted ≡ Ok (Some s)) × NeedsMore space room s.context s.signal
