-- What a walk gives, each state with its mark: whether it stands before its instruction, as the start of a thread that was stopped and
-- each state after a signal's frame, and not after a call.
use Rattle.std.specs.Prelude.{ℕ, zero, suc, true, List, [], ◌∷◌, Option, Some, None, Result, Ok, Err, IsTrue}
use Rattle.std.specs.List.{AllByRecursion}
use Rattle.memory_image.specs.Results.{result_map}
use Rattle.unwind_arch.specs.declared.x86_64.Context.{Context}
use Rattle.format_frames.specs.declared.machine.Stepped.{Stepped}
use Rattle.stack_steps.specs.declared.error.DeliverError.{DeliverError}
use Rattle.stack_steps.specs.declared.error.DeliverError.TheVariants.{FrameLimit}
use Rattle.stack_steps.specs.Modules.{SpaceValue}
use Rattle.stack_steps.specs.Stepping.{step_of}
use Rattle.core_walks.specs.MappedWalks.{is_mapped}

-- the state of a thread that was stopped
abbrev pub stopped_at : Context → Stepped
stopped_at c = record { context = c; signal = true }

abbrev pub context_of : Stepped → Context
context_of s = s.context

abbrev pub before_line : Stepped → Result (List Stepped) DeliverError → Result (List Stepped) DeliverError
before_line s = result_map (λ ss. s ∷ ss)

-- what follows a state: nothing at the end of the stack, or its caller
abbrev pub marked_after : Stepped → Result (Option Stepped) DeliverError → (Stepped → Result (List Stepped) DeliverError) → Result (List Stepped) DeliverError
marked_after s (Err e) outer = Err e
marked_after s (Ok None) outer = Ok (s ∷ [])
marked_after s (Ok (Some next)) outer = before_line s (outer next)

-- the states from one outwards, where there is room for so many
abbrev pub marked_line_of : SpaceValue → ℕ → Stepped → Result (List Stepped) DeliverError
marked_line_of space zero s = Err FrameLimit
marked_line_of space (suc room) s = marked_after s (step_of space s.context s.signal) (marked_line_of space room)

-- no walk of these threads met something that isn't mapped
abbrev pub AreMarkedMapped : SpaceValue → ℕ → List Context → Type 0
AreMarkedMapped space limit cs = AllByRecursion (λ (c : Context). IsTrue (is_mapped (marked_line_of space limit (stopped_at c)))) cs
