-- The frames of a stack: the addresses asked of them, and where their functions begin as frame tables describe them, so
-- that samples of the same functions show one stack.
use Rattle.std.specs.Prelude.{ℕ, ◌==◌, Bool, true, false, List, [], ◌∷◌, map, Option, Some, None, if◌then◌else◌}
use Rattle.unwind_definitions.specs.LanguageSearch.{address_of_call}
use Rattle.stack_steps.specs.declared.functions.DescribedFunction.{DescribedFunction}
use Rattle.stack_steps.specs.Functions.{described_function}
use Rattle.stack_steps.specs.Modules.{SpaceValue}
use Rattle.sampled_profile.specs.Ends.{StackFrames, StackWalk}

-- ---- the addresses asked

-- Whether a frame is a signal's, so that its caller was interrupted where it stands. Frame tables of ELF modules say
-- that; the caller of a frame that none describes stands after a call.
abbrev pub is_signal : Option DescribedFunction → Bool
is_signal None = false
is_signal (Some f) = f.signal

-- the address asked of a frame, and those of the frames outwards
abbrev pub asked_then : SpaceValue → ℕ → (Bool → List ℕ) → List ℕ
asked_then space a outwards = a ∷ outwards (is_signal (described_function space a))

-- By return addresses, from the innermost outwards, at the first of which the thread was interrupted or not: the address
-- at which the thread, or a signal, interrupted a frame, and else the byte before the return address. The state outside of
-- the outermost frame, whose return address is 0, is no frame.
abbrev pub addresses_of : SpaceValue → Bool → List ℕ → List ℕ
addresses_of space interrupted [] = []
addresses_of space interrupted (ra ∷ returns) =
    if ra == 0 then addresses_of space false returns
    else asked_then space (address_of_call ra interrupted) (λ signal. addresses_of space signal returns)

-- ---- by their functions

-- where a frame is by its function, by the address asked of it: where the function that is described there begins, or that
-- address where none is described
abbrev pub frame_place : ℕ → Option DescribedFunction → ℕ
frame_place a None = a
frame_place a (Some f) = f.start

abbrev pub place_in : SpaceValue → ℕ → ℕ
place_in space a = frame_place a (described_function space a)

abbrev pub places_of : SpaceValue → Bool → List ℕ → List ℕ
places_of space interrupted returns = map (place_in space) (addresses_of space interrupted returns)

-- what a profile says of a walk, at whose first state the thread was interrupted
abbrev pub frames_of : SpaceValue → StackWalk → StackFrames
frames_of space w = record { places = places_of space true w.returns; end = w.end; popped = w.popped }
