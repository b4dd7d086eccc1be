-- What is delivered to a chain of calls when an exception is raised in its innermost frame.
-- Itanium C++ ABI, exception handling, level I: a search for a handler, and then the cleanups on the way to it.
use Rattle.std.specs.Prelude.{◌≡◌, ◌≢◌, ℕ, ◌-◌, Bool, true, false, List, [], ◌∷◌, ◌++◌, map, Option, Some, None, IfSome, IsTrue, ◌==◌}
use Rattle.std.specs.List.{filter_map, find, before_first}
use Rattle.std.specs.Option.{option_map_or, option_map}
use Rattle.unwind_definitions.specs.State.{State}
use Rattle.unwind_definitions.specs.Function.{Function, Action, NoAction, Cleanup, Catch, Filter, Terminate, in_body, action_at}
use Rattle.unwind_definitions.specs.Chain.{Call, states_of}

-- a state, and the function that it is stopped in
pub record Frame : Type 0 where
  pub state : State
  pub function : Function

-- the frames of a chain, the innermost first; its outermost state is in none of its functions
abbrev pub frames_of : State → List Call → List Frame
frames_of s [] = []
frames_of s (c ∷ calls) = record { state = s; function = c.callee } ∷ frames_of c.caller calls

-- what its language asks of a frame: the action at the call, which ends at the return address
abbrev pub action_of_frame : Frame → Action
action_of_frame f = action_at f.function (f.state.ra - 1)

-- a handler takes the exception, or the program ends
abbrev pub decides : Action → Bool
decides NoAction = false
decides (Cleanup pad) = false
decides (Catch pad) = true
decides (Filter pad) = true
decides Terminate = true

abbrev pub accepts : Action → Bool
accepts NoAction = false
accepts (Cleanup pad) = false
accepts (Catch pad) = true
accepts (Filter pad) = true
accepts Terminate = false

abbrev pub is_deciding : Frame → Bool
is_deciding f = decides (action_of_frame f)

-- the first frame that decides, and the frames inside it
abbrev pub deciding_frame : State → List Call → Option Frame
deciding_frame s calls = find is_deciding (frames_of s calls)

abbrev pub inner_frames : State → List Call → List Frame
inner_frames s calls = before_first is_deciding (frames_of s calls)

pub data Outcome : Type 0 where
  Installed EndOfStack FatalPhase1 FatalPhase2 : Outcome

-- where a handler is entered: a state whose return address is the landing pad, and the registers RAX and RDX
pub record Landing : Type 0 where
  pub state : State
  pub rax : ℕ
  pub rdx : ℕ

-- the states that were visited, each cleanup's landing pad and stack pointer, and where the handler is entered
pub record Delivery : Type 0 where
  pub visited : List State
  pub trail : List (ℕ × ℕ)
  pub landing : Option Landing
  pub outcome : Outcome

abbrev pub cleanup_pad : Action → Option ℕ
cleanup_pad (Cleanup pad) = Some pad
cleanup_pad _ = None

abbrev pub cleanup_of : Frame → Option (ℕ × ℕ)
cleanup_of f = option_map (λ pad. (pad, f.state.sp)) (cleanup_pad (action_of_frame f))

abbrev pub states_in : List Frame → List State
states_in frames = map (λ (f : Frame). f.state) frames

-- a state that enters a landing pad with an exception
abbrev pub landing_at : ℕ → State → ℕ → Landing
landing_at exception s pad = record { state = record s { ra = pad }; rax = exception; rdx = 0 }

-- A handler of a state takes the exception: the cleanups of the frames inside it run, each once.
abbrev pub delivery_at_handler : ℕ → List Frame → State → ℕ → Delivery
delivery_at_handler exception inside s pad = record {
  visited = states_in inside ++ s ∷ [];
  trail = filter_map cleanup_of inside;
  landing = Some (landing_at exception s pad);
  outcome = Installed;
}

-- no handler takes it, and nothing runs
abbrev pub delivery_without_handler : List State → Outcome → Delivery
delivery_without_handler visited outcome = record { visited = visited; trail = []; landing = None; outcome = outcome }

-- what the deciding action makes of the frames inside it
abbrev pub decided_by : ℕ → List Frame → State → Action → Delivery
decided_by exception inside s (Catch pad) = delivery_at_handler exception inside s pad
decided_by exception inside s (Filter pad) = delivery_at_handler exception inside s pad
decided_by exception inside s _ = delivery_without_handler (states_in inside ++ s ∷ []) FatalPhase1

-- the delivery of an exception to a chain
abbrev pub delivery_of : ℕ → State → List Call → Delivery
delivery_of exception s calls = option_map_or (λ (f : Frame). decided_by exception (inner_frames s calls) f.state (action_of_frame f)) (deciding_frame s calls)
    (delivery_without_handler (states_of s calls) EndOfStack)

-- ---- resuming after a cleanup

-- the first return address that a resume table has for a landing pad
abbrev pub resume_of : List (ℕ × ℕ) → ℕ → Option ℕ
resume_of resumes pad = option_map (λ (p : ℕ × ℕ). p.1) (find (λ (p : ℕ × ℕ). p.0 == pad) resumes)

-- A function goes on at a return address: the call before it lies in the body, and nothing is asked there.
abbrev pub GoesOn : Function → Option ℕ → Type 0
GoesOn f None = ⊥
GoesOn f (Some ret) = (ret ≢ 0) × IsTrue (in_body f (ret - 1)) × (action_at f (ret - 1) ≡ NoAction)

-- after its cleanup, where it has one, a frame's function goes on where the resume table says
abbrev pub Resumes : List (ℕ × ℕ) → Frame → Type 0
Resumes resumes f = IfSome (cleanup_pad (action_of_frame f)) (λ pad. GoesOn f.function (resume_of resumes pad))
