-- What may stop a forced unwinding, and what traces a stack. Itanium C++ ABI, exception handling, section 1.3.2.
use Rattle.std.specs.Prelude.{ℕ, ℤ, pos, List}
use Rattle.std.specs.Option.{option_map}
use Rattle.memory_image.specs.Image.{Span}
use Rattle.unwind_definitions.specs.Caller.{Columns}
use Rattle.unwinding_frames.specs.declared.abi.UnwindReasonCode.{UnwindReasonCode}
use Rattle.unwinding_frames.specs.declared.abi.UnwindAction.{UnwindAction}
use Rattle.unwinding_frames.specs.declared.abi.TheConstants.UnwindReasonCode.{NO_REASON}
use Rattle.unwinding_frames.specs.ContextSeen.{ContextSeen, frame_seen}
use Rattle.unwinding_frames.specs.Passes.{Stops, Traces}
use Rattle.unwinding_frames.specs.Seen.{FrameSeen, Thrown}

-- what a stop is called with
pub record StopAsked : Type 0 where
  pub version : ℤ
  pub actions : UnwindAction
  pub class : ℕ

-- an answer, the registers that are left, and the words that are held then
abbrev pub StopAnswer : Type 0
StopAnswer = UnwindReasonCode × Columns × List ℕ

abbrev pub never_stopped : List ℕ → StopAsked → ContextSeen → StopAnswer
never_stopped words asked seen = (NO_REASON, seen.columns, words)

-- A stop that answers by a function, for an exception and by version 1 of the interface.
abbrev pub stopping : (List ℕ → StopAsked → ContextSeen → StopAnswer) → List Span → Thrown → Stops Columns FrameSeen
stopping stops image thrown = λ words actions f x. stops words (record { version = pos 1; actions = actions; class = thrown.class }) (frame_seen image (option_map (λ (s : FrameSeen). s.value) f) x.context x.signal)

-- an answer, and the words that are held then
abbrev pub TraceAnswer : Type 0
TraceAnswer = UnwindReasonCode × List ℕ

-- A trace that answers by a function.
abbrev pub tracing : (List ℕ → ContextSeen → TraceAnswer) → List Span → Traces Columns FrameSeen
tracing traces image = λ words f x. traces words (frame_seen image (option_map (λ (s : FrameSeen). s.value) f) x.context x.signal)

-- where the function of a frame starts
abbrev pub start_of : FrameSeen → ℕ
start_of f = f.value.found.fde.start
