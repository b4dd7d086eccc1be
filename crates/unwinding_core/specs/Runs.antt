-- What the runs of an unwinding answer, in the words of the definitions.
use Rattle.std.specs.Prelude.{◌⊎◌, ◌≡◌, ℕ, List}
use Rattle.std.specs.Option.{option_map}
use Rattle.unwind_definitions.specs.Caller.{Columns, StepFault, Table, Unmapped}
use Rattle.unwinding_frames.specs.declared.abi.TheConstants.UnwindReasonCode.{END_OF_STACK, FATAL_PHASE1_ERROR}
use Rattle.unwinding_frames.specs.declared.abi.exception.UnwindException.{UnwindException}
use Rattle.unwinding_core.specs.declared.abi.unwound.Cause.{Cause as CodeCause}
use Rattle.unwinding_core.specs.declared.abi.unwound.Cause.TheVariants as code
use Rattle.unwinding_core.specs.declared.abi.unwound.Unwound.{Unwound}
use Rattle.unwinding_core.specs.declared.abi.unwound.Unwound.TheVariants as run
use Rattle.unwinding_core.specs.declared.abi.backtrace.Ended.{Ended}
use Rattle.unwinding_frames.specs.Passes.{Cause, FrameLimit, Fault, Outcome, Installs, Gives, Traced}
use Rattle.unwinding_frames.specs.Seen.{Thrown}

-- what an exception hands to personalities
abbrev pub thrown_by : UnwindException → Thrown
thrown_by e = record { class = e.exception_class; word = e.word }

abbrev pub cause_shown : CodeCause → Cause StepFault
cause_shown (code.Table e) = Fault (Table e)
cause_shown (code.Unmapped a) = Fault (Unmapped a)
cause_shown code.FrameLimit = FrameLimit

abbrev pub unwound_shown : {M C : Type 0} → (C → Columns) → Unwound M C → Outcome Columns StepFault
unwound_shown columns (run.Install c handler) = Installs (columns c) handler
unwound_shown columns (run.Code reason cause) = Gives reason (option_map cause_shown cause)

-- how a backtrace ends, and the words that the trace holds then
abbrev pub ended_shown : Ended → List ℕ → Traced StepFault
ended_shown e words = (e.code, option_map cause_shown e.cause, words)

-- no handler was found: the stack ended, or the search couldn't go on
abbrev pub IsUntaken : {C E : Type 0} → Outcome C E → Type 0
IsUntaken (Installs c handler) = ⊥
IsUntaken (Gives reason cause) = (reason ≡ END_OF_STACK) ⊎ (reason ≡ FATAL_PHASE1_ERROR)
