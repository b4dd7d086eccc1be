-- What the code of a pass answers, in the words of the definitions. No public clause cites this.
use Rattle.std.specs.Prelude.{◌≡◌, ◌==◌, if◌then◌else◌, ℕ, List, Option, Some, None, Result, Ok, Err}
use Rattle.unwind_definitions.specs.Row.{RowInstructions}
use Rattle.unwind_definitions.specs.Caller.{Columns, StepFault}
use Rattle.frame_rows.specs.Rows.{IsRowOf}
use Rattle.unwinding_frames.specs.declared.abi.UnwindReasonCode.{UnwindReasonCode}
use Rattle.unwinding_frames.specs.declared.frame.StepError.{StepError}
use Rattle.unwinding_core.specs.declared.abi.passes.Phase.{Phase}
use Rattle.unwinding_core.specs.declared.abi.passes.Phase.TheVariants as phase
use Rattle.unwinding_core.specs.declared.abi.passes.Call.{Call}
use Rattle.unwinding_core.specs.declared.abi.passes.Answer.{Answer}
use Rattle.unwinding_frames.specs.declared.abi.UnwindAction.{UnwindAction}
use Rattle.unwinding_core.specs.declared.abi.passes.FrameVisit.{FrameVisit as CodeVisit}
use Rattle.unwinding_core.specs.declared.abi.passes.FrameVisit.TheVariants as code
use Rattle.unwinding_core.specs.declared.abi.passes.LineEnd.{LineEnd as CodeEnd}
use Rattle.unwinding_core.specs.declared.abi.passes.LineEnd.TheVariants as end
use Rattle.unwinding_frames.specs.declared.abi.TheConstants.UnwindAction as actions
use Rattle.unwinding_frames.specs.Calling.{fault_of}
use Rattle.unwinding_frames.specs.FrameValue.{FrameValue}
use Rattle.unwinding_frames.specs.Passes.{Marked, Answering, Stops, Asking, FrameVisit, Ends, Goes, LineEnd, RanOut, Decides, Fails, Crowded, by_personality, by_force, cleanup_actions, forced_actions, both}
use Rattle.unwinding_frames.specs.Seen.{FrameSeen, Thrown}

-- a frame, or the stack's end, as it is seen
abbrev pub IsSeen : Result (Option FrameValue) StepError → Result (Option FrameSeen) StepFault → Type 0
IsSeen (Ok None) seen = seen ≡ Ok None
IsSeen (Ok (Some frame)) seen = (run : RowInstructions) × (seen ≡ Ok (Some (record { value = frame; run = run }))) × IsRowOf frame.row run
IsSeen (Err e) seen = seen ≡ Err (fault_of e)

-- an answer and the registers that are left
abbrev pub answer_shown : {C : Type 0} → (C → Columns) → Answer C → UnwindReasonCode × Columns
answer_shown columns a = (a.code, columns a.left)

-- what the frames of a pass are asked
abbrev pub asks_in : Phase → (Columns → ℕ) → Answering Columns FrameSeen StepFault → Stops Columns FrameSeen → Asking Columns FrameSeen StepFault (List ℕ)
asks_in phase.Search stack_pointer p stops = by_personality p (λ x. actions.SEARCH_PHASE)
asks_in (phase.Cleanup kept) stack_pointer p stops = by_personality p (cleanup_actions stack_pointer kept)
asks_in phase.Forced stack_pointer p stops = by_force p stops

abbrev pub visit_shown : {C S : Type 0} → (C → Columns) → Marked Columns → S → Result (CodeVisit C) StepError → FrameVisit Columns StepFault S
visit_shown columns x s (Ok code.End) = Ends s (RanOut x)
visit_shown columns x s (Ok (code.Stop reason left past)) = Ends s (Decides x reason (columns left) (columns past))
visit_shown columns x s (Ok (code.Caller c signal)) = Goes s (record { context = columns c; signal = signal })
visit_shown columns x s (Err e) = Ends s (Fails (fault_of e))

abbrev pub end_shown : {C : Type 0} → (C → Columns) → CodeEnd C → LineEnd Columns StepFault
end_shown columns (end.RanOut c signal) = RanOut (record { context = columns c; signal = signal })
end_shown columns (end.Decided c signal reason left past) = Decides (record { context = columns c; signal = signal }) reason (columns left) (columns past)
end_shown columns (end.Failed e) = Fails (fault_of e)
end_shown columns end.Crowded = Crowded

abbrev pub thrown_of : Call → Thrown
thrown_of c = record { class = c.exception_class; word = c.word }

-- what the personality of a frame with a mark is asked
abbrev pub actions_in : Phase → ℕ → UnwindAction
actions_in phase.Search mark = actions.SEARCH_PHASE
actions_in (phase.Cleanup kept) mark = if mark == kept then both actions.CLEANUP_PHASE actions.HANDLER_FRAME else actions.CLEANUP_PHASE
actions_in phase.Forced mark = forced_actions
