-- Passes over a stack: its frames are asked one after another, from a context outwards, until the answer is another than to go on.
-- Over any way to step to a caller, and over whatever answers for the frames' personalities.
-- Itanium C++ ABI, exception handling, level I, sections 1.3 and 1.6.
use Rattle.std.specs.Prelude.{◌≡◌, ℕ, zero, suc, ◌+◌, ◌-◌, ◌%◌, ◌^◌, ◌==◌, Bool, false, List, [], ◌∷◌, Option, Some, None, Result, Ok, Err, MatchBool, if◌then◌else◌}
use Rattle.std.specs.Int.{w32, int_bit_or}
use Rattle.std.specs.Ordering.{int_eq}
use Rattle.unwinding_frames.specs.declared.abi.UnwindReasonCode.{UnwindReasonCode}
use Rattle.unwinding_frames.specs.declared.abi.UnwindAction.{UnwindAction}
use Rattle.unwinding_frames.specs.declared.abi.TheConstants.UnwindReasonCode.{NO_REASON, FATAL_PHASE2_ERROR, FATAL_PHASE1_ERROR, END_OF_STACK, HANDLER_FOUND, INSTALL_CONTEXT, CONTINUE_UNWIND}
use Rattle.unwinding_frames.specs.declared.abi.TheConstants.UnwindAction as actions
use Rattle.unwinding_frames.specs.declared.abi.exception.Kept.{Kept}
use Rattle.unwinding_frames.specs.declared.abi.exception.Kept.TheVariants.{Handler, Stop}

-- ---- contexts, and the step from one to the next

-- a context, and whether it stands at its instruction, as after a signal's frame, and not after a call
pub record Marked (C : Type 0) : Type 0 where
  pub context : C
  pub signal : Bool

abbrev pub without_mark : {C : Type 0} → C → Marked C
without_mark c = record { context = c; signal = false }

-- How frames F over contexts C are undone, with faults E.
pub record Undoing (C F E : Type 0) : Type 0 where
  -- the caller of a frame, from what is left of its context
  pub caller : F → C → Result (Marked C) E
  pub stack_pointer : C → ℕ
  -- a context past the arguments that the frame's callee removes
  pub past_arguments : F → C → C

-- A way to step over contexts: what may be seen at one, which is its frame with the row, the end of the stack, or a fault of the row;
-- and how the frame is undone.
pub record Stepping (C F E : Type 0) : Type 1 where
  pub Sees : Marked C → Result (Option F) E → Type 0
  pub undoing : Undoing C F E

-- What knows a frame of a stack again: its stack pointer, as a word one less after a signal's frame.
abbrev pub frame_mark : Bool → ℕ → ℕ
frame_mark signal sp = if signal then (sp + (2 ^ 64 - 1)) % 2 ^ 64 else sp

abbrev pub mark_of : {C : Type 0} → (C → ℕ) → Marked C → ℕ
mark_of stack_pointer x = frame_mark x.signal (stack_pointer x.context)

-- ---- a line of contexts

abbrev pub is_code : UnwindReasonCode → UnwindReasonCode → Bool
is_code a b = int_eq a.0 b.0

-- How a line ends: with the stack, at a context; with an answer other than to go on, at a context, with what is left of that, and
-- that past the frame's arguments; with a fault; or because there are more contexts than there is room for.
pub data LineEnd (C E : Type 0) : Type 0 where
  RanOut : Marked C → LineEnd C E
  Decides : Marked C → UnwindReasonCode → C → C → LineEnd C E
  Fails : E → LineEnd C E
  Crowded : LineEnd C E

-- What is answered at a frame, by what holds a state S: the state afterwards, and the answer with what is left of the context, or a
-- fault.
abbrev pub Asking : Type 0 → Type 0 → Type 0 → Type 0 → Type 0
Asking C F E S = S → F → Marked C → S × Result (UnwindReasonCode × C) E

-- what is met at a context: an end, or the caller
pub data FrameVisit (C E S : Type 0) : Type 0 where
  Ends : S → LineEnd C E → FrameVisit C E S
  Goes : S → Marked C → FrameVisit C E S

abbrev pub goes : {C E S : Type 0} → S → Result (Marked C) E → FrameVisit C E S
goes s (Ok next) = Goes s next
goes s (Err e) = Ends s (Fails e)

-- a frame was asked, and its caller is made only where the answer is to go on
abbrev pub visit_asked : {C F E S : Type 0} → Undoing C F E → F → Marked C → S × Result (UnwindReasonCode × C) E → FrameVisit C E S
visit_asked undoing f x (s, Ok (code, left)) = if is_code code CONTINUE_UNWIND then goes s (undoing.caller f left) else Ends s (Decides x code left (undoing.past_arguments f left))
visit_asked undoing f x (s, Err e) = Ends s (Fails e)

-- the row is read first
abbrev pub visit_seen : {C F E S : Type 0} → Undoing C F E → Asking C F E S → S → Marked C → Result (Option F) E → FrameVisit C E S
visit_seen undoing asks s x (Ok None) = Ends s (RanOut x)
visit_seen undoing asks s x (Ok (Some f)) = visit_asked undoing f x (asks s f x)
visit_seen undoing asks s x (Err e) = Ends s (Fails e)

-- the contexts of a line, how it ends, and the state then
pub record Line (C E S : Type 0) : Type 0 where
  pub contexts : List (Marked C)
  pub end : LineEnd C E
  pub state : S

abbrev pub IsAfter : {C E S : Type 0} → (S → Marked C → Line C E S → Type 0) → Marked C → FrameVisit C E S → Line C E S → Type 0
IsAfter outer x (Ends s end) line = line ≡ record { contexts = x ∷ []; end = end; state = s }
IsAfter {C} {E} {S} outer x (Goes s next) line = (rest : Line C E S) × outer s next rest × (line ≡ record rest { contexts = x ∷ rest.contexts })

-- A line from a context outwards, where there is room for so many contexts.
abbrev pub IsLine : {C F E S : Type 0} → Stepping C F E → Asking C F E S → ℕ → S → Marked C → Line C E S → Type 0
IsLine step asks zero s x line = line ≡ record { contexts = []; end = Crowded; state = s }
IsLine {C} {F} {E} {S} step asks (suc room) s x line =
    (seen : Result (Option F) E) × step.Sees x seen × IsAfter (IsLine step asks room) x (visit_seen step.undoing asks s x seen) line

-- ---- what frames are asked

-- what answers for the personalities of frames
pub record Answering (C F E : Type 0) : Type 0 where
  -- the address of a frame's personality, None where it has none, or why that can't be read
  pub named : F → Result (Option ℕ) E
  -- what the personality at an address answers, and what is left of the context
  pub answers : ℕ → UnwindAction → F → Marked C → UnwindReasonCode × C

abbrev pub asked_if_named : {C F E : Type 0} → Answering C F E → UnwindAction → F → Marked C → Result (Option ℕ) E → Result (UnwindReasonCode × C) E
asked_if_named p actions f x (Ok None) = Ok (CONTINUE_UNWIND, x.context)
asked_if_named p actions f x (Ok (Some routine)) = Ok (p.answers routine actions f x)
asked_if_named p actions f x (Err e) = Err e

-- a frame without a personality goes on
abbrev pub answer_of_personality : {C F E : Type 0} → Answering C F E → UnwindAction → F → Marked C → Result (UnwindReasonCode × C) E
answer_of_personality p actions f x = asked_if_named p actions f x (p.named f)

-- personalities keep no state
abbrev pub by_personality : {C F E S : Type 0} → Answering C F E → (Marked C → UnwindAction) → Asking C F E S
by_personality p actions s f x = (s, answer_of_personality p (actions x) f x)

abbrev pub both : UnwindAction → UnwindAction → UnwindAction
both a b = record { 0 = int_bit_or w32 a.0 b.0 }

-- ---- how a run ends

pub data Cause (E : Type 0) : Type 0 where
  FrameLimit : Cause E
  Fault : E → Cause E

-- a context to be installed, and whether that is the handler's; or a code, and why where a fault or the limit is the cause
pub data Outcome (C E : Type 0) : Type 0 where
  Installs : C → Bool → Outcome C E
  Gives : UnwindReasonCode → Option (Cause E) → Outcome C E

-- what ends a line but an answer and the stack's end is a cause, with the phase's code
abbrev pub outcome_of_cause : {C E : Type 0} → UnwindReasonCode → Cause E → Outcome C E
outcome_of_cause code cause = Gives code (Some cause)

-- ---- the search

-- A line on which each frame is asked for a handler.
abbrev pub IsSearched : {C F E : Type 0} → Stepping C F E → Answering C F E → ℕ → C → Line C E (Unit {0}) → Type 0
IsSearched step p limit start line = IsLine step (by_personality p (λ x. actions.SEARCH_PHASE)) limit tt (without_mark start) line

-- ---- a cleanup pass

-- the frame with the kept mark is asked for its handler, all others for their cleanups
abbrev pub cleanup_actions : {C : Type 0} → (C → ℕ) → ℕ → Marked C → UnwindAction
cleanup_actions stack_pointer kept x = if mark_of stack_pointer x == kept then both actions.CLEANUP_PHASE actions.HANDLER_FRAME else actions.CLEANUP_PHASE

abbrev pub cleanup_end : {C E : Type 0} → (C → ℕ) → ℕ → LineEnd C E → Outcome C E
cleanup_end stack_pointer kept (RanOut x) = Gives FATAL_PHASE2_ERROR None
cleanup_end stack_pointer kept (Decides x code left past) = if is_code code INSTALL_CONTEXT then Installs past (mark_of stack_pointer x == kept) else Gives FATAL_PHASE2_ERROR None
cleanup_end stack_pointer kept (Fails e) = outcome_of_cause FATAL_PHASE2_ERROR (Fault e)
cleanup_end stack_pointer kept Crowded = outcome_of_cause FATAL_PHASE2_ERROR FrameLimit

-- A cleanup pass from a context toward the frame with a mark.
abbrev pub IsCleanup : {C F E : Type 0} → Stepping C F E → Answering C F E → ℕ → ℕ → C → Outcome C E → Type 0
IsCleanup {C} {F} {E} step p kept limit start outcome =
    (line : Line C E (Unit {0})) × IsLine step (by_personality p (cleanup_actions step.undoing.stack_pointer kept)) limit tt (without_mark start) line × (outcome ≡ cleanup_end step.undoing.stack_pointer kept line.end)

-- ---- a raise

-- the search found no handler: its code, and the exception keeps what it kept
abbrev pub IsNotTaken : {C E : Type 0} → Outcome C E → Kept → Outcome C E → Kept → Type 0
IsNotTaken code before outcome after = (outcome ≡ code) × (after ≡ before)

-- what a raise does where its search ends so; where a handler is found the mark of what the personality left is kept, and the
-- cleanup pass begins again from the start
abbrev pub IsRaisedBy : {C F E : Type 0} → Stepping C F E → Answering C F E → ℕ → C → LineEnd C E → Kept → Outcome C E → Kept → Type 0
IsRaisedBy step p limit start (RanOut x) before outcome after = IsNotTaken (Gives END_OF_STACK None) before outcome after
IsRaisedBy step p limit start (Decides x code left past) before outcome after =
    MatchBool (is_code code HANDLER_FOUND)
    ((after ≡ Handler (frame_mark x.signal (step.undoing.stack_pointer left))) × IsCleanup step p (frame_mark x.signal (step.undoing.stack_pointer left)) limit start outcome)
    (IsNotTaken (Gives FATAL_PHASE1_ERROR None) before outcome after)
IsRaisedBy step p limit start (Fails e) before outcome after = IsNotTaken (outcome_of_cause FATAL_PHASE1_ERROR (Fault e)) before outcome after
IsRaisedBy step p limit start Crowded before outcome after = IsNotTaken (outcome_of_cause FATAL_PHASE1_ERROR FrameLimit) before outcome after

-- A raise from a context: how it ends, and what the exception keeps before and after.
abbrev pub IsRaised : {C F E : Type 0} → Stepping C F E → Answering C F E → ℕ → C → Kept → Outcome C E → Kept → Type 0
IsRaised {C} {F} {E} step p limit start before outcome after =
    (line : Line C E (Unit {0})) × IsSearched step p limit start line × IsRaisedBy step p limit start line.end before outcome after

-- ---- forced passes

-- What may stop a forced pass: by the words that it holds, the actions, the frame, None at the stack's end, and the context. Its
-- answer, what is left of the context, and the words then.
abbrev pub Stops : Type 0 → Type 0 → Type 0
Stops C F = List ℕ → UnwindAction → Option F → Marked C → UnwindReasonCode × C × List ℕ

abbrev pub forced_actions : UnwindAction
forced_actions = both actions.FORCE_UNWIND actions.CLEANUP_PHASE

-- the personality takes what is left where nothing stops the pass
abbrev pub unless_stopped : {C F E : Type 0} → Answering C F E → F → Marked C → UnwindReasonCode × C × List ℕ → List ℕ × Result (UnwindReasonCode × C) E
unless_stopped p f x (code, left, words) =
    (words, if is_code code NO_REASON then answer_of_personality p forced_actions f (record x { context = left }) else Ok (FATAL_PHASE2_ERROR, left))

abbrev pub by_force : {C F E : Type 0} → Answering C F E → Stops C F → Asking C F E (List ℕ)
by_force p stops words f x = unless_stopped p f x (stops words forced_actions (Some f) x)

abbrev pub end_stopped : {C E : Type 0} → UnwindReasonCode × C × List ℕ → Outcome C E × List ℕ
end_stopped (code, left, words) = (Gives (if is_code code NO_REASON then END_OF_STACK else FATAL_PHASE2_ERROR) None, words)

-- at the end of the stack what may stop the pass is asked once more
abbrev pub forced_end : {C F E : Type 0} → Stops C F → List ℕ → LineEnd C E → Outcome C E × List ℕ
forced_end stops words (RanOut x) = end_stopped (stops words (both forced_actions actions.END_OF_STACK) None x)
forced_end stops words (Decides x code left past) = ((if is_code code INSTALL_CONTEXT then Installs past false else Gives FATAL_PHASE2_ERROR None), words)
forced_end stops words (Fails e) = (outcome_of_cause FATAL_PHASE2_ERROR (Fault e), words)
forced_end stops words Crowded = (outcome_of_cause FATAL_PHASE2_ERROR FrameLimit, words)

-- A forced pass from a context: how it ends, and the words before and after.
abbrev pub IsForced : {C F E : Type 0} → Stepping C F E → Answering C F E → Stops C F → ℕ → C → List ℕ → Outcome C E → List ℕ → Type 0
IsForced {C} {F} {E} step p stops limit start before outcome after =
    (line : Line C E (List ℕ)) × IsLine step (by_force p stops) limit before (without_mark start) line × ((outcome, after) ≡ forced_end stops line.state line.end)

-- A resume goes by what the exception keeps: toward the handler's frame, or by force.
abbrev pub IsResumed : {C F E : Type 0} → Stepping C F E → Answering C F E → Stops C F → ℕ → C → Kept → List ℕ → Outcome C E → List ℕ → Type 0
IsResumed step p stops limit start (Handler kept) before outcome after = IsCleanup step p kept limit start outcome × (after ≡ before)
IsResumed step p stops limit start Stop before outcome after = IsForced step p stops limit start before outcome after

-- A resume of an exception that was caught: it is raised anew, or goes on by force.
abbrev pub IsRethrown : {C F E : Type 0} → Stepping C F E → Answering C F E → Stops C F → ℕ → C → Kept → List ℕ → Outcome C E → Kept → List ℕ → Type 0
IsRethrown step p stops limit start (Handler old) before outcome kept after = IsRaised step p limit start (Handler old) outcome kept × (after ≡ before)
IsRethrown step p stops limit start Stop before outcome kept after = IsForced step p stops limit start before outcome after × (kept ≡ Stop)

-- ---- a backtrace

-- What traces a stack: by the words that it holds, the frame, None at the stack's end, and the context. Its answer, and the words
-- then.
abbrev pub Traces : Type 0 → Type 0 → Type 0
Traces C F = List ℕ → Option F → Marked C → UnwindReasonCode × List ℕ

-- the words that a trace holds, and the start of the frame up to which it isn't asked
pub record Tracing : Type 0 where
  pub words : List ℕ
  pub hidden : Option ℕ

abbrev pub hidden_after : ℕ → ℕ → Option ℕ
hidden_after h start = if h == start then None else Some h

abbrev pub trace_answer : {C E : Type 0} → C → UnwindReasonCode × List ℕ → Tracing × Result (UnwindReasonCode × C) E
trace_answer c (code, words) = (record { words = words; hidden = None }, Ok ((if is_code code NO_REASON then CONTINUE_UNWIND else FATAL_PHASE1_ERROR), c))

abbrev pub traced_unless_hidden : {C F E : Type 0} → (F → ℕ) → Traces C F → List ℕ → Option ℕ → F → Marked C → Tracing × Result (UnwindReasonCode × C) E
traced_unless_hidden starts traces words (Some h) f x = (record { words = words; hidden = hidden_after h (starts f) }, Ok (CONTINUE_UNWIND, x.context))
traced_unless_hidden starts traces words None f x = trace_answer x.context (traces words (Some f) x)

abbrev pub by_trace : {C F E : Type 0} → (F → ℕ) → Traces C F → Asking C F E Tracing
by_trace starts traces t f x = traced_unless_hidden starts traces t.words t.hidden f x

-- how a backtrace ends: its code and cause, and the words then
abbrev pub Traced : Type 0 → Type 0
Traced E = UnwindReasonCode × Option (Cause E) × List ℕ

abbrev pub last_traced : {E : Type 0} → UnwindReasonCode × List ℕ → Traced E
last_traced (code, words) = ((if is_code code NO_REASON then END_OF_STACK else FATAL_PHASE1_ERROR), None, words)

-- at the end of the stack the trace is asked once more, unless it is still hidden
abbrev pub run_out : {C F E : Type 0} → Traces C F → List ℕ → Option ℕ → Marked C → Traced E
run_out traces words (Some h) x = (END_OF_STACK, None, words)
run_out traces words None x = last_traced (traces words None x)

abbrev pub trace_end : {C F E : Type 0} → Traces C F → Tracing → LineEnd C E → Traced E
trace_end traces t (RanOut x) = run_out traces t.words t.hidden x
trace_end traces t (Decides x code left past) = (FATAL_PHASE1_ERROR, None, t.words)
trace_end traces t (Fails e) = (FATAL_PHASE1_ERROR, Some (Fault e), t.words)
trace_end traces t Crowded = (FATAL_PHASE1_ERROR, Some FrameLimit, t.words)

-- A backtrace from a context, over frames that start at addresses.
abbrev pub IsTraced : {C F E : Type 0} → Stepping C F E → (F → ℕ) → Traces C F → ℕ → C → Option ℕ → List ℕ → Traced E → Type 0
IsTraced {C} {F} {E} step starts traces limit start hidden before end =
    (line : Line C E Tracing) × IsLine step (by_trace starts traces) limit (record { words = before; hidden = hidden }) (without_mark start) line × (end ≡ trace_end traces line.state line.end)
