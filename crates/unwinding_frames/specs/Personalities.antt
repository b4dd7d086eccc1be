-- What a personality is asked, and what that of Rust answers. Itanium C++ ABI, exception handling, section 2.5.
use Rattle.std.specs.Prelude.{ℕ, ℤ, pos, Bool, List, Option, Result, Ok, Err, if◌then◌else◌}
use Rattle.std.specs.Option.{option_map_or, unwrap_or}
use Rattle.std.specs.Ordering.{int_eq}
use Rattle.memory_image.specs.Image.{Span}
use Rattle.unwind_definitions.specs.Function.{Action, NoAction, Cleanup, Catch, Filter, Terminate}
use Rattle.unwind_definitions.specs.Caller.{Columns, StepFault}
use Rattle.unwind_definitions.specs.LanguageSearch.{LanguagePlace, address_of_call, language_action, place_action}
use Rattle.unwinding_frames.specs.declared.abi.UnwindReasonCode.{UnwindReasonCode}
use Rattle.unwinding_frames.specs.declared.abi.UnwindAction.{UnwindAction}
use Rattle.unwinding_frames.specs.declared.abi.TheConstants.UnwindReasonCode.{HANDLER_FOUND, INSTALL_CONTEXT, CONTINUE_UNWIND, FATAL_PHASE1_ERROR, FATAL_PHASE2_ERROR}
use Rattle.unwinding_frames.specs.declared.abi.TheConstants.UnwindAction.{SEARCH_PHASE, FORCE_UNWIND}
use Rattle.unwinding_frames.specs.Actions.{shares}
use Rattle.unwinding_frames.specs.Columns.{with_value}
use Rattle.unwinding_frames.specs.ContextSeen.{ContextSeen}
use Rattle.unwinding_frames.specs.FrameValue.{FrameValue}

-- what a personality is called with
pub record Asked : Type 0 where
  -- the routine's address
  pub routine : ℕ
  pub version : ℤ
  pub actions : UnwindAction
  pub class : ℕ
  -- the exception's word
  pub exception : ℕ

-- the columns of the return address, and of the two registers that a landing pad finds its arguments in
pub record Landing : Type 0 where
  pub return_address : ℕ
  pub exception : ℕ
  pub selector : ℕ

-- the registers as a landing pad is entered with an exception's word
abbrev pub columns_at_pad : Landing → ℕ → ℕ → Columns → Columns
columns_at_pad machine exception pad columns = with_value (with_value (with_value columns machine.exception exception) machine.selector 0) machine.return_address pad

-- an answer, and the registers that are left
abbrev pub Answer : Type 0
Answer = UnwindReasonCode × Columns

-- In the search phase a frame with a handler or an exception specification ends the search, and one that ends the program is fatal.
abbrev pub search_answer : Action → UnwindReasonCode
search_answer NoAction = CONTINUE_UNWIND
search_answer (Cleanup pad) = CONTINUE_UNWIND
search_answer (Catch pad) = HANDLER_FOUND
search_answer (Filter pad) = HANDLER_FOUND
search_answer Terminate = FATAL_PHASE1_ERROR

-- a landing pad is entered
abbrev pub pad_answer : Landing → ℕ → ℕ → Columns → Answer
pad_answer machine exception pad columns = (INSTALL_CONTEXT, columns_at_pad machine exception pad columns)

-- In the cleanup phase landing pads are entered, but in a forced unwinding not that of an exception specification.
abbrev pub cleanup_answer : Landing → Bool → ℕ → Columns → Action → Answer
cleanup_answer machine forced exception columns NoAction = (CONTINUE_UNWIND, columns)
cleanup_answer machine forced exception columns (Cleanup pad) = pad_answer machine exception pad columns
cleanup_answer machine forced exception columns (Catch pad) = pad_answer machine exception pad columns
cleanup_answer machine forced exception columns (Filter pad) = if forced then (CONTINUE_UNWIND, columns) else pad_answer machine exception pad columns
cleanup_answer machine forced exception columns Terminate = (FATAL_PHASE2_ERROR, columns)

-- the answer by what a frame's language asks; a language table that can't be read is fatal
abbrev pub answered_by : Landing → Asked → Columns → Result Action StepFault → Answer
answered_by machine asked columns (Err e) = (FATAL_PHASE1_ERROR, columns)
answered_by machine asked columns (Ok x) =
    if shares asked.actions.0 SEARCH_PHASE.0 then (search_answer x, columns)
    else cleanup_answer machine (shares asked.actions.0 FORCE_UNWIND.0) asked.exception columns x

-- what the language of a function asks, by a frame or else by the place of its language table; nothing without both
abbrev pub action_seen : List Span → Option FrameValue → Option LanguagePlace → ℕ → Result Action StepFault
action_seen image frame place a =
    option_map_or (λ f. language_action image f.found.bases f.found.fde a) frame (option_map_or (λ p. place_action image p a) place (Ok NoAction))

-- The personality of Rust, which knows version 1 alone.
abbrev pub rust_answers : Landing → Asked → ContextSeen → Answer
rust_answers machine asked seen =
    if int_eq asked.version (pos 1) then answered_by machine asked seen.columns
    (action_seen seen.image seen.frame seen.place (address_of_call (unwrap_or (seen.columns machine.return_address) 0) seen.signal))
    else (FATAL_PHASE1_ERROR, seen.columns)
