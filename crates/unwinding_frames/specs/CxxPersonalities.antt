-- What the personality of C++ answers. Itanium C++ ABI, exception handling, sections 1.6 and 2.5.
use Rattle.std.specs.Prelude.{ℕ, pos, Bool, List, [], Option, Result, Ok, Err, if◌then◌else◌}
use Rattle.std.specs.Option.{option_map_or, unwrap_or}
use Rattle.std.specs.Ordering.{int_eq}
use Rattle.memory_image.specs.Image.{Span}
use Rattle.unwind_definitions.specs.Caller.{Columns}
use Rattle.unwind_definitions.specs.LanguageSearch.{LanguagePlace, address_of_call, language_place}
use Rattle.unwinding_frames.specs.declared.abi.UnwindReasonCode.{UnwindReasonCode}
use Rattle.unwinding_frames.specs.declared.abi.TheConstants.UnwindReasonCode.{HANDLER_FOUND, INSTALL_CONTEXT, CONTINUE_UNWIND, FATAL_PHASE1_ERROR, FATAL_PHASE2_ERROR}
use Rattle.unwinding_frames.specs.declared.abi.TheConstants.UnwindAction.{SEARCH_PHASE, FORCE_UNWIND}
use Rattle.unwinding_frames.specs.declared.cxx.error.CxxError.{CxxError}
use Rattle.unwinding_frames.specs.declared.cxx.runtime.CxxRuntime.{CxxRuntime}
use Rattle.unwinding_frames.specs.declared.cxx.runtime.CxxRuntime.TheVariants.{Libstdcxx, Libcxxabi}
use Rattle.unwinding_frames.specs.declared.cxx.runtime.ExceptionKind.TheVariants.{Forced}
use Rattle.unwinding_frames.specs.Actions.{shares}
use Rattle.unwinding_frames.specs.Columns.{with_value}
use Rattle.unwinding_frames.specs.ContextSeen.{ContextSeen}
use Rattle.unwinding_frames.specs.FrameValue.{FrameValue}
use Rattle.unwinding_frames.specs.Personalities.{Asked, Answer, Landing}
use Rattle.unwinding_frames.specs.CxxTables.{CxxAction, NoAction, Cleanup, Handler, Terminate, Exception, cxx_place_action, cxx_table_action}

-- Where the program ends, libstdc++ ends the search as at a handler, so that the cleanups of the frames inside run first. libc++abi
-- ends the program in the search.
abbrev pub end_in_search : CxxRuntime → UnwindReasonCode
end_in_search Libstdcxx = HANDLER_FOUND
end_in_search Libcxxabi = FATAL_PHASE1_ERROR

-- In the search phase a frame ends the search where it handles the exception.
abbrev pub cxx_search_answer : CxxRuntime → CxxAction → UnwindReasonCode
cxx_search_answer runtime NoAction = CONTINUE_UNWIND
cxx_search_answer runtime (Cleanup pad) = CONTINUE_UNWIND
cxx_search_answer runtime (Handler pad filter) = HANDLER_FOUND
cxx_search_answer runtime Terminate = end_in_search runtime

-- the registers as a landing pad is entered with an exception's word and a number, which is 0 for a cleanup
abbrev pub columns_at_handler : Landing → ℕ → ℕ → ℕ → Columns → Columns
columns_at_handler machine exception pad filter columns = with_value (with_value (with_value columns machine.exception exception) machine.selector filter) machine.return_address pad

-- in the cleanup phase landing pads are entered
abbrev pub cxx_cleanup_answer : Landing → ℕ → Columns → CxxAction → Answer
cxx_cleanup_answer machine exception columns NoAction = (CONTINUE_UNWIND, columns)
cxx_cleanup_answer machine exception columns (Cleanup pad) = (INSTALL_CONTEXT, columns_at_handler machine exception pad 0 columns)
cxx_cleanup_answer machine exception columns (Handler pad filter) = (INSTALL_CONTEXT, columns_at_handler machine exception pad filter columns)
cxx_cleanup_answer machine exception columns Terminate = (FATAL_PHASE2_ERROR, columns)

-- the answer by what a frame's language asks; a language table that can't be read is fatal
abbrev pub cxx_answered_by : Landing → CxxRuntime → Asked → Columns → Result CxxAction CxxError → Answer
cxx_answered_by machine runtime asked columns (Err e) = (FATAL_PHASE1_ERROR, columns)
cxx_answered_by machine runtime asked columns (Ok x) =
    if shares asked.actions.0 SEARCH_PHASE.0 then (cxx_search_answer runtime x, columns) else cxx_cleanup_answer machine asked.exception columns x

-- what the language of a function asks, by a frame or else by the place of its language table; nothing without both
abbrev pub cxx_action_seen : List Span → Exception → Option FrameValue → Option LanguagePlace → ℕ → Result CxxAction CxxError
cxx_action_seen image x frame place a =
    option_map_or (λ f. cxx_table_action image x a (language_place image f.found.bases f.found.fde)) frame (option_map_or (λ p. cxx_place_action image x p a) place (Ok NoAction))

-- in a forced unwinding there is no exception, and so it has no types
abbrev pub exception_in : Bool → Exception → Exception
exception_in forced x = if forced then record { types = []; kind = Forced; runtime = x.runtime } else x

-- The personality of C++, which knows version 1 alone.
abbrev pub cxx_answers : Landing → Exception → Asked → ContextSeen → Answer
cxx_answers machine x asked seen =
    if int_eq asked.version (pos 1) then cxx_answered_by machine x.runtime asked seen.columns
    (cxx_action_seen seen.image (exception_in (shares asked.actions.0 FORCE_UNWIND.0) x) seen.frame seen.place (address_of_call (unwrap_or (seen.columns machine.return_address) 0) seen.signal))
    else (FATAL_PHASE1_ERROR, seen.columns)
