-- What a frame asks of an exception, by the rule of its function's language: that of C++, or that of Rust.
-- Itanium C++ ABI, exception handling, levels I and II, section 2.5.
use Rattle.std.specs.Prelude.{ℕ, Bool, true, false, List, [], Option, Some, None, Result, Ok, Err, if◌then◌else◌}
use Rattle.std.specs.Option.{option_map_or}
use Rattle.memory_image.specs.Image.{Span}
use Rattle.memory_image.specs.Results.{result_map}
use Rattle.unwind_definitions.specs.Caller.{StepFault}
use Rattle.unwind_definitions.specs.Function as rust
use Rattle.unwind_definitions.specs.LanguageTable.{input_at}
use Rattle.unwind_definitions.specs.Module.{Process, bases_of}
use Rattle.frame_facts.specs.Facts.{Facts}
use Rattle.frame_facts.specs.FactTables.{AreSaidAt}
use Rattle.unwind_definitions.specs.LanguageSearch.{LanguagePlace, address_of_call, personality_address, table_action}
use Rattle.unwind_arch.specs.declared.x86_64.Context.{Context}
use Rattle.unwinding_frames.specs.declared.cxx.error.CxxError.{CxxError}
use Rattle.unwinding_frames.specs.declared.cxx.runtime.CxxRuntime.{CxxRuntime}
use Rattle.unwinding_frames.specs.declared.cxx.runtime.CxxRuntime.TheVariants.{Libstdcxx, Libcxxabi}
use Rattle.unwinding_frames.specs.declared.cxx.runtime.ExceptionKind.TheVariants.{Foreign}
use Rattle.unwinding_frames.specs.CxxTables.{Exception, contains, cxx_table_action}
use Rattle.unwinding_frames.specs.CxxTables as cxx
use Rattle.unwinding_frames.specs.CxxViews.{exception_of}
use Rattle.stack_steps.specs.declared.error.DeliverError.{DeliverError}
use Rattle.stack_steps.specs.declared.asking.FrameAction.{FrameAction}
use Rattle.stack_steps.specs.declared.asking.FrameAction.TheVariants.{Nothing, Cleanup, Handler, Terminate, TerminateAfterCleanups}
use Rattle.stack_steps.specs.declared.languages.Languages.{Languages as CodeLanguages}
use Rattle.fde_finders.specs.Finding.{FoundFde}
use Rattle.stack_steps.specs.Elf.{table as described_table}
use Rattle.stack_steps.specs.Asking.{named_table, or_terminate}
use Rattle.stack_steps.specs.Frames.{FrameAt, Described, Compact, Recorded}

-- ---- languages

-- The languages of the functions on a stack, as an exception in flight meets them: the addresses of the personality routines that
-- are C++'s, all of one runtime, and the exception as C++ functions see it. The functions of every other routine ask by the rule of
-- Rust.
pub record Languages : Type 0 where
  pub cxx_routines : List ℕ
  pub exception : Exception

abbrev pub languages_of : CodeLanguages → Languages
languages_of l = record { cxx_routines = l.cxx_routines.now; exception = exception_of l.exception }

-- no routine is C++'s
abbrev pub rust_alone : Languages
rust_alone = record { cxx_routines = []; exception = record { types = []; kind = Foreign; runtime = Libstdcxx } }

-- The routine that reads the language table of a frame, where a description names it. That of a Mach-O or PE function isn't looked at.
abbrev pub known_routine : Result (Option ℕ) StepFault → Option ℕ
known_routine (Ok routine) = routine
known_routine (Err e) = None

abbrev pub routine_of : List Span → FrameAt → Option ℕ
routine_of image (Described f) = known_routine (personality_address image f.found.fde)
routine_of image (Compact m listed) = None
routine_of image (Recorded m rva function) = None

abbrev pub is_cxx : Languages → Option ℕ → Bool
is_cxx l routine = option_map_or (λ r. contains l.cxx_routines r) routine false

-- ---- what is asked

-- By the rule of Rust a handler isn't chosen by a number: its landing pad finds 0.
abbrev pub asked_by_rust : rust.Action → FrameAction
asked_by_rust rust.NoAction = Nothing
asked_by_rust (rust.Cleanup pad) = Cleanup pad
asked_by_rust (rust.Catch pad) = Handler pad 0
asked_by_rust (rust.Filter pad) = Handler pad 0
asked_by_rust rust.Terminate = Terminate

-- Where no exception may leave a call, libstdc++ ends the program once the cleanups inside have run, and libc++abi at once.
abbrev pub ended_by : CxxRuntime → FrameAction
ended_by Libstdcxx = TerminateAfterCleanups
ended_by Libcxxabi = Terminate

-- By the rule of C++ a landing pad finds the number of the action record that takes the exception. A table that can't be read ends
-- the program at once.
abbrev pub asked_by_cxx : CxxRuntime → Result cxx.CxxAction CxxError → FrameAction
asked_by_cxx runtime (Ok cxx.NoAction) = Nothing
asked_by_cxx runtime (Ok (cxx.Cleanup pad)) = Cleanup pad
asked_by_cxx runtime (Ok (cxx.Handler pad filter)) = Handler pad filter
asked_by_cxx runtime (Ok cxx.Terminate) = ended_by runtime
asked_by_cxx runtime (Err e) = Terminate

-- what the language table at a place asks at an address, by the language of the routine that reads it
abbrev pub table_asks : Languages → List Span → ℕ → Option ℕ → Result LanguagePlace StepFault → FrameAction
table_asks l image a routine place =
    if is_cxx l routine then asked_by_cxx l.exception.runtime (cxx_table_action image l.exception a place) else asked_by_rust (or_terminate (table_action image a place))

-- nothing is asked of a frame that names no language table
abbrev pub asks_if_named : Languages → List Span → ℕ → Option ℕ → Option (Result LanguagePlace StepFault) → FrameAction
asks_if_named l image a routine None = Nothing
asks_if_named l image a routine (Some place) = table_asks l image a routine place

-- by a description, at an address
abbrev pub described_asks : Languages → List Span → ℕ → FoundFde → Result FrameAction DeliverError
described_asks l image a found = result_map (asks_if_named l image a (known_routine (personality_address image found.fde))) (described_table image found)

-- the description that says facts at an address, as what a step finds there
abbrev pub found_in : {p : Process} {a : ℕ} {facts : Facts} → AreSaidAt p a facts → FoundFde
found_in {p} said = record { fde = said.says.fde; bases = bases_of said.home said.says.tables.frame; table = input_at p.image said.says.tables.frame }

-- What is asked of the frame at a context, by the language table that it names, at the address of its call.
abbrev pub frame_asks : Languages → List Span → Context → Bool → FrameAt → Result FrameAction DeliverError
frame_asks l image c interrupted f = result_map (asks_if_named l image (address_of_call c.ra interrupted) (routine_of image f)) (named_table image f)

-- ---- where a search ends, and what is entered there

-- A frame takes the exception that has a handler for it, or that ends the program once the cleanups inside have run. A frame that ends
-- it at once takes none, and a frame that asks for a cleanup, or for nothing, is passed.
abbrev pub is_taken : FrameAction → Bool
is_taken Nothing = false
is_taken (Cleanup pad) = false
is_taken (Handler pad number) = true
is_taken Terminate = false
is_taken TerminateAfterCleanups = true

abbrev pub pad_of : FrameAction → Option ℕ
pad_of (Cleanup pad) = Some pad
pad_of (Handler pad number) = Some pad
pad_of _ = None

-- what it finds in the second data register
abbrev pub selector_of : FrameAction → ℕ
selector_of (Handler pad number) = number
selector_of _ = 0
