-- What the passes ask of a frame, as the personality of Rust answers it. Itanium C++ ABI, exception handling, section 2.5.
use Rattle.std.specs.Prelude.{◌≡◌, ◌⊎◌, ℕ, pos, Bool, true, false, List, Some, Ok}
use Rattle.memory_image.specs.Image.{Span}
use Rattle.unwind_definitions.specs.Columns as column
use Rattle.unwind_definitions.specs.Function.{Action, NoAction, Cleanup, Catch, Filter, Terminate}
use Rattle.unwind_definitions.specs.LanguageSearch.{personality_address}
use Rattle.unwind_arch.specs.declared.x86_64.Context.{Context}
use Rattle.unwind_arch.specs.ContextViews.{columns_of}
use Rattle.unwinding_frames.specs.declared.abi.TheConstants.UnwindReasonCode.{INSTALL_CONTEXT, CONTINUE_UNWIND, FATAL_PHASE1_ERROR, FATAL_PHASE2_ERROR}
use Rattle.unwinding_frames.specs.declared.abi.TheConstants.UnwindAction.{SEARCH_PHASE, FORCE_UNWIND}
use Rattle.unwinding_frames.specs.declared.abi.UnwindReasonCode.{UnwindReasonCode}
use Rattle.unwinding_frames.specs.Actions.{shares}
use Rattle.unwinding_frames.specs.ContextSeen.{frame_seen}
use Rattle.unwinding_frames.specs.FrameValue.{FrameValue}
use Rattle.unwinding_frames.specs.Personalities.{Asked, Answer, Landing, rust_answers}
use Rattle.stack_steps.specs.Asking.{described_action}
use Rattle.stack_walks.specs.FrameVisits.{enters}

-- The columns of the return address and of the two registers that a landing pad finds its arguments in, RAX and RDX.
-- System V x86-64 psABI, table of DWARF register numbers.
abbrev pub landing_columns : Landing
landing_columns = record { return_address = column.ra; exception = column.rax; selector = column.rdx }

-- a personality is called in the search phase, by version 1 of the interface
pub record InSearch (asked : Asked) : Type 0 where
  pub version : asked.version ≡ pos 1
  pub search : shares asked.actions.0 SEARCH_PHASE.0 ≡ true

-- a personality is called in the cleanup phase of a raise, by version 1 of the interface
pub record InCleanup (asked : Asked) : Type 0 where
  pub version : asked.version ≡ pos 1
  pub cleanup : shares asked.actions.0 SEARCH_PHASE.0 ≡ false
  pub unforced : shares asked.actions.0 FORCE_UNWIND.0 ≡ false

-- a landing pad is entered with the registers of the context
abbrev pub Installs : ℕ → ℕ → Context → Answer → Type 0
Installs pad exception c answer = answer ≡ (INSTALL_CONTEXT, columns_of (enters c exception 0 pad))

-- what the answer in a cleanup phase is, by what the frame asks for
abbrev pub AnswersCleanup : Action → ℕ → Context → Answer → Type 0
AnswersCleanup NoAction exception c answer = answer ≡ (CONTINUE_UNWIND, columns_of c)
AnswersCleanup (Cleanup pad) exception c answer = Installs pad exception c answer
AnswersCleanup (Catch pad) exception c answer = Installs pad exception c answer
AnswersCleanup (Filter pad) exception c answer = Installs pad exception c answer
AnswersCleanup Terminate exception c answer = (answer ≡ (FATAL_PHASE2_ERROR, columns_of c)) ⊎ (answer ≡ (FATAL_PHASE1_ERROR, columns_of c))

-- a frame whose description names a personality, and what the passes ask of it
pub record IsAsked (image : List Span) (c : Context) (interrupted : Bool) (frame : FrameValue) (action : Action) : Type 0 where
  pub routine : ℕ
  pub named : personality_address image frame.found.fde ≡ Ok (Some routine)
  pub asks : described_action image c interrupted frame.found ≡ Ok action

-- what the personality of Rust answers for a frame of x86-64
abbrev pub answer_for : Asked → List Span → FrameValue → Context → Bool → Answer
answer_for asked image frame c interrupted = rust_answers landing_columns asked (frame_seen image (Some frame) (columns_of c) interrupted)

abbrev pub code_of : Answer → UnwindReasonCode
code_of answer = answer.0
