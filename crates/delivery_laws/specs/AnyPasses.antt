-- A delivery in the words of the passes over any stack: by the step of a space, and with the personality of Rust at its frames.
-- Itanium C++ ABI, exception handling, level I, section 1.3.
use Rattle.std.specs.Prelude.{◌≡◌, ℕ, zero, suc, pos, true, false, List, [], Option, Some, None, Result, Ok, Err, map, slice_index, if◌then◌else◌}
use Rattle.std.specs.Option.{option_map}
use Rattle.std.specs.Result.{result_map_both}
use Rattle.unwind_definitions.specs.LanguageSearch.{LanguagePlace}
use Rattle.unwind_definitions.specs.Row.{RowInstructions}
use Rattle.unwind_definitions.specs.Caller.{Columns, StepFault}
use Rattle.frame_rows.specs.RowValue.{RowValue}
use Rattle.unwind_arch.specs.declared.x86_64.Context.{Context}
use Rattle.unwind_definitions.specs.Columns.{rsp}
use Rattle.unwind_arch.specs.ContextViews.{columns_of, context_of}
use Rattle.unwinding_frames.specs.declared.abi.UnwindReasonCode.{UnwindReasonCode}
use Rattle.unwinding_frames.specs.declared.abi.TheConstants.UnwindReasonCode.{HANDLER_FOUND}
use Rattle.unwinding_frames.specs.OneLine.{by_one}
use Rattle.unwinding_frames.specs.Passes.{Marked, Undoing, Stepping, Answering, LineEnd, RanOut, Decides, Fails, Crowded, Line, Fault, Installs, Gives, is_code, frame_mark, IsSearched, IsCleanup}
use Rattle.unwinding_frames.specs.Passes as any
use Rattle.unwinding_frames.specs.ContextSeen.{ContextSeen}
use Rattle.unwinding_frames.specs.FrameValue.{FrameValue}
use Rattle.unwinding_frames.specs.Personalities.{Asked, Answer, rust_answers}
use Rattle.unwinding_frames.specs.Seen.{FrameSeen, Thrown, answering}
use Rattle.format_frames.specs.declared.machine.Stepped.{Stepped}
use Rattle.stack_walks.specs.declared.room.Trail.{Trail}
use Rattle.stack_deliver.specs.declared.outcome.Outcome.{Outcome}
use Rattle.stack_deliver.specs.declared.outcome.Outcome.TheVariants.{EndOfStack, FatalPhase1}
use Rattle.stack_steps.specs.declared.error.DeliverError.{DeliverError}
use Rattle.stack_steps.specs.declared.error.DeliverError.TheVariants.{FrameLimit, PassLimit}
use Rattle.stack_deliver.specs.StackDelivery.{DeliveryValue, delivery_after, no_delivery}
use Rattle.stack_steps.specs.Modules.{SpaceValue}
use Rattle.stack_walks.specs.FrameVisits.{Stop, past_arguments, pass_of, mark_at, searching}
use Rattle.stack_deliver.specs.Passes.{PassEnd, Finishes, Cleanup, CleanupsRun, fatal, ending_at, cleanup_at, resume_at, with_cleanup}
use Rattle.stack_walks.specs.FrameVisits as stopped
use Rattle.delivery_laws.specs.Personality.{landing_columns}
use Rattle.stack_deliver.specs.Resumes.{return_of}
use Rattle.memory_image.specs.Results.{result_map}
use Rattle.stack_steps.specs.Frames.{FrameAt, DescribedFrame, Described, Compact, Recorded, refusal_of}
use Rattle.stack_steps.specs.Stepping.{frame_of, caller_by}
use Rattle.stack_steps.specs.Asking.{arguments_of, named_table}
use Rattle.stack_steps.specs.Languages.{is_taken, rust_alone}
use Rattle.unwinding_frames.specs.declared.abi.UnwindAction.{UnwindAction}

-- ---- the step of a space

abbrev pub marked_of : Stepped → Marked Context
marked_of s = record { context = s.context; signal = s.signal }

-- how the frames of a space are undone
abbrev pub undoing_in : SpaceValue → Undoing Context FrameAt DeliverError
undoing_in space = record {
  caller = λ f c. result_map marked_of (caller_by space.image c f);
  stack_pointer = λ c. slice_index c.registers rsp;
  past_arguments = λ f c. past_arguments c (arguments_of f);
}

-- what is seen at a context of a space: its frame
abbrev pub sees_in : SpaceValue → Marked Context → Result (Option FrameAt) DeliverError
sees_in space x = frame_of space x.context x.signal

abbrev pub stepping_in : SpaceValue → Stepping Context FrameAt DeliverError
stepping_in space = by_one (sees_in space) (undoing_in space)

-- ---- the personality of Rust at its frames

-- a frame as personalities see it; its row, which the personality of Rust doesn't read, is given by any function
abbrev pub seen_with : (RowInstructions → RowValue) → DescribedFrame → FrameSeen
seen_with row f = record { value = record { found = f.found; row = row f.run }; run = f.run }

abbrev pub at_columns : Marked Context → Marked Columns
at_columns x = record { context = columns_of x.context; signal = x.signal }

-- an answer, and the context that holds the registers that are left
abbrev pub answer_left : Answer → UnwindReasonCode × Context
answer_left (code, columns) = (code, context_of columns)

-- What answers for the personalities of a space: `RustPersonality`, for an exception.
abbrev pub rust : SpaceValue → Thrown → Answering Columns FrameSeen StepFault
rust space thrown = answering (rust_answers landing_columns) space.image thrown

-- A frame of another format whose language table has a place is asked by it. The routine stands here as 0: the cell with the address
-- of a Mach-O frame's isn't read, and that of a PE frame's, which its record holds itself, isn't looked at.
abbrev pub placed_routine : Result (Option (Result LanguagePlace StepFault)) DeliverError → Result (Option ℕ) DeliverError
placed_routine = result_map (option_map (λ place. 0))

abbrev pub place_named : Result (Option (Result LanguagePlace StepFault)) DeliverError → Option LanguagePlace
place_named (Ok (Some (Ok place))) = Some place
place_named _ = None

-- a personality of a delivery is called by version 1 of the interface
abbrev pub asked_with : Thrown → UnwindAction → ℕ → Asked
asked_with thrown acts routine = record { routine = routine; version = pos 1; actions = acts; class = thrown.class; exception = thrown.word }

-- what it sees at a context of a space: a frame, or else a place
abbrev pub seen_at : SpaceValue → Marked Context → Option FrameValue → Option LanguagePlace → ContextSeen
seen_at space x frame place = record { image = space.image; frame = frame; place = place; columns = columns_of x.context; signal = x.signal }

module _ (space : SpaceValue) (row : RowInstructions → RowValue) (thrown : Thrown) where
  abbrev pub rust_named : FrameAt → Result (Option ℕ) DeliverError
  rust_named (Described f) = result_map_both (λ routine. routine) refusal_of ((rust space thrown).named (seen_with row f))
  rust_named (Compact m listed) = placed_routine (named_table space.image (Compact m listed))
  rust_named (Recorded m rva function) = placed_routine (named_table space.image (Recorded m rva function))

  abbrev pub rust_at_place : ℕ → UnwindAction → FrameAt → Marked Context → UnwindReasonCode × Context
  rust_at_place routine actions f x = answer_left (rust_answers landing_columns (asked_with thrown actions routine) (seen_at space x None (place_named (named_table space.image f))))

  abbrev pub rust_answered : ℕ → UnwindAction → FrameAt → Marked Context → UnwindReasonCode × Context
  rust_answered routine actions (Described f) x = answer_left ((rust space thrown).answers routine actions (seen_with row f) (at_columns x))
  rust_answered routine actions (Compact m listed) x = rust_at_place routine actions (Compact m listed) x
  rust_answered routine actions (Recorded m rva function) x = rust_at_place routine actions (Recorded m rva function) x

  abbrev pub rust_in : Answering Context FrameAt DeliverError
  rust_in = record { named = rust_named; answers = rust_answered }

-- ---- a delivery, by any step over contexts and any personality

-- how a search ends: at a frame that takes the exception, by its mark, or with an outcome
pub data SearchEnd : Type 0 where
  TakenBy : ℕ → SearchEnd
  Untaken : Outcome → SearchEnd

-- the contexts that a search visits, and its end
pub record Search : Type 0 where
  pub visited : List Context
  pub end : SearchEnd

-- by the end of its line: the mark is that of what the personality left
abbrev pub search_end : (Context → ℕ) → List Context → LineEnd Context DeliverError → Result Search DeliverError
search_end stack_pointer visited (RanOut x) = Ok (record { visited = visited; end = Untaken EndOfStack })
search_end stack_pointer visited (Decides x code left past) =
    Ok (record { visited = visited; end = if is_code code HANDLER_FOUND then TakenBy (frame_mark x.signal (stack_pointer left)) else Untaken FatalPhase1 })
search_end stack_pointer visited (Fails e) = Err e
search_end stack_pointer visited Crowded = Err FrameLimit

-- How a cleanup pass ends: with the landing, with a cleanup that is entered, with the program, or with a fault. The return address
-- of a context that is installed is the landing pad.
abbrev pub pass_end : any.Outcome Context DeliverError → Result PassEnd DeliverError
pass_end (Installs entered true) = Ok (Finishes (ending_at entered))
pass_end (Installs entered false) = Ok (Cleanup entered.ra entered)
pass_end (Gives code None) = Ok (Finishes fatal)
pass_end (Gives code (Some any.FrameLimit)) = Err FrameLimit
pass_end (Gives code (Some (Fault e))) = Err e

-- what passes come to of which the first ends so: nothing more, or what follows its cleanup
abbrev pub FollowedBy : (ℕ → Context → Result CleanupsRun DeliverError → Type 0) → Result PassEnd DeliverError → Result CleanupsRun DeliverError → Type 0
FollowedBy later (Ok (Finishes ending)) passed = passed ≡ Ok (record { trail = []; ending = ending })
FollowedBy later (Ok (Cleanup pad entered)) passed = later pad entered passed
FollowedBy later (Err e) passed = passed ≡ Err e

-- a cleanup is put on the trail, and the later passes start at the context after it
abbrev pub ResumedBy : (Context → Result CleanupsRun DeliverError → Type 0) → Trail → Result Context DeliverError → Result CleanupsRun DeliverError → Type 0
ResumedBy later cleanup (Ok after) passed = (rest : Result CleanupsRun DeliverError) × later after rest × (passed ≡ with_cleanup cleanup rest)
ResumedBy later cleanup (Err e) passed = passed ≡ Err e

module _ (step : Stepping Context FrameAt DeliverError) (p : Answering Context FrameAt DeliverError) (limit : ℕ) where
  -- A search from a context.
  abbrev pub IsSearchBy : Context → Result Search DeliverError → Type 0
  IsSearchBy start due =
      (line : Line Context DeliverError (Unit {0})) × IsSearched step p limit start line × (due ≡ search_end step.undoing.stack_pointer (map (λ x. x.context) line.contexts) line.end)

  -- A cleanup pass from a context toward the frame with a mark.
  abbrev pub IsPassBy : ℕ → Context → Result PassEnd DeliverError → Type 0
  IsPassBy kept start due = (outcome : any.Outcome Context DeliverError) × IsCleanup step p kept limit start outcome × (due ≡ pass_end outcome)

  -- The cleanup passes toward the frame with a mark, where the trail has places for so many cleanups. After each cleanup the resume
  -- table says where the next pass starts.
  abbrev pub ArePassesBy : List (ℕ × ℕ) → ℕ → ℕ → Context → Result CleanupsRun DeliverError → Type 0
  ArePassesBy resumes kept zero start passed =
      (end : Result PassEnd DeliverError) × IsPassBy kept start end × FollowedBy (λ pad entered due. due ≡ Err PassLimit) end passed
  ArePassesBy resumes kept (suc places) start passed =
      (end : Result PassEnd DeliverError) × IsPassBy kept start end ×
      FollowedBy (λ pad entered due. ResumedBy (ArePassesBy resumes kept places) (cleanup_at pad entered) (resume_at pad entered (return_of resumes pad)) due) end passed

  -- What is delivered after a search: nothing, or what the passes toward its frame come to.
  abbrev pub IsDeliveredAfter : List (ℕ × ℕ) → Context → List Context → SearchEnd → Result DeliveryValue DeliverError → Type 0
  IsDeliveredAfter resumes start visited (Untaken outcome) due = due ≡ Ok (no_delivery visited outcome)
  IsDeliveredAfter resumes start visited (TakenBy kept) due =
      (passed : Result CleanupsRun DeliverError) × ArePassesBy resumes kept limit start passed × (due ≡ delivery_after visited passed)

  abbrev pub IsDeliveredBy : List (ℕ × ℕ) → Context → Result Search DeliverError → Result DeliveryValue DeliverError → Type 0
  IsDeliveredBy resumes start (Ok found) due = IsDeliveredAfter resumes start found.visited found.end due
  IsDeliveredBy resumes start (Err e) due = due ≡ Err e

  -- A delivery from a context: the search, and the passes.
  abbrev pub IsDeliveryBy : List (ℕ × ℕ) → Context → Result DeliveryValue DeliverError → Type 0
  IsDeliveryBy resumes start due = (found : Result Search DeliverError) × IsSearchBy start found × IsDeliveredBy resumes start found due

-- ---- the search of a delivery

abbrev pub search_stop : Option Stop → SearchEnd
search_stop None = Untaken EndOfStack
search_stop (Some stop) = if is_taken stop.action then TakenBy (mark_at stop.context stop.interrupted) else Untaken FatalPhase1

abbrev pub search_line : stopped.Line → Search
search_line line = record { visited = line.contexts; end = search_stop line.stop }

-- What the search of a delivery visits, and where it ends.
abbrev pub search_of : SpaceValue → ℕ → Context → Result Search DeliverError
search_of space limit c = result_map search_line (pass_of (searching rust_alone) space limit c false)
