-- The step of a frame to its caller, over what a finder may answer, and what the frames of a stack are asked.
use Rattle.std.specs.Prelude.{◌≡◌, ℕ, ◌+◌, ◌%◌, ◌^◌, ◌==◌, pos, Bool, List, Option, Some, None, Result, Ok, Err, MatchBool}
use Rattle.std.specs.Option.{unwrap_or}
use Rattle.memory_image.specs.Image.{Span}
use Rattle.memory_image.specs.Results.{result_map}
use Rattle.unwind_definitions.specs.declared.error.Error.{Error as Fault}
use Rattle.unwind_definitions.specs.Row.{RowInstructions, row_at, argument_size}
use Rattle.unwind_definitions.specs.Caller.{Columns, Machine, StepFault, Table, caller_of}
use Rattle.unwind_definitions.specs.LanguageSearch.{personality_address}
use Rattle.frame_rows.specs.Rows.{IsRowOf}
use Rattle.unwind_definitions.specs.Expressions.{evaluation}
use Rattle.unwinding_frames.specs.Columns.{with_value}
use Rattle.fde_finders.specs.Finding.{FoundFde}
use Rattle.unwinding_frames.specs.ContextSeen.{ContextSeen, frame_seen}
use Rattle.unwinding_frames.specs.FrameValue.{FrameValue}
use Rattle.unwind_definitions.specs.LanguageSearch.{address_of_call}
use Rattle.unwinding_frames.specs.Personalities.{Asked, Answer}
use Rattle.unwinding_frames.specs.Passes.{Marked, Undoing, Stepping, Answering}

-- a frame, and its row as the definitions say it
pub record FrameSeen : Type 0 where
  pub value : FrameValue
  pub run : RowInstructions

-- what a finder's answer shows: no frame without a description, else that of the description with its row at the address, or the
-- row's fault
abbrev pub Shows : ℕ → Option FoundFde → Result (Option FrameSeen) StepFault → Type 0
Shows a None seen = seen ≡ Ok None
Shows a (Some found) (Ok None) = ⊥
Shows a (Some found) (Ok (Some f)) = (f.value.found ≡ found) × (row_at found.bases found.fde a ≡ Ok f.run) × IsRowOf f.value.row f.run
Shows a (Some found) (Err e) = (fault : Fault) × (e ≡ Table fault) × (row_at found.bases found.fde a ≡ Err fault)

-- which answers a finder may give for an address of an image, each in so many counted steps
abbrev pub Finds : Type 1
Finds = List Span → ℕ → Option FoundFde → ℕ → Type 0

-- The stack ends where the return address is 0; else the finder is asked for the address of the call.
abbrev pub SeesFrame : Finds → List Span → ℕ → Bool → Result (Option FrameSeen) StepFault → Type 0
SeesFrame finds image ra signal seen =
    MatchBool (ra == 0) (seen ≡ Ok None)
    ((answer : Option FoundFde) × (ticks : ℕ) × finds image (address_of_call ra signal) answer ticks × Shows (address_of_call ra signal) answer seen)

-- what a column holds that the machine has
abbrev pub in_column : ℕ → Columns → ℕ
in_column k c = unwrap_or (c k) 0

-- the columns with so much added to what one holds, as words
abbrev pub past_in_column : ℕ → ℕ → Columns → Columns
past_in_column k n c = with_value c k ((in_column k c + n) % 2 ^ 64)

abbrev pub marked_columns : Bool → Result Columns StepFault → Result (Marked Columns) StepFault
marked_columns signal = result_map (λ c. record { context = c; signal = signal })

-- how a frame of a machine is undone, over its columns
abbrev pub undoing : Machine → List Span → Undoing Columns FrameSeen StepFault
undoing machine image = record {
  caller = λ f c. marked_columns f.value.found.fde.cie.letters.signal (caller_of machine (evaluation image) image c f.run);
  stack_pointer = in_column machine.stack_pointer;
  past_arguments = λ f c. past_in_column machine.stack_pointer (argument_size f.run) c;
}

-- the step over the columns of a machine, by what a finder may answer
abbrev pub stepping : Machine → Finds → List Span → Stepping Columns FrameSeen StepFault
stepping machine finds image = record {
  Sees = λ x seen. SeesFrame finds image (in_column machine.return_address x.context) x.signal seen;
  undoing = undoing machine image;
}

-- what an exception hands to personalities
pub record Thrown : Type 0 where
  pub class : ℕ
  pub word : ℕ

-- Personalities that answer by a function, for an exception and by version 1 of the interface.
abbrev pub answering : (Asked → ContextSeen → Answer) → List Span → Thrown → Answering Columns FrameSeen StepFault
answering answers image thrown = record {
  named = λ f. personality_address image f.value.found.fde;
  answers = λ routine actions f x. answers (record { routine = routine; version = pos 1; actions = actions; class = thrown.class; exception = thrown.word }) (frame_seen image (Some f.value) x.context x.signal);
}
