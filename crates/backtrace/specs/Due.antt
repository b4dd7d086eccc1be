-- What a run is to answer, and what it is to write.
use Rattle.std.specs.Prelude.{◌≡◌, ◌≢◌, ℕ, ◌+◌, ◌^◌, ◌<◌, ◌≤◌, Bool, true, false, List, [], ◌∷◌, length, Option, Some, None, Result, Ok, Err}
use Rattle.unwind_definitions.specs.State.{State, Shows}
use Rattle.unwind_definitions.specs.Entered.{IsEntered}
use Rattle.unwind_definitions.specs.Function.{Function}
use Rattle.unwind_definitions.specs.Chain.{Call, states_of, last_state}
use Rattle.format_definitions.specs.Modules.{IsDescribedChain}
use Rattle.unwind_arch.specs.ContextViews.{columns_of}
use Rattle.stack_steps.specs.SpaceViews.{formats_of}
use Rattle.command_ends.specs.declared.status.Status.TheVariants.{Done, Usage}
use Rattle.command_ends.specs.Verdicts.{Verdict, verdict}
use Rattle.command_ends.specs.Answers.{fault_due, within_limit}
use Rattle.stack_walks.specs.WalkEnds.{end_reason_of_chain}
use Rattle.stack_snapshot.specs.declared.errors.SnapshotError.{SnapshotError}
use Rattle.stack_snapshot.specs.Answers.{content_of, value_of}
use Rattle.stack_snapshot.specs.Content.{Content, space_of}
use Rattle.backtrace.specs.Code.{PlacesValue, places_by}
use Rattle.stack_snapshot.specs.Sampled.{SampledContent, sampled_in}
use Rattle.backtrace.specs.declared.options.Options.{Options}
use Rattle.backtrace.specs.Options.{options_of}
use Rattle.backtrace.specs.Tracing.{TraceValue, IsNowhere, IsPlainTrace, IsTrace}
use Rattle.backtrace.specs.FramePointers.{AreGuesses}
use Rattle.backtrace.specs.Stacks.{IsStackText}
use Rattle.backtrace.specs.Threads.{IsThreadsOf}
use Rattle.backtrace.specs.Lines.{backtrace_text, contexts_of, form_with, states_text, traces_text, usage_line}

-- the trace of a snapshot
abbrev pub IsTraceOf : Content → PlacesValue → TraceValue → Type 0
IsTraceOf s places t = IsTrace (space_of s) places.code s.start s.interrupted s.limit t

-- the same by the tables alone, over the memory as it is
abbrev pub IsPlainTraceOf : Content → PlacesValue → TraceValue → Type 0
IsPlainTraceOf s places t = IsPlainTrace (space_of s) places.code s.start s.interrupted s.limit t

-- the lines of a snapshot's trace
abbrev pub text_of : Options → Content → PlacesValue → TraceValue → List ℕ
text_of o s places t = backtrace_text o.registers s.interrupted places t

-- The lines of a chain of calls whose innermost state is the snapshot's start: of the frame of each state, and last that the
-- outermost one returns to 0, or that nothing covers the byte before its return address.
abbrev pub chain_text : Options → Content → PlacesValue → State → List Call → List ℕ
chain_text o s places start calls =
    states_text (form_with o.registers s.interrupted places false false) (states_of start calls) (end_reason_of_chain (space_of s).modules (last_state start calls))

-- The snapshot was taken after a call to the address 0 or into no module, before anything else was done. The caller's state is the
-- innermost of a chain of calls that the modules describe, and the limit has room for the start beside it.
pub record DescribesCallToNowhere (s : Content) (places : PlacesValue) (functions : List Function) (start caller : State) (calls : List Call) : Type 0 where
  pub nowhere : IsNowhere (space_of s) places.code s.start s.interrupted
  pub entered : IsEntered (space_of s).image false [] caller start
  pub returns : caller.ra ≢ 0
  pub shows : Shows (columns_of s.start) start
  pub described : IsDescribedChain (space_of s).image (formats_of (space_of s)) functions caller calls
  pub shorter : length calls + 1 < s.limit

-- the lines of the start and of that chain, where it is said that the return address was read from the stack
abbrev pub called_text : Options → Content → PlacesValue → State → State → List Call → List ℕ
called_text o s places start caller calls =
    states_text (form_with o.registers s.interrupted places true false) (start ∷ states_of caller calls) (end_reason_of_chain (space_of s).modules (last_state caller calls))

-- the walks that go on from a snapshot's trace by frame pointers
abbrev pub AreGuessesOf : Content → PlacesValue → TraceValue → List TraceValue → Type 0
AreGuessesOf s places t ts = AreGuesses true (space_of s) places.code s.limit (length (contexts_of t)) t ts

-- the lines of a snapshot's trace and of these walks
abbrev pub guessed_text_of : Options → Content → PlacesValue → TraceValue → List TraceValue → List ℕ
guessed_text_of o s places t ts = traces_text o.registers s.interrupted places t ts

-- a text is the backtrace of a snapshot
abbrev pub IsBacktraceOf : Options → Content → PlacesValue → List ℕ → Type 0
IsBacktraceOf o s places text = IsStackText o (space_of s) s.limit places s.start s.interrupted text

-- The same of the snapshot that bytes say, and of samples. Where they say neither any text is.
abbrev pub IsOfSnapshot : Options → Result Content SnapshotError → PlacesValue → List ℕ → Type 0
IsOfSnapshot o (Err e) places text = Unit {0}
IsOfSnapshot o (Ok s) places text = IsBacktraceOf o s places text

abbrev pub IsOfSamples : Options → Result SampledContent SnapshotError → PlacesValue → List ℕ → Type 0
IsOfSamples o (Err e) places text = Unit {0}
IsOfSamples o (Ok s) places text = IsThreadsOf o s places text

-- by whether samples are asked for
abbrev pub IsBacktraceIn : Bool → Options → List ℕ → List ℕ → Type 0
IsBacktraceIn false o bytes text = IsOfSnapshot o (content_of bytes) (places_by (value_of bytes)) text
IsBacktraceIn true o bytes text = IsOfSamples o (sampled_in bytes) (places_by (value_of bytes)) text

-- A text is the backtrace that the words ask for, or those of samples. Without such words any text is.
abbrev pub IsBacktraceBy : Option Options → List ℕ → List ℕ → Type 0
IsBacktraceBy None bytes text = Unit {0}
IsBacktraceBy (Some o) bytes text = IsBacktraceIn o.samples o bytes text

abbrev pub IsBacktrace : List (List ℕ) → List ℕ → List ℕ → Type 0
IsBacktrace words bytes text = IsBacktraceBy (options_of words) bytes text

-- what is due by a text of what was read, if it was
abbrev pub content_due : {X : Type 0} → List ℕ → Result X SnapshotError → Verdict
content_due text (Ok x) = verdict Done text
content_due text (Err error) = fault_due error

abbrev pub read_due : Bool → List ℕ → List ℕ → Verdict
read_due false text bytes = content_due text (content_of bytes)
read_due true text bytes = content_due text (sampled_in bytes)

-- at most 67,108,864 bytes are read
abbrev pub bytes_due : Options → List ℕ → List ℕ → Verdict
bytes_due o text bytes = within_limit bytes (read_due o.samples text bytes)

abbrev pub options_due : List ℕ → Option Options → List ℕ → Verdict
options_due text None bytes = verdict Usage usage_line
options_due text (Some o) bytes = bytes_due o text bytes

-- What is due for the words and all bytes of the source, where the text is what they ask for.
abbrev pub due_of : List (List ℕ) → List ℕ → List ℕ → Verdict
due_of words bytes text = options_due text (options_of words) bytes

-- why bytes say no snapshot, or no samples, where they don't
abbrev pub error_of : {X : Type 0} → Result X SnapshotError → Option SnapshotError
error_of (Ok x) = None
error_of (Err error) = Some error

abbrev pub error_in : Bool → List ℕ → Option SnapshotError
error_in false bytes = error_of (content_of bytes)
error_in true bytes = error_of (sampled_in bytes)

-- the words name options, and what these ask for can't be read of the bytes, at most 67,108,864, for this cause
pub record IsFaulty (words : List (List ℕ)) (bytes : List ℕ) (error : SnapshotError) : Type 0 where
  pub options : Options
  pub named : options_of words ≡ Some options
  pub short : length bytes ≤ 2 ^ 26
  pub faulty : error_in options.samples bytes ≡ Some error

-- The words name options, with frame pointers or without, and all bytes of the source, at most 67,108,864, are the snapshot, and
-- name these files and code.
pub record AsksFor (pointers : Bool) (o : Options) (words : List (List ℕ)) (source : Option (List ℕ)) (s : Content) (places : PlacesValue) : Type 0 where
  pub bytes : List ℕ
  pub named : options_of words ≡ Some o
  pub single : o.samples ≡ false
  pub by : o.frame_pointers ≡ pointers
  pub source_is : source ≡ Some bytes
  pub short : length bytes ≤ 2 ^ 26
  pub reads : content_of bytes ≡ Ok s
  pub files : places_by (value_of bytes) ≡ places

-- without frame pointers: a walk goes as far as tables lead
abbrev pub Asks : Options → List (List ℕ) → Option (List ℕ) → Content → PlacesValue → Type 0
Asks o words source s places = AsksFor false o words source s places

-- with them
abbrev pub AsksPointers : Options → List (List ℕ) → Option (List ℕ) → Content → PlacesValue → Type 0
AsksPointers o words source s places = AsksFor true o words source s places

-- the words ask for samples, and all bytes of the source, at most 67,108,864, are these, and name these files and code
pub record AsksSamples (o : Options) (words : List (List ℕ)) (source : Option (List ℕ)) (s : SampledContent) (places : PlacesValue) : Type 0 where
  pub bytes : List ℕ
  pub named : options_of words ≡ Some o
  pub several : o.samples ≡ true
  pub source_is : source ≡ Some bytes
  pub short : length bytes ≤ 2 ^ 26
  pub reads : sampled_in bytes ≡ Ok s
  pub files : places_by (value_of bytes) ≡ places
