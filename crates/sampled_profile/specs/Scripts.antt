-- Samples one after another, in the text form of `perf script`, which collapsers and viewers of profiles read: a line with
-- the name of the thread, its process and its own number, and when the sample was taken; a line that says that popped
-- registers were kept; a line for each frame, the innermost first; one that says why the stack goes no further; and an
-- empty line.
use Rattle.std.specs.Prelude.{ℕ, zero, suc, ◌-◌, ◌/◌, ◌%◌, ◌^◌, false, true, List, [], ◌∷◌, ◌++◌, Option, Some, None, Result, codes}
use Rattle.std.specs.Fmt.{decimal, digit_glyph}
use Rattle.memory_image.specs.Results.{result_map}
use Rattle.perf_data.specs.declared.errors.PerfError.{PerfError}
use Rattle.perf_data.specs.declared.sample.Thread.{Thread}
use Rattle.perf_data.specs.Records.{RecordValue, Sampled, Mapped, Named, Forked, Exited, OtherKind}
use Rattle.perf_data.specs.Samples.{SampleValue}
use Rattle.stack_snapshot.specs.Origins.{OriginValue, origin_at}
use Rattle.stack_report.specs.Digits.{hexadecimal}
use Rattle.stack_report.specs.Report.{line}
use Rattle.stack_steps.specs.Modules.{SpaceValue}
use Rattle.sampled_profile.specs.Frames.{addresses_of, place_in}
use Rattle.sampled_profile.specs.Names.{name_of}
use Rattle.sampled_profile.specs.Profiles.{Tables, read_all}
use Rattle.sampled_profile.specs.Texts.{place_text, root_text, written_name}
use Rattle.sampled_profile.specs.Ends.{StackWalk, end_word, popped_word}
use Rattle.sampled_profile.specs.Walks.{walk_of}

-- ---- the first line

-- the last decimal digits of a number, from the highest down
abbrev pub decimals : ℕ → ℕ → List ℕ
decimals zero n = []
decimals (suc k) n = decimals k (n / 10) ++ digit_glyph false (n % 10) ∷ []

-- process and thread, 0 where the sample doesn't say them
abbrev pub thread_text : Option Thread → List ℕ
thread_text None = codes " 0/0"
thread_text (Some t) = codes " " ++ decimal t.pid ++ (codes "/" ++ decimal t.tid)

-- seconds, with nine digits for the nanoseconds
abbrev pub seconds_text : ℕ → List ℕ
seconds_text time = codes " " ++ decimal (time / 10 ^ 9) ++ (codes "." ++ decimals 9 (time % 10 ^ 9))

abbrev pub time_text : Option ℕ → List ℕ
time_text None = seconds_text 0
time_text (Some time) = seconds_text time

unfoldable pub head_line : Option (List ℕ) → SampleValue → List ℕ
head_line name s = line (root_text name ++ thread_text s.thread ++ time_text s.time ++ codes ": 1 samples:")

-- ---- the frames

-- where the frame is by its function, which stands for a symbol, how far past that the address lies, and the file
abbrev pub placed_text : Option OriginValue → ℕ → ℕ → List ℕ
placed_text None place a = codes " [unknown] ([unknown])"
placed_text (Some o) place a =
    codes " " ++ place_text (Some o) place ++ (codes "+" ++ hexadecimal (a - place)) ++ (codes " (" ++ written_name o.path ++ codes ")")

abbrev pub place_line : List OriginValue → ℕ → ℕ → List ℕ
place_line origins place a = line (codes "\t" ++ hexadecimal a ++ placed_text (origin_at origins a) place a)

-- frames by the addresses of their instructions, as perf has them, from the innermost outwards
abbrev pub frame_lines : SpaceValue → List OriginValue → List ℕ → List ℕ
frame_lines space origins [] = []
frame_lines space origins (a ∷ addresses) = place_line origins (place_in space a) a ++ frame_lines space origins addresses

-- ---- what is written beside the frames

-- a word in a frame's place, at the address 0
abbrev pub word_line : List ℕ → List ℕ
word_line word = line (codes "\t0x0 " ++ word ++ codes " ([unknown])")

abbrev pub mark_line : Option (List ℕ) → List ℕ
mark_line None = []
mark_line (Some word) = word_line word

-- ---- all of it

-- the frames of a walk over a space, and what is written beside them
abbrev pub walk_lines : SpaceValue → List OriginValue → StackWalk → List ℕ
walk_lines space origins w =
    mark_line (popped_word w.popped)
    ++ (frame_lines space origins (addresses_of space true w.returns) ++ mark_line (end_word w.end))

-- a sample of a thread of this name, by its walk over a space
unfoldable pub sample_lines : SpaceValue → List OriginValue → Option (List ℕ) → SampleValue → StackWalk → List ℕ
sample_lines space origins name s w = head_line name s ++ walk_lines space origins w ++ 10 ∷ []

-- the lines of a sample, whose thread is named by the records before it
abbrev pub lines_of : Tables → List RecordValue → SampleValue → List ℕ
lines_of t earlier s = sample_lines t.space t.origins (name_of earlier s.thread) s (walk_of t.space t.limit s)

-- the lines so far with those of a record, where it is a sample
abbrev pub with_lines : Tables → RecordValue → List RecordValue → List ℕ → List ℕ
with_lines t (Sampled s) earlier before = before ++ lines_of t earlier s
with_lines t (Mapped m) earlier before = before
with_lines t (Named n) earlier before = before
with_lines t (Forked k) earlier before = before
with_lines t (Exited k) earlier before = before
with_lines t (OtherKind k) earlier before = before

-- of the samples of these records, the latest first, in the order in which they stand in the file
abbrev pub script_text : Tables → List RecordValue → List ℕ
script_text t [] = []
script_text t (r ∷ earlier) = with_lines t r earlier (script_text t earlier)

-- of the samples of a file
unfoldable pub script_of : Tables → List (Result RecordValue PerfError) → Result (List ℕ) PerfError
script_of t records = result_map (script_text t) (read_all records)
