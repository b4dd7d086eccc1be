-- The profile of a perf.data file: its samples' distinct stacks, in order, each with the number of the samples that show
-- it.
use Rattle.std.specs.Prelude.{ℕ, List, [], ◌∷◌, ◌++◌, Result, Ok, Err, codes}
use Rattle.std.specs.Fmt.{decimal}
use Rattle.memory_image.specs.Results.{result_map}
use Rattle.perf_data.specs.declared.errors.PerfError.{PerfError}
use Rattle.perf_data.specs.Records.{RecordValue, Sampled, Mapped, Named, Forked, Exited, OtherKind}
use Rattle.perf_data.specs.Samples.{SampleValue}
use Rattle.stack_steps.specs.Modules.{SpaceValue}
use Rattle.folded_stacks.specs.Counts.{StackCount, counts_of}
use Rattle.stack_snapshot.specs.Origins.{OriginValue}
use Rattle.stack_report.specs.Report.{line}
use Rattle.sampled_profile.specs.Frames.{frames_of}
use Rattle.sampled_profile.specs.Names.{process_name_of}
use Rattle.sampled_profile.specs.Texts.{stack_text}
use Rattle.sampled_profile.specs.Walks.{walk_of}

-- the records of a file, the latest first, or the error at which reading stops
abbrev pub read_after : List RecordValue → List (Result RecordValue PerfError) → Result (List RecordValue) PerfError
read_after earlier [] = Ok earlier
read_after earlier (Ok r ∷ later) = read_after (r ∷ earlier) later
read_after earlier (Err e ∷ later) = Err e

abbrev pub read_all : List (Result RecordValue PerfError) → Result (List RecordValue) PerfError
read_all records = read_after [] records

-- what is walked over, the files of the modules, and the most states of a walk
pub record Tables : Type 0 where
  pub space : SpaceValue
  pub origins : List OriginValue
  pub limit : ℕ

abbrev pub tables : SpaceValue → List OriginValue → ℕ → Tables
tables space origins limit = record { space = space; origins = origins; limit = limit }

-- the stack of a sample, whose process is named by the records before it
abbrev pub stack_of : Tables → List RecordValue → SampleValue → List ℕ
stack_of t earlier s =
    stack_text t.origins (process_name_of earlier s.thread) (frames_of t.space (walk_of t.space t.limit s))

-- the stacks with that of a record, where it is a sample
abbrev pub with_stack : Tables → RecordValue → List RecordValue → List (List ℕ) → List (List ℕ)
with_stack t (Sampled s) earlier stacks = stack_of t earlier s ∷ stacks
with_stack t (Mapped m) earlier stacks = stacks
with_stack t (Named n) earlier stacks = stacks
with_stack t (Forked k) earlier stacks = stacks
with_stack t (Exited k) earlier stacks = stacks
with_stack t (OtherKind k) earlier stacks = stacks

-- the stack of each sample, of these records, the latest first
abbrev pub stacks_of : Tables → List RecordValue → List (List ℕ)
stacks_of t [] = []
stacks_of t (r ∷ earlier) = with_stack t r earlier (stacks_of t earlier)

-- the distinct stacks with their counts
unfoldable pub profile_of : Tables → List (Result RecordValue PerfError) → Result (List StackCount) PerfError
profile_of t records = result_map (λ read. counts_of (stacks_of t read)) (read_all records)

-- what is written of them: a line for each, its stack and its count
unfoldable pub count_line : StackCount → List ℕ
count_line l = line (l.stack ++ codes " " ++ decimal l.count)

abbrev pub profile_text : List StackCount → List ℕ
profile_text [] = []
profile_text (l ∷ ls) = count_line l ++ profile_text ls
