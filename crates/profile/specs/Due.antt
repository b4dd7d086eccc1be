-- What a run is to answer, and what it is to write.
use Rattle.std.specs.Prelude.{◌≡◌, ℕ, List, [], ◌∷◌, Option, Some, None, Result, Ok, Err, bytes_eq, codes, if◌then◌else◌}
use Rattle.memory_image.specs.Results.{result_map}
use Rattle.perf_data.specs.declared.errors.PerfError.{PerfError}
use Rattle.perf_data.specs.FileValue.{PerfValue, perf_of}
use Rattle.perf_data.specs.Records.{RecordValue}
use Rattle.perf_data.specs.Streams.{DueRecords}
use Rattle.command_ends.specs.declared.status.Status.TheVariants.{Done, Usage, Refused}
use Rattle.command_ends.specs.Verdicts.{Verdict, verdict}
use Rattle.command_ends.specs.Answers.{fault_due}
use Rattle.stack_snapshot.specs.declared.errors.SnapshotError.{SnapshotError}
use Rattle.stack_snapshot.specs.Answers.{content_of, value_of}
use Rattle.stack_snapshot.specs.Content.{Content, space_of}
use Rattle.stack_snapshot.specs.Origins.{OriginValue, origins_by}
use Rattle.sampled_profile.specs.Profiles.{Tables, tables, read_all, profile_of, profile_text}
use Rattle.sampled_profile.specs.Scripts.{script_of}
use Rattle.profile.specs.declared.request.Form.{Form}
use Rattle.profile.specs.declared.request.Form.TheVariants.{Folded, Script}
use Rattle.profile.specs.declared.request.Request.{Request}
use Rattle.profile.specs.Lines.{refused_line, usage_line}

-- ---- what the words ask for

-- how the samples are written, and the file of the tables
pub record RequestValue : Type 0 where
  pub form : Form
  pub path : List ℕ

abbrev pub request_value : Request → RequestValue
request_value r = record { form = r.form; path = r.path.now }

abbrev pub request_named : List ℕ → Option RequestValue
request_named word = if bytes_eq word (codes "--script") then None else Some (record { form = Folded; path = word })

abbrev pub request_with : List ℕ → List ℕ → Option RequestValue
request_with option word = if bytes_eq option (codes "--script") then Some (record { form = Script; path = word }) else None

-- the file of the tables, which is the last word, and before it at most `--script`
abbrev pub request_in : List (List ℕ) → Option RequestValue
request_in [] = None
request_in (word ∷ []) = request_named word
request_in (option ∷ word ∷ []) = request_with option word
request_in (option ∷ word ∷ other ∷ more) = None

-- ---- what is due

-- what samples are walked over: the modules of a snapshot in its memory, with its files and its limit
abbrev pub tables_of : Content → List OriginValue → Tables
tables_of s origins = tables (space_of s) origins s.limit

-- the samples of a file's records: their distinct stacks with their counts, or one after another
abbrev pub told_by : Tables → Form → List (Result RecordValue PerfError) → Result (List ℕ) PerfError
told_by t Folded records = result_map profile_text (profile_of t records)
told_by t Script records = script_of t records

-- their lines, or why a record isn't read
abbrev pub lines_due : Result (List ℕ) PerfError → Verdict
lines_due (Ok text) = verdict Done text
lines_due (Err e) = verdict Refused (refused_line e)

-- of the records that are due of a file, or of why it isn't read
abbrev pub told_due : Tables → Form → DueRecords → Result (List ℕ) PerfError
told_due t form (Ok records) = told_by t form records
told_due t form (Err e) = Err e

abbrev pub file_due : Tables → Form → Result PerfValue PerfError → Verdict
file_due t form (Ok file) = lines_due (told_by t form file.records)
file_due t form (Err e) = verdict Refused (refused_line e)

-- by the snapshot that the tables' file has
abbrev pub content_due : List OriginValue → Form → List ℕ → Result Content SnapshotError → Verdict
content_due origins form bytes (Ok s) = file_due (tables_of s origins) form (perf_of bytes)
content_due origins form bytes (Err error) = fault_due error

-- the same, by the records that are due
abbrev pub read_due : List OriginValue → Form → DueRecords → Result Content SnapshotError → Verdict
read_due origins form due (Ok s) = lines_due (told_due (tables_of s origins) form due)
read_due origins form due (Err error) = fault_due error

abbrev pub bytes_due : List ℕ → Form → List ℕ → Verdict
bytes_due file form bytes = content_due (origins_by (value_of file)) form bytes (content_of file)

abbrev pub words_due : List ℕ → List ℕ → Option RequestValue → Verdict
words_due file bytes None = verdict Usage usage_line
words_due file bytes (Some request) = bytes_due file request.form bytes

-- what is due for the words, the bytes of the file that they name, and all bytes of the source
abbrev pub due_of : List (List ℕ) → List ℕ → List ℕ → Verdict
due_of words file bytes = words_due file bytes (request_in words)

-- The words ask for this form and name a file, whose bytes are a snapshot of modules from these files, and all bytes of the source are
-- a perf.data file with these records, each of which is read.
pub record Asks (form : Form) (words : List (List ℕ)) (file : List ℕ) (bytes : List ℕ) (t : Tables) (records : List RecordValue) : Type 0 where
  pub path : List ℕ
  pub named : request_in words ≡ Some (record { form = form; path = path })
  pub content : Content
  pub reads : content_of file ≡ Ok content
  pub walked : t ≡ tables_of content (origins_by (value_of file))
  pub profile : PerfValue
  pub holds : perf_of bytes ≡ Ok profile
  pub whole : read_all profile.records ≡ Ok records
