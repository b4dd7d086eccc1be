-- What a reading of a profile from a source answers, and what is due of its records.
use Rattle.std.specs.Prelude.{◌≡◌, ◌⊎◌, ℕ, List, [], ◌∷◌, Option, Result, Ok, Err, IfSome, IsOk}
use Rattle.perf_data.specs.declared.errors.PerfError.{PerfError}
use Rattle.perf_data.specs.declared.errors.PerfError.TheVariants as errors
use Rattle.perf_data.specs.declared.stream.StreamError.{StreamError}
use Rattle.perf_data.specs.declared.stream.StreamError.TheVariants.{NoMemory, Fault, Unread}
use Rattle.perf_data.specs.Records.{RecordValue}
use Rattle.perf_data.specs.Streams.{DueRecords, Follows}
use Rattle.folded_stacks.specs.Counts.{StackCount}
use Rattle.stack_snapshot.specs.Origins.{OriginValue}
use Rattle.sampled_profile.specs.declared.profile.ProfileError.{ProfileError}
use Rattle.sampled_profile.specs.declared.profile.ProfileError.TheVariants as causes
use Rattle.sampled_profile.specs.declared.stack_table.StackTable.{StackTable}
use Rattle.sampled_profile.specs.Kept.{IsCounted}
use Rattle.sampled_profile.specs.Profiles.{Tables, read_after, profile_of}
use Rattle.sampled_profile.specs.Scripts.{script_of, script_text}

-- a result is the one that is due, unless memory ran out or a read failed
abbrev pub GivesStreamed : {A : Type 0} → Result A StreamError → Result A PerfError → Type 0
GivesStreamed (Ok told) due = due ≡ Ok told
GivesStreamed (Err NoMemory) due = Unit {0}
GivesStreamed (Err Fault) due = Unit {0}
GivesStreamed (Err (Unread e)) due = due ≡ Err e

-- the same cause
abbrev pub streamed : ProfileError → StreamError
streamed causes.NoMemory = NoMemory
streamed (causes.Unread e) = Unread e

-- the profile of the records that are due, and their samples one after another
abbrev pub profile_due : Tables → DueRecords → Result (List StackCount) PerfError
profile_due t (Ok records) = profile_of t records
profile_due t (Err e) = Err e

abbrev pub script_due : Tables → DueRecords → Result (List ℕ) PerfError
script_due t (Ok records) = script_of t records
script_due t (Err e) = Err e

-- ---- what the code holds

-- the records that are due, after these, or the error at which reading stops
abbrev pub read_due : List RecordValue → DueRecords → Result (List RecordValue) PerfError
read_due earlier (Ok records) = read_after earlier records
read_due earlier (Err e) = Err e

-- one record more was read
abbrev pub TakesRecord : RecordValue → Option DueRecords → Option DueRecords → Type 0
TakesRecord r due later = Follows due later (λ all rest. (earlier : List RecordValue) → read_due earlier all ≡ read_due (r ∷ earlier) rest)

-- reading stops where these are left, if the section of the records is whole
abbrev pub EndsAt : List (Result RecordValue PerfError) → Option DueRecords → Option DueRecords → Type 0
EndsAt left due later = Follows due later (λ all rest. (all ≡ rest) × ((rest ≡ Err errors.Records) ⊎ (rest ≡ Ok left)))

-- what reading comes to if the section of the records is whole
pub record Leads (told : Result (List RecordValue) PerfError) (all rest : DueRecords) : Type 0 where
  pub whole : IsOk rest → read_due [] all ≡ told
  pub cut : rest ≡ Err errors.Records → read_due [] all ≡ Err errors.Records

abbrev pub LeadsTo : Result (List RecordValue) PerfError → Option DueRecords → Option DueRecords → Type 0
LeadsTo told due later = Follows due later (λ all rest. Leads told all rest)

-- after the rest of the source was read: the section is whole and the error is this one, or it isn't whole
abbrev pub IsCause : StreamError → PerfError → Option DueRecords → Type 0
IsCause NoMemory error due = Unit {0}
IsCause Fault error due = Unit {0}
IsCause (Unread e) error due = ((e ≡ error) × IfSome due (λ rest. IsOk rest)) ⊎ ((e ≡ errors.Records) × IfSome due (λ rest. rest ≡ Err errors.Records))

-- the stacks of records, by what was read of them
abbrev pub CountsStreamed : Result StackTable StreamError → (List OriginValue → Tables) → Option DueRecords → Option DueRecords → Type 0
CountsStreamed (Ok table) tables_by due later = (read : List RecordValue) × IsCounted tables_by table read × LeadsTo (Ok read) due later
CountsStreamed (Err NoMemory) tables_by due later = Unit {0}
CountsStreamed (Err Fault) tables_by due later = Unit {0}
CountsStreamed (Err (Unread e)) tables_by due later = LeadsTo (Err e) due later

-- and by the whole reading
abbrev pub CountsDue : Result StackTable StreamError → (List OriginValue → Tables) → Option DueRecords → Type 0
CountsDue (Ok table) tables_by due = (read : List RecordValue) × IsCounted tables_by table read × IfSome due (λ all. read_due [] all ≡ Ok read)
CountsDue (Err NoMemory) tables_by due = Unit {0}
CountsDue (Err Fault) tables_by due = Unit {0}
CountsDue (Err (Unread e)) tables_by due = IfSome due (λ all. read_due [] all ≡ Err e)

-- the lines of samples
abbrev pub ScriptStreamed : Result (List ℕ) StreamError → Tables → Option DueRecords → Option DueRecords → Type 0
ScriptStreamed (Ok text) t due later = (read : List RecordValue) × (text ≡ script_text t read) × LeadsTo (Ok read) due later
ScriptStreamed (Err NoMemory) t due later = Unit {0}
ScriptStreamed (Err Fault) t due later = Unit {0}
ScriptStreamed (Err (Unread e)) t due later = LeadsTo (Err e) due later
