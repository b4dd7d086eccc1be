-- What reading the next record of a file gives. No public clause cites this.
use Rattle.std.specs.Prelude.{◌≡◌, List, [], ◌∷◌, Option, Some, None, Result, Ok, Err}
use Rattle.perf_data.specs.declared.errors.PerfError.{PerfError}
use Rattle.perf_data.specs.declared.record.Record.{Record}
use Rattle.perf_data.specs.Records.{RecordValue}
use Rattle.perf_data.specs.Views.{record_value}
use Rattle.sampled_profile.specs.declared.profile.ProfileError.{ProfileError}
use Rattle.sampled_profile.specs.declared.profile.ProfileError.TheVariants.{NoMemory, Unread}

-- from what is left to what is left then
abbrev pub ReadsNext : List (Result RecordValue PerfError) → Result (Option Record) ProfileError → List (Result RecordValue PerfError) → Type 0
ReadsNext before (Ok (Some r)) after = before ≡ Ok (record_value r) ∷ after
ReadsNext before (Ok None) after = before ≡ []
ReadsNext before (Err (Unread e)) after = (rest : List (Result RecordValue PerfError)) × (before ≡ Err e ∷ rest)
ReadsNext before (Err NoMemory) after = ⊥
