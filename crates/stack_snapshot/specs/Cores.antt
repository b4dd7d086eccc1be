-- What a JSON value says as a core file whose threads are walked, or what refuses it first.
use Rattle.std.specs.Prelude.{◌≡◌, ℕ, true, List, [], map, Option, Some, None, Result, Ok, Err, is_ok, is_none, codes, if◌then◌else◌, option_and_then}
use Rattle.serde_json.specs.Data.{Data}
use Rattle.memory_image.specs.Image.{Span}
use Rattle.memory_image.specs.Results.{◌>>=◌}
use Rattle.unwind_arch.specs.declared.x86_64.Context.{Context}
use Rattle.core_file.specs.declared.errors.CoreError.{CoreError}
use Rattle.core_file.specs.CoreValue.{CoreValue, core_of}
use Rattle.core_file.specs.Adding.{with_spans, first_refused}
use Rattle.stack_steps.specs.declared.space.Module.{Module}
use Rattle.stack_steps.specs.Modules.{SpaceValue, without_index}
use Rattle.stack_snapshot.specs.declared.cores.CoreSnapshotError.{CoreSnapshotError}
use Rattle.stack_snapshot.specs.declared.cores.CoreSnapshotError.TheVariants as causes
use Rattle.stack_snapshot.specs.declared.errors.Field.{Field}
use Rattle.stack_snapshot.specs.declared.errors.Field.TheVariants as fields
use Rattle.stack_snapshot.specs.declared.errors.SnapshotError.TheVariants as faults
use Rattle.stack_snapshot.specs.Answers.{value_of}
use Rattle.stack_snapshot.specs.Content.{takes_regions, image_of, modules_after}
use Rattle.stack_snapshot.specs.Fields.{bytes_at}
use Rattle.stack_snapshot.specs.Snapshot.{needs, whole_numbers, listed_regions, modules_of, limit_of}

-- the bytes of a core file, memory beside that of its segments, modules, and the most states of a walk
pub record CoreContent : Type 0 where
  pub file : List ℕ
  pub regions : List Span
  pub modules : List Module
  pub limit : ℕ

-- the memory and the threads of a file, none where it is no core file
abbrev pub value_or_none : Result CoreValue CoreError → CoreValue
value_or_none (Ok v) = v
value_or_none (Err e) = record { segments = []; threads = [] }

abbrev pub segments_of : List ℕ → List Span
segments_of file = (value_or_none (core_of file)).segments

abbrev pub threads_of : List ℕ → List Context
threads_of file = (value_or_none (core_of file)).threads

-- a file is a core file, and an image takes its segments
abbrev pub IsTaken : List ℕ → Type 0
IsTaken file = (is_ok (core_of file) ≡ true) × (is_none (first_refused [] (segments_of file)) ≡ true)

-- the image of the segments
abbrev pub segments_image : List ℕ → List Span
segments_image file = with_spans [] (segments_of file)

-- what is unwound: the segments come before the regions, and no module is prepared
abbrev pub core_space_of : CoreContent → SpaceValue
core_space_of c = record { image = image_of (segments_image c.file) c.regions; modules = modules_after [] c.modules; added = map without_index c.modules }

-- ---- reading

-- the first faulty field is a cause
abbrev pub by_field : {A : Type 0} → Result A Field → Result A CoreSnapshotError
by_field (Ok x) = Ok x
by_field (Err field) = Err (causes.Snapshot (faults.Bad field))

abbrev pub by_core : {A : Type 0} → Result A CoreError → Result A CoreSnapshotError
by_core (Ok x) = Ok x
by_core (Err error) = Err (causes.Core error)

abbrev pub unless_refused : Option ℕ → Result (Unit {0}) CoreSnapshotError
unless_refused None = Ok tt
unless_refused (Some i) = Err (causes.Region i)

-- a core file whose segments an image takes
unfoldable pub taken_core : List ℕ → Result (Unit {0}) CoreSnapshotError
taken_core file = do
  core ← by_core (core_of file)
  unless_refused (first_refused [] core.segments)

-- regions that an image takes after the segments
abbrev pub if_taken_after : List ℕ → List Span → Option (List Span)
if_taken_after file regions = if takes_regions (segments_image file) regions then Some regions else None

unfoldable pub regions_after : List ℕ → Data → Option (List Span)
regions_after file d = option_and_then (if_taken_after file) (listed_regions d)

-- the core file that a value says, or what refuses it first
unfoldable pub core_content_in : Data → Result CoreContent CoreSnapshotError
core_content_in d = do
  whole ← by_field (needs fields.Object (whole_numbers d))
  file ← by_field (needs fields.Core (bytes_at (codes "core") d))
  taken ← taken_core file
  regions ← by_field (needs fields.Regions (regions_after file d))
  modules ← by_field (needs fields.Modules (modules_of d))
  limit ← by_field (needs fields.Limit (limit_of d))
  Ok (record { file = file; regions = regions; modules = modules; limit = limit })

abbrev pub core_content_by : Option Data → Result CoreContent CoreSnapshotError
core_content_by None = Err (causes.Snapshot faults.NotJson)
core_content_by (Some d) = core_content_in d

-- the core file that bytes say, or why they say none
abbrev pub core_content_of : List ℕ → Result CoreContent CoreSnapshotError
core_content_of bytes = core_content_by (value_of bytes)

-- ---- what a reading function of the code gives

abbrev pub FailsSo : {Y : Type 0} → CoreSnapshotError → Result Y CoreSnapshotError → Type 0
FailsSo (causes.Snapshot faults.NoMemory) reading = Unit {0}
FailsSo error reading = reading ≡ Err error

-- what a function returned, seen by view, is what the reading gives, unless memory ran out
abbrev pub GivesCore : {X Y : Type 0} → (X → Y) → Result X CoreSnapshotError → Result Y CoreSnapshotError → Type 0
GivesCore view (Ok x) reading = reading ≡ Ok (view x)
GivesCore view (Err e) reading = FailsSo e reading
