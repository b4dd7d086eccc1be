-- What a JSON value says as samples of stacks over one memory, or which of its fields is the first faulty one.
use Rattle.std.specs.Prelude.{ℕ, Bool, ◌&&◌, List, length, Option, Some, None, Result, Ok, Err, codes, nat_le, if◌then◌else◌, option_map, option_and_then}
use Rattle.serde_json.specs.Data.{Data, Items}
use Rattle.serde_json.specs.Find.{get, as_array}
use Rattle.memory_image.specs.Image.{Span}
use Rattle.memory_image.specs.Results.{◌>>=◌}
use Rattle.unwind_arch.specs.declared.x86_64.Context.{Context}
use Rattle.stack_steps.specs.declared.space.Module.{Module}
use Rattle.stack_steps.specs.Modules.{SpaceValue}
use Rattle.folded_stacks.specs.declared.samples.Sample.{Sample}
use Rattle.stack_snapshot.specs.declared.errors.Field.{Field}
use Rattle.stack_snapshot.specs.declared.errors.Field.TheVariants as fields
use Rattle.stack_snapshot.specs.declared.errors.SnapshotError.{SnapshotError}
use Rattle.stack_snapshot.specs.declared.errors.SnapshotError.TheVariants.{NotJson, Bad}
use Rattle.stack_snapshot.specs.Answers.{value_of}
use Rattle.stack_snapshot.specs.Content.{space_with}
use Rattle.stack_snapshot.specs.Fields.{number_at}
use Rattle.stack_snapshot.specs.Snapshot.{each_of, interrupted_of, modules_of, needs, regions_of, start_of, whole_numbers}

-- the regions and modules in their order, the samples, and the most states of a walk
pub record SampledContent : Type 0 where
  pub regions : List Span
  pub modules : List Module
  pub samples : List Sample
  pub limit : ℕ

-- what is walked: no module is prepared
abbrev pub sampled_space : SampledContent → SpaceValue
sampled_space s = space_with s.regions s.modules

-- ---- samples

abbrev pub sample_with : Context → Bool → Sample
sample_with start interrupted = record { start = start; interrupted = interrupted }

-- a start, and whether it stands before its instruction, false where that is missing
abbrev pub sample_of : Data → Option Sample
sample_of d = option_and_then (λ start. option_map (sample_with start) (interrupted_of d)) (start_of d)

-- each item a sample
abbrev pub sample_list : Items → Option (List Sample)
sample_list = each_of sample_of

-- at most 65,536
abbrev pub if_few : List Sample → Option (List Sample)
if_few samples = if nat_le (length samples) 65536 then Some samples else None

-- the samples that are listed
unfoldable pub samples_of : Data → Option (List Sample)
samples_of d = option_and_then if_few (option_and_then sample_list (option_and_then as_array (get (codes "samples") d)))

-- ---- the other field

-- 1 to 1,024
abbrev pub if_depth : ℕ → Option ℕ
if_depth n = if nat_le 1 n && nat_le n 1024 then Some n else None

-- the most states of a walk
unfoldable pub depth_of : Data → Option ℕ
depth_of d = option_and_then if_depth (number_at (codes "limit") d)

-- ---- all of it

-- the samples that a value says, or the first faulty field
unfoldable pub sampled_of : Data → Result SampledContent Field
sampled_of d = do
  whole ← needs fields.Object (whole_numbers d)
  regions ← needs fields.Regions (regions_of d)
  modules ← needs fields.Modules (modules_of d)
  samples ← needs fields.Samples (samples_of d)
  limit ← needs fields.Limit (depth_of d)
  Ok (record { regions = regions; modules = modules; samples = samples; limit = limit })

abbrev pub sampled_with : Result SampledContent Field → Result SampledContent SnapshotError
sampled_with (Ok s) = Ok s
sampled_with (Err field) = Err (Bad field)

abbrev pub sampled_by : Option Data → Result SampledContent SnapshotError
sampled_by None = Err NotJson
sampled_by (Some value) = sampled_with (sampled_of value)

-- the samples that bytes say, or why they say none
abbrev pub sampled_in : List ℕ → Result SampledContent SnapshotError
sampled_in bytes = sampled_by (value_of bytes)
