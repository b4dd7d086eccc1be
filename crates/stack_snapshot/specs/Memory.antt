-- What a JSON value says as memory with modules in it, or which of its fields is the first faulty one.
use Rattle.std.specs.Prelude.{List, Result, Ok}
use Rattle.serde_json.specs.Data.{Data}
use Rattle.memory_image.specs.Image.{Span}
use Rattle.memory_image.specs.Results.{◌>>=◌}
use Rattle.stack_steps.specs.declared.space.Module.{Module}
use Rattle.stack_snapshot.specs.declared.errors.Field.{Field}
use Rattle.stack_snapshot.specs.declared.errors.Field.TheVariants as fields
use Rattle.stack_snapshot.specs.Snapshot.{modules_of, needs, regions_of, whole_numbers}

-- the regions and the modules in their order
pub record MemoryContent : Type 0 where
  pub regions : List Span
  pub modules : List Module

-- the memory that a value says, or the first faulty field
unfoldable pub memory_of : Data → Result MemoryContent Field
memory_of d = do
  whole ← needs fields.Object (whole_numbers d)
  regions ← needs fields.Regions (regions_of d)
  modules ← needs fields.Modules (modules_of d)
  Ok (record { regions = regions; modules = modules })
