-- The names of a snapshot's parts.
use Rattle.std.specs.Prelude.{ℕ, List, codes}
use Rattle.stack_snapshot.specs.declared.errors.Field.{Field}
use Rattle.stack_snapshot.specs.declared.errors.Field.TheVariants as fields

abbrev pub field_name : Field → List ℕ
field_name fields.Object = codes "object"
field_name fields.Core = codes "core"
field_name fields.Regions = codes "regions"
field_name fields.Modules = codes "modules"
field_name fields.Start = codes "start"
field_name fields.Exception = codes "exception"
field_name fields.Class = codes "class"
field_name fields.Resumes = codes "resumes"
field_name fields.Limit = codes "limit"
field_name fields.Interrupted = codes "interrupted"
field_name fields.Types = codes "types"
field_name fields.Personalities = codes "personalities"
field_name fields.Foreign = codes "foreign"
field_name fields.Runtime = codes "runtime"
field_name fields.Samples = codes "samples"
field_name fields.Functions = codes "functions"
