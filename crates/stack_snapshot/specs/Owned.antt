-- What values and regions that are owned stand for.
use Rattle.std.specs.Prelude.{List, Option, Some, None, Vec, map}
use Rattle.std.specs.declared.alloc.Global.{Global}
use Rattle.memory_image.specs.Image.{Span}
use Rattle.serde_json.specs.Data.{Items}
use Rattle.serde_json.specs.View.{items_view}
use Rattle.serde_json.specs.declared.value.Value.{Value}
use Rattle.stack_snapshot.specs.declared.snapshot.Region.{Region}

abbrev pub span_of : Region → Span
span_of r = record { start = r.address; bytes = r.bytes.items }

abbrev pub spans_of : List Region → List Span
spans_of rs = map span_of rs

-- the items of a list, where there is one
abbrev pub list_view : Option (Vec Value Global) → Option Items
list_view None = None
list_view (Some vs) = Some (items_view vs.items)
