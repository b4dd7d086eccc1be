-- What a reading function of the code gives, and what bytes say.
use Rattle.std.specs.Prelude.{◌≡◌, List, ℕ, Option, Some, None, Result, Ok, Err, if◌then◌else◌}
use Rattle.std.specs.Str.{is_utf8}
use Rattle.serde_json.specs.Data.{Data}
use Rattle.serde_json.specs.Read.{read}
use Rattle.serde_json.specs.View.{view}
use Rattle.serde_json.specs.declared.value.Value.{Value}
use Rattle.stack_snapshot.specs.declared.errors.Field.{Field}
use Rattle.stack_snapshot.specs.declared.errors.SnapshotError.{SnapshotError}
use Rattle.stack_snapshot.specs.declared.errors.SnapshotError.TheVariants.{NoMemory, NotJson, Bad}
use Rattle.stack_snapshot.specs.Content.{Content}
use Rattle.stack_snapshot.specs.Snapshot.{snapshot_of}

abbrev pub Fails : {Y : Type 0} → SnapshotError → Result Y Field → Type 0
Fails NoMemory reading = Unit {0}
Fails NotJson reading = ⊥
Fails (Bad field) reading = reading ≡ Err field

-- what a function returned, seen by view, is what the reading gives, unless memory ran out
abbrev pub Gives : {X Y : Type 0} → (X → Y) → Result X SnapshotError → Result Y Field → Type 0
Gives view (Ok x) reading = reading ≡ Ok (view x)
Gives view (Err e) reading = Fails e reading

-- the value of some bytes as a JSON text, at most 127 arrays and objects deep
unfoldable pub value_of : List ℕ → Option Data
value_of bytes = if is_utf8 bytes then read bytes else None

abbrev pub content_with : Result Content Field → Result Content SnapshotError
content_with (Ok s) = Ok s
content_with (Err field) = Err (Bad field)

abbrev pub content_by : Option Data → Result Content SnapshotError
content_by None = Err NotJson
content_by (Some value) = content_with (snapshot_of value)

-- the snapshot that bytes say, or why they say none
abbrev pub content_of : List ℕ → Result Content SnapshotError
content_of bytes = content_by (value_of bytes)

-- a value is that of the bytes, or they have none, unless memory ran out
abbrev pub ReadsValue : Result Value SnapshotError → List ℕ → Type 0
ReadsValue (Ok value) bytes = value_of bytes ≡ Some (view value)
ReadsValue (Err NotJson) bytes = value_of bytes ≡ None
ReadsValue (Err NoMemory) bytes = Unit {0}
ReadsValue (Err (Bad field)) bytes = ⊥
