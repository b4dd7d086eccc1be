-- What a JSON value says as a snapshot with what the languages on its stack ask about its exception, or which of its fields is the first
-- faulty one.
use Rattle.std.specs.Prelude.{ℕ, Bool, List, Option, Some, None, Result, Ok, Err, codes, if◌then◌else◌, option_and_then}
use Rattle.std.specs.Str.{bytes_eq}
use Rattle.serde_json.specs.Data.{Data, Items}
use Rattle.serde_json.specs.Find.{get, as_array, as_str}
use Rattle.memory_image.specs.Results.{◌>>=◌}
use Rattle.unwinding_frames.specs.declared.cxx.runtime.CxxRuntime.{CxxRuntime}
use Rattle.unwinding_frames.specs.declared.cxx.runtime.CxxRuntime.TheVariants.{Libstdcxx, Libcxxabi}
use Rattle.unwinding_frames.specs.declared.cxx.runtime.ExceptionKind.{ExceptionKind}
use Rattle.unwinding_frames.specs.declared.cxx.runtime.ExceptionKind.TheVariants as kinds
use Rattle.stack_steps.specs.Languages.{Languages}
use Rattle.stack_snapshot.specs.declared.errors.Field.{Field}
use Rattle.stack_snapshot.specs.declared.errors.Field.TheVariants as fields
use Rattle.stack_snapshot.specs.declared.errors.SnapshotError.{SnapshotError}
use Rattle.stack_snapshot.specs.declared.errors.SnapshotError.TheVariants.{NotJson, Bad}
use Rattle.stack_snapshot.specs.Answers.{value_of}
use Rattle.stack_snapshot.specs.Content.{Content}
use Rattle.stack_snapshot.specs.Fields.{as_word, flag_or_false}
use Rattle.stack_snapshot.specs.Snapshot.{each_of, needs, snapshot_of}

-- a snapshot, the addresses of the typeinfo objects by which handlers of C++ take its exception, those of the personality routines that
-- are C++'s, whether the exception isn't one of C++ itself, and which runtime these routines are of
pub record ThrownContent : Type 0 where
  pub snapshot : Content
  pub types : List ℕ
  pub personalities : List ℕ
  pub foreign : Bool
  pub runtime : CxxRuntime

-- what an exception is to the runtime that reads the language tables
abbrev pub kind_of : Bool → ExceptionKind
kind_of foreign = if foreign then kinds.Foreign else kinds.Native

-- the languages of the functions on its stack, as the exception meets them
abbrev pub languages_in : ThrownContent → Languages
languages_in s = record { cxx_routines = s.personalities; exception = record { types = s.types; kind = kind_of s.foreign; runtime = s.runtime } }

-- ---- reading

-- each item a word
abbrev pub word_list : Items → Option (List ℕ)
word_list = each_of as_word

-- the words that are listed at a key
abbrev pub words_at : List ℕ → Data → Option (List ℕ)
words_at key d = option_and_then word_list (option_and_then as_array (get key d))

-- whether the exception isn't one of C++ itself, false where the field is missing
unfoldable pub foreign_of : Data → Option Bool
foreign_of d = flag_or_false (get (codes "foreign") d)

-- the runtime of C++ that has a name
abbrev pub runtime_named : List ℕ → Option CxxRuntime
runtime_named name =
    if bytes_eq name (codes "libstdc++") then Some Libstdcxx
    else (if bytes_eq name (codes "libc++abi") then Some Libcxxabi else None)

-- the runtime that a value names, libstdc++ where there is no value
abbrev pub runtime_or_libstdcxx : Option Data → Option CxxRuntime
runtime_or_libstdcxx None = Some Libstdcxx
runtime_or_libstdcxx (Some d) = option_and_then runtime_named (as_str d)

unfoldable pub runtime_of : Data → Option CxxRuntime
runtime_of d = runtime_or_libstdcxx (get (codes "runtime") d)

-- the snapshot that a value says, with these fields, or the first faulty field
unfoldable pub thrown_of : Data → Result ThrownContent Field
thrown_of d = do
  snapshot ← snapshot_of d
  types ← needs fields.Types (words_at (codes "types") d)
  personalities ← needs fields.Personalities (words_at (codes "personalities") d)
  foreign ← needs fields.Foreign (foreign_of d)
  runtime ← needs fields.Runtime (runtime_of d)
  Ok (record { snapshot = snapshot; types = types; personalities = personalities; foreign = foreign; runtime = runtime })

abbrev pub thrown_with : Result ThrownContent Field → Result ThrownContent SnapshotError
thrown_with (Ok s) = Ok s
thrown_with (Err field) = Err (Bad field)

abbrev pub thrown_by : Option Data → Result ThrownContent SnapshotError
thrown_by None = Err NotJson
thrown_by (Some value) = thrown_with (thrown_of value)

-- the snapshot with these fields that bytes say, or why they say none
abbrev pub thrown_in : List ℕ → Result ThrownContent SnapshotError
thrown_in bytes = thrown_by (value_of bytes)
