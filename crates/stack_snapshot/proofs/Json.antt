-- What bytes read as.
use Rattle.std.proofs.Common.{◌≡◌, ℕ, ◌<◌, ◌⊎◌, inl, inr, Result, Ok, Err, List, [], ◌∷◌, length, Some, None, Bool, true, false, refl, arith}
use Rattle.std.specs.Str.{IsUtf8, is_utf8}
use Rattle.std.proofs.lemmas.Str.{IsUtf8-from_is_utf8, is_utf8-from_IsUtf8}
use Rattle.serde_json.specs.Data.{Data}
use Rattle.serde_json.specs.Read.{read}
use Rattle.serde_json.proofs.OnLiterals.{serde_json_on_literals}
use Rattle.stack_snapshot.specs.declared.errors.SnapshotError.{SnapshotError}
use Rattle.stack_snapshot.specs.declared.errors.SnapshotError.TheVariants.{NoMemory, NotJson, Bad}
use Rattle.stack_snapshot.specs.Answers.{value_of, content_of, Gives}
use Rattle.stack_snapshot.specs.Content.{Content}
use Rattle.stack_snapshot.specs.Snapshot.{snapshot_of}

read_nothing : read [] ≡ None
unfolding serde_json_on_literals
read_nothing = refl

-- a text that reads as a value isn't empty
pub text_is_there : (bytes : List ℕ) (value : Data) → read bytes ≡ Some value → 0 < length bytes
text_is_there [] value e = let n = read_nothing in absurd (cc)
text_is_there (b ∷ bs) value e = omega arith

-- bytes that are text have the text's value
pub value_of_text : (bytes : List ℕ) (value : Data) → IsUtf8 bytes → read bytes ≡ Some value → value_of bytes ≡ Some value
unfolding value_of
value_of_text bytes value text e = rw (is_utf8-from_IsUtf8 bytes text) e

-- bytes that have no value
pub no_value : (bytes : List ℕ) → (IsUtf8 bytes → read bytes ≡ None) → value_of bytes ≡ None
unfolding value_of
no_value bytes h = go (is_utf8 bytes) refl
  where
    go : (b : Bool) → is_utf8 bytes ≡ b → value_of bytes ≡ None
    go true e = rw e (h (IsUtf8-from_is_utf8 bytes e))
    go false e = rw e refl

-- what the value's reading gives is what the bytes give
pub content_from_value : (r : Result Content SnapshotError) (bytes : List ℕ) (value : Data) → IsUtf8 bytes → read bytes ≡ Some value
    → Gives (λ s. s) r (snapshot_of value) → (r ≡ Err NoMemory) ⊎ (r ≡ content_of bytes)
content_from_value (Ok s) bytes value text e gives = inr (rw (value_of_text bytes value text e, gives) refl)
content_from_value (Err NoMemory) bytes value text e gives = inl refl
content_from_value (Err NotJson) bytes value text e gives = absurd gives
content_from_value (Err (Bad field)) bytes value text e gives = inr (rw (value_of_text bytes value text e, gives) refl)

pub content_none : (bytes : List ℕ) → value_of bytes ≡ None → Err NotJson ≡ content_of bytes
content_none bytes e = rw e refl
