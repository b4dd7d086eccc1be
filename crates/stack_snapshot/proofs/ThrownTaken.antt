-- The snapshot in bytes that also say what the languages on its stack ask about its exception.
use Rattle.std.proofs.Common.{◌≡◌, ℕ, List, Option, Some, None, Result, Ok, Err, refl, ap, ◌∙◌}
use Rattle.std.specs.Prelude.{codes}
use Rattle.serde_json.specs.Data.{Data}
use Rattle.stack_snapshot.specs.declared.errors.Field.{Field}
use Rattle.stack_snapshot.specs.declared.errors.Field.TheVariants as fields
use Rattle.stack_snapshot.specs.Answers.{content_of, value_of}
use Rattle.stack_snapshot.specs.Snapshot.{needs, snapshot_of}
use Rattle.stack_snapshot.specs.Thrown.{ThrownContent, foreign_of, runtime_of, thrown_by, thrown_in, thrown_of, thrown_with, words_at}
use Rattle.stack_snapshot.proofs.Taken.{bound}

abbrev ok : ThrownContent → Result ThrownContent Field
ok s = Ok s

ok_same : (x y : ThrownContent) → ok x ≡ Ok y → x ≡ y
ok_same x y e = cc

snapshot_read : (d : Data) (s : ThrownContent) → thrown_of d ≡ Ok s → snapshot_of d ≡ Ok s.snapshot
unfolding thrown_of
snapshot_read d s is =
    let snapshot = bound (snapshot_of d) _ s is in
    let types = bound (needs fields.Types (words_at (codes "types") d)) _ s snapshot.2 in
    let personalities = bound (needs fields.Personalities (words_at (codes "personalities") d)) _ s types.2 in
    let foreign = bound (needs fields.Foreign (foreign_of d)) _ s personalities.2 in
    let runtime = bound (needs fields.Runtime (runtime_of d)) _ s foreign.2 in
    snapshot.1 ∙ ap (λ (t : ThrownContent). Ok t.snapshot) (ok_same _ s runtime.2)

-- the snapshot alone is what the bytes say as one
pub thrown_snapshot : (bytes : List ℕ) (s : ThrownContent) → thrown_in bytes ≡ Ok s → content_of bytes ≡ Ok s.snapshot
thrown_snapshot bytes s is = go (value_of bytes) refl is
  where
    go : (o : Option Data) → value_of bytes ≡ o → thrown_by o ≡ Ok s → content_of bytes ≡ Ok s.snapshot
    go None at e = absurd cc
    go (Some d) at e = said (thrown_of d) refl e
      where
        said : (r : Result ThrownContent Field) → thrown_of d ≡ r → thrown_with r ≡ Ok s → content_of bytes ≡ Ok s.snapshot
        said (Ok t) reads e =
            let same : t ≡ s = cc in
            rw (at, snapshot_read d s (reads ∙ ap Ok same)) refl
        said (Err f) reads e = absurd cc
