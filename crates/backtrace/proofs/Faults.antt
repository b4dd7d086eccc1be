-- When bytes are no snapshot, or no samples.
use Rattle.std.proofs.Common.{◌≡◌, ℕ, ◌^◌, Bool, true, false, List, [], length, Option, Some, None, Result, Ok, Err, refl, sym, ltb, arith}
use Rattle.std.specs.Prelude.{codes, if◌then◌else◌}
use Rattle.std.proofs.lemmas.Bool.{le-ltb}
use Rattle.std.proofs.lemmas.Bool.Decides.{nat_tests}
use Rattle.stack_snapshot.specs.declared.errors.Field.{Field}
use Rattle.stack_snapshot.specs.declared.errors.SnapshotError.{SnapshotError}
use Rattle.stack_snapshot.specs.declared.errors.SnapshotError.TheVariants as faults
use Rattle.stack_snapshot.specs.Answers.{content_of}
use Rattle.stack_snapshot.specs.Sampled.{sampled_in}
use Rattle.stack_report.specs.Report.{line}
use Rattle.command_ends.specs.declared.status.Status.{Status}
use Rattle.command_ends.specs.declared.status.Status.TheVariants.{BadSnapshot, NotJson, TooLong}
use Rattle.command_ends.specs.Verdicts.{Tells, ComesExactly, verdict}
use Rattle.command_ends.proofs.VerdictLemmas.{comes, told_as}
use Rattle.backtrace.specs.declared.options.Options.{Options}
use Rattle.backtrace.specs.Options.{options_of}
use Rattle.backtrace.specs.Due.{content_due, due_of, error_in, error_of, options_due, read_due, IsFaulty, IsBacktrace, IsBacktraceBy}
use Rattle.backtrace.proofs.Ends.{read_there}

-- ---- what was read

field_of : {X : Type 0} (r : Result X SnapshotError) (text : List ℕ) → (content_due text r).status ≡ BadSnapshot → (field : Field) × (error_of r ≡ Some (faults.Bad field))
field_of (Ok x) text is = absurd cc
field_of (Err (faults.Bad field)) text is = (field, refl)
field_of (Err faults.NotJson) text is = absurd cc
field_of (Err faults.NoMemory) text is = absurd cc

of_field : {X : Type 0} (r : Result X SnapshotError) (text : List ℕ) (field : Field) → error_of r ≡ Some (faults.Bad field) → (content_due text r).status ≡ BadSnapshot
of_field (Ok x) text field is = absurd cc
of_field (Err (faults.Bad other)) text field is = refl
of_field (Err faults.NotJson) text field is = absurd cc
of_field (Err faults.NoMemory) text field is = absurd cc

field_read : (several : Bool) (bytes text : List ℕ) → (read_due several text bytes).status ≡ BadSnapshot → (field : Field) × (error_in several bytes ≡ Some (faults.Bad field))
field_read false bytes text is = field_of (content_of bytes) text is
field_read true bytes text is = field_of (sampled_in bytes) text is

read_field : (several : Bool) (bytes text : List ℕ) (field : Field) → error_in several bytes ≡ Some (faults.Bad field) → (read_due several text bytes).status ≡ BadSnapshot
read_field false bytes text field is = of_field (content_of bytes) text field is
read_field true bytes text field is = of_field (sampled_in bytes) text field is

-- ---- what is due

abbrev pub IsBad : List (List ℕ) → List ℕ → Type 0
IsBad words bytes = (field : Field) × IsFaulty words bytes (faults.Bad field)

sized : (words : List (List ℕ)) (bytes text : List ℕ) (o : Options) → options_of words ≡ Some o → (b : Bool) → ltb (2 ^ 26) (length bytes) ≡ b
    → (if b then verdict TooLong (line (codes "too long")) else read_due o.samples text bytes).status ≡ BadSnapshot → IsBad words bytes
sized words bytes text o named true long is = absurd cc
sized words bytes text o named false short is =
    let f = field_read o.samples bytes text is in
    (f.0, record { options = o; named = named; short = grind (arith, nat_tests); faulty = f.1 })

cause : (words : List (List ℕ)) (bytes text : List ℕ) (o : Option Options) → options_of words ≡ o → (options_due text o bytes).status ≡ BadSnapshot → IsBad words bytes
cause words bytes text None named is = absurd cc
cause words bytes text (Some o) named is = sized words bytes text o named (ltb (2 ^ 26) (length bytes)) refl is

bad_due : (words : List (List ℕ)) (bytes text : List ℕ) → IsBad words bytes → (due_of words bytes text).status ≡ BadSnapshot
bad_due words bytes text (field, f) = rw (f.named, le-ltb (2 ^ 26) (length bytes) f.short) (read_field f.options.samples bytes text field f.faulty)

-- ---- when the status comes

asked_there : (o : Option Options) (bytes : List ℕ) → (text : List ℕ) × IsBacktraceBy o bytes text
asked_there None bytes = ([], tt)
asked_there (Some o) bytes = read_there o.samples o bytes

pub bad_told : (words : List (List ℕ)) (bytes : List ℕ) (result : Status) (before after : Option (List ℕ)) → ((text : List ℕ) → IsBacktrace words bytes text → Tells (due_of words bytes text) result before after)
    → ComesExactly result BadSnapshot (IsBad words bytes)
bad_told words bytes result before after told =
    let there = asked_there (options_of words) bytes in
    let due = due_of words bytes there.0 in
    let tells = told there.0 there.1 in
    comes (IsBad words bytes) due result BadSnapshot before after tells (λ is. sym (told_as due result BadSnapshot before after tells is).0) (cause words bytes there.0 (options_of words) refl) (bad_due words bytes there.0)

-- ---- the same where bytes are no JSON

no_json_of : {X : Type 0} (r : Result X SnapshotError) (text : List ℕ) → (content_due text r).status ≡ NotJson → error_of r ≡ Some faults.NotJson
no_json_of (Ok x) text is = absurd cc
no_json_of (Err (faults.Bad field)) text is = absurd cc
no_json_of (Err faults.NotJson) text is = refl
no_json_of (Err faults.NoMemory) text is = absurd cc

of_no_json : {X : Type 0} (r : Result X SnapshotError) (text : List ℕ) → error_of r ≡ Some faults.NotJson → (content_due text r).status ≡ NotJson
of_no_json (Ok x) text is = absurd cc
of_no_json (Err (faults.Bad other)) text is = absurd cc
of_no_json (Err faults.NotJson) text is = refl
of_no_json (Err faults.NoMemory) text is = absurd cc

no_json_read : (several : Bool) (bytes text : List ℕ) → (read_due several text bytes).status ≡ NotJson → error_in several bytes ≡ Some faults.NotJson
no_json_read false bytes text is = no_json_of (content_of bytes) text is
no_json_read true bytes text is = no_json_of (sampled_in bytes) text is

read_no_json : (several : Bool) (bytes text : List ℕ) → error_in several bytes ≡ Some faults.NotJson → (read_due several text bytes).status ≡ NotJson
read_no_json false bytes text is = of_no_json (content_of bytes) text is
read_no_json true bytes text is = of_no_json (sampled_in bytes) text is

unsized : (words : List (List ℕ)) (bytes text : List ℕ) (o : Options) → options_of words ≡ Some o → (b : Bool) → ltb (2 ^ 26) (length bytes) ≡ b
    → (if b then verdict TooLong (line (codes "too long")) else read_due o.samples text bytes).status ≡ NotJson → IsFaulty words bytes faults.NotJson
unsized words bytes text o named true long is = absurd cc
unsized words bytes text o named false short is = record { options = o; named = named; short = grind (arith, nat_tests); faulty = no_json_read o.samples bytes text is }

no_json_cause : (words : List (List ℕ)) (bytes text : List ℕ) (o : Option Options) → options_of words ≡ o → (options_due text o bytes).status ≡ NotJson → IsFaulty words bytes faults.NotJson
no_json_cause words bytes text None named is = absurd cc
no_json_cause words bytes text (Some o) named is = unsized words bytes text o named (ltb (2 ^ 26) (length bytes)) refl is

no_json_due : (words : List (List ℕ)) (bytes text : List ℕ) → IsFaulty words bytes faults.NotJson → (due_of words bytes text).status ≡ NotJson
no_json_due words bytes text f = rw (f.named, le-ltb (2 ^ 26) (length bytes) f.short) (read_no_json f.options.samples bytes text f.faulty)

pub no_json_told : (words : List (List ℕ)) (bytes : List ℕ) (result : Status) (before after : Option (List ℕ)) → ((text : List ℕ) → IsBacktrace words bytes text → Tells (due_of words bytes text) result before after)
    → ComesExactly result NotJson (IsFaulty words bytes faults.NotJson)
no_json_told words bytes result before after told =
    let there = asked_there (options_of words) bytes in
    let due = due_of words bytes there.0 in
    let tells = told there.0 there.1 in
    comes (IsFaulty words bytes faults.NotJson) due result NotJson before after tells (λ is. sym (told_as due result NotJson before after tells is).0) (no_json_cause words bytes there.0 (options_of words) refl) (no_json_due words bytes there.0)
