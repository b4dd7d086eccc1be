-- The records, one after another.
use Rattle.std.proofs.Common.{◌≡◌, ℕ, zero, suc, ◌+◌, ◌-◌, ◌<◌, ◌≤◌, Bool, true, false, cond, ltb, List, [], ◌∷◌, length, take, drop, Result, Ok, Err, refl, ap, ◌∙◌, subst, arith}
use Rattle.std.proofs.lemmas.Bool.{ltb-false}
use Rattle.std.proofs.lemmas.List.{length-drop}
use Rattle.memory_image.specs.Words.{u16_at}
use Rattle.perf_data.specs.declared.errors.PerfError.{PerfError}
use Rattle.perf_data.specs.declared.errors.PerfError.TheVariants as errors
use Rattle.perf_data.specs.declared.layout.Layout.{Layout}
use Rattle.perf_data.specs.Records.{FramedValue, RecordValue, framed_of, first_framed, record_of, sized, record_in, first_record, record_then, records_from, records_of}

-- a record has eight bytes at least
framed_size : (offset : ℕ) (bytes : List ℕ) (p : FramedValue × ℕ) → first_framed offset bytes ≡ Ok p → 8 ≤ p.1
unfolding first_framed
framed_size offset bytes p e = go (ltb (length bytes) 8) e
  where
    third : 8 ≤ u16_at bytes 6 → (short : Bool) → cond short (Err (errors.Cut offset)) (Ok (framed_of (take (u16_at bytes 6) bytes), u16_at bytes 6)) ≡ Ok p → 8 ≤ p.1
    third fits true e = absurd cc
    third fits false e = let same : (framed_of (take (u16_at bytes 6) bytes), u16_at bytes 6) ≡ p = cc in subst (λ (q : FramedValue × ℕ). 8 ≤ q.1) same fits

    second : (small : Bool) → ltb (u16_at bytes 6) 8 ≡ small → cond small (Err (errors.Size offset)) (cond (ltb (length bytes) (u16_at bytes 6)) (Err (errors.Cut offset)) (Ok (framed_of (take (u16_at bytes 6) bytes), u16_at bytes 6))) ≡ Ok p → 8 ≤ p.1
    second true is e = absurd cc
    second false is e = third (ltb-false (u16_at bytes 6) 8 is) (ltb (length bytes) (u16_at bytes 6)) e

    go : (short : Bool) → cond short (Err (errors.Cut offset)) (cond (ltb (u16_at bytes 6) 8) (Err (errors.Size offset)) (cond (ltb (length bytes) (u16_at bytes 6)) (Err (errors.Cut offset)) (Ok (framed_of (take (u16_at bytes 6) bytes), u16_at bytes 6)))) ≡ Ok p → 8 ≤ p.1
    go true e = absurd cc
    go false e = second (ltb (u16_at bytes 6) 8) refl e

record_size : (layout : Layout) (offset : ℕ) (bytes : List ℕ) (p : RecordValue × ℕ) → first_record layout offset bytes ≡ Ok p → 8 ≤ p.1
unfolding first_record
record_size layout offset bytes p e = go (first_framed offset bytes) refl e
  where
    inner : (size : ℕ) → 8 ≤ size → (r : Result RecordValue PerfError) → sized size r ≡ Ok p → 8 ≤ p.1
    inner size fits (Err x) e = absurd cc
    inner size fits (Ok value) e = let same : (value, size) ≡ p = cc in subst (λ (q : RecordValue × ℕ). 8 ≤ q.1) same fits

    go : (r : Result (FramedValue × ℕ) PerfError) → first_framed offset bytes ≡ r → record_in layout offset r ≡ Ok p → 8 ≤ p.1
    go (Err x) is e = absurd cc
    go (Ok q) is e = inner q.1 (framed_size offset bytes q is) (record_of layout offset q.0) e

then_same : (r : Result (RecordValue × ℕ) PerfError) → ((p : RecordValue × ℕ) → r ≡ Ok p → 8 ≤ p.1) → (f g : ℕ → List (Result RecordValue PerfError)) → ((size : ℕ) → 8 ≤ size → f size ≡ g size) → record_then r f ≡ record_then r g
then_same (Err e) large f g same = refl
then_same (Ok p) large f g same = ap (λ (later : List (Result RecordValue PerfError)). Ok p.0 ∷ later) (same p.1 (large p refl))

-- as many records as there are bytes are enough
enough : (n m : ℕ) (layout : Layout) (offset : ℕ) (bytes : List ℕ) → length bytes ≤ n → length bytes ≤ m → records_from n layout offset bytes ≡ records_from m layout offset bytes
enough n m layout offset [] p q = refl
enough zero m layout offset (x ∷ rest) p q = absurd (omega arith)
enough (suc n) zero layout offset (x ∷ rest) p q = absurd (omega arith)
enough (suc n) (suc m) layout offset (x ∷ rest) p q =
    then_same (first_record layout offset (x ∷ rest)) (λ first is. record_size layout offset (x ∷ rest) first is)
    (λ size. records_from n layout (offset + size) (drop size (x ∷ rest))) (λ size. records_from m layout (offset + size) (drop size (x ∷ rest)))
    (λ size large.
    let less : length (drop size (x ∷ rest)) ≡ length (x ∷ rest) - size = length-drop size (x ∷ rest) in
    enough n m layout (offset + size) (drop size (x ∷ rest)) (omega arith) (omega arith))

records_step : (layout : Layout) (offset : ℕ) (bytes : List ℕ) → 0 < length bytes → records_of layout offset bytes ≡ record_then (first_record layout offset bytes) (λ size. records_of layout (offset + size) (drop size bytes))
unfolding records_of
records_step layout offset [] some = absurd (omega arith)
records_step layout offset (x ∷ rest) some =
    then_same (first_record layout offset (x ∷ rest)) (λ first is. record_size layout offset (x ∷ rest) first is)
    (λ size. records_from (length rest) layout (offset + size) (drop size (x ∷ rest))) (λ size. records_of layout (offset + size) (drop size (x ∷ rest)))
    (λ size large.
    let less : length (drop size (x ∷ rest)) ≡ length (x ∷ rest) - size = length-drop size (x ∷ rest) in
    enough (length rest) (length (drop size (x ∷ rest))) layout (offset + size) (drop size (x ∷ rest)) (omega arith) (omega arith))

pub records_end : (layout : Layout) (offset : ℕ) (bytes : List ℕ) → length bytes ≡ 0 → records_of layout offset bytes ≡ []
unfolding records_of
records_end layout offset [] none = refl
records_end layout offset (x ∷ rest) none = absurd (omega arith)

pub records_err : (layout : Layout) (offset : ℕ) (bytes : List ℕ) (e : PerfError) → 0 < length bytes → first_record layout offset bytes ≡ Err e → records_of layout offset bytes ≡ Err e ∷ []
records_err layout offset bytes e some is = records_step layout offset bytes some ∙ rw is refl

pub records_next : (layout : Layout) (offset : ℕ) (bytes : List ℕ) (value : RecordValue) (size : ℕ) → 0 < length bytes → first_record layout offset bytes ≡ Ok (value, size)
    → records_of layout offset bytes ≡ Ok value ∷ records_of layout (offset + size) (drop size bytes)
records_next layout offset bytes value size some is = records_step layout offset bytes some ∙ rw is refl

-- ---- how many there are

then_few : (r : Result (RecordValue × ℕ) PerfError) (n : ℕ) (later : ℕ → List (Result RecordValue PerfError)) → ((size : ℕ) → length (later size) ≤ n) → length (record_then r later) ≤ suc n
then_few (Err e) n later few = omega arith
then_few (Ok p) n later few = let fits = few p.1 in omega arith

few_from : (n : ℕ) (layout : Layout) (offset : ℕ) (bytes : List ℕ) → length (records_from n layout offset bytes) ≤ n
few_from n layout offset [] = omega arith
few_from zero layout offset (x ∷ rest) = omega arith
few_from (suc n) layout offset (x ∷ rest) =
    then_few (first_record layout offset (x ∷ rest)) n (λ size. records_from n layout (offset + size) (drop size (x ∷ rest)))
    (λ size. few_from n layout (offset + size) (drop size (x ∷ rest)))

-- no more than there are bytes
pub records_few : (layout : Layout) (offset : ℕ) (bytes : List ℕ) → length (records_of layout offset bytes) ≤ length bytes
unfolding records_of
records_few layout offset bytes = few_from (length bytes) layout offset bytes
