-- Registers that are saved close below the CFA.
use Rattle.std.proofs.Common.{inl, inr, ◌≡◌, ◌≢◌, ℕ, ◌+◌, ◌-◌, ◌%◌, ◌^◌, ◌<◌, ◌≤◌, ◌==◌, List, Option, Some, Ok, true, ltb, refl, sym, ap, ◌∙◌, arith, if◌then◌else◌}
use Rattle.std.specs.Prelude.{IsSome, OnSome, is_some, slice_index}
use Rattle.std.proofs.lemmas.Bool.{cases_lt}
use Rattle.std.proofs.lemmas.Bool.Decides.{nat_tests, eqb_tells}
use Rattle.memory_image.specs.Image.{Span}
use Rattle.memory_image.specs.Words.{u64_at}
use Rattle.unwind_definitions.specs.Instructions.{Offset}
use Rattle.unwind_definitions.specs.Caller.{Columns, rule_value}
use Rattle.unwind_definitions.specs.Expressions.{evaluation}
use Rattle.unwind_arch.specs.declared.x86_64.Context.{Context}
use Rattle.unwind_arch.specs.ContextViews.{columns_of}
use Rattle.unwinding_frames.specs.Calling.{rule_applied, written_to}
use Rattle.unwinding_frames.specs.Slots.{AreSlots}
use Rattle.unwinding_frames.proofs.Begun.{given}

-- each general register and the return address is a column of x86-64
column_there : (context : Context) (c : ℕ) → c ≤ 16 → (v : ℕ) × (columns_of context c ≡ Some v)
column_there context c low = elim (cases_lt c 16) [
  | inl less ↦ let t : ltb c 16 ≡ true = grind (arith, nat_tests) in (slice_index context.registers c, rw t refl)
  | inr more ↦ let at : c ≡ 16 = omega arith in (context.ra, rw at refl)
]

-- the columns after a write to one that is there
written : (before after : Columns) (c v was : ℕ) → before c ≡ Some was → after c ≡ Some v → ((k : ℕ) → k ≢ c → after k ≡ before k) → written_to (before c) before c v ≡ Ok after
written before after c v was there placed others =
    let same : (λ (j : ℕ). if j == c then Some v else before j) ≡ after = λ i k. each k i in
    rw there (ap Ok same)
  where
    each : (k : ℕ) → (if k == c then Some v else before k) ≡ after k
    each k = elim (eqb_tells k c) as (λ t. (if k == c then Some v else before k) ≡ after k) [
      | inl e ↦ let at : k ≡ c = e.1 in rw (e.0, at) (sym placed)
      | inr other ↦ rw other.0 (sym (others k other.1))
    ]

-- a rule whose word is among the bytes below the CFA gives its column that word
slot_applied : (image : List Span) (old before after : Columns) (cfa c n reach word : ℕ) (slots : List ℕ) → AreSlots image cfa reach slots → 2 ^ 64 ≤ n + reach → n + 8 ≤ 2 ^ 64 → word ≡ u64_at slots (n + reach - 2 ^ 64) →
    written_to (before c) before c word ≡ Ok after → rule_applied (evaluation image) image old cfa (c, Offset n) before ≡ Ok after
slot_applied image old before after cfa c n reach word slots are above below is wrote =
    let value : rule_value (evaluation image) image old cfa c (Offset n) ≡ Ok word = rw (are.words n above below, is) refl in
    rw value wrote

-- the same of a write to a context's column
pub slot_written : (image : List Span) (old : Columns) (before after : Context) (cfa c n reach word : ℕ) (slots : List ℕ) → AreSlots image cfa reach slots → c ≤ 16 → 2 ^ 64 ≤ n + reach → n + 8 ≤ 2 ^ 64 → word ≡ u64_at slots ((n + reach) % 2 ^ 64) →
    n < 2 ^ 64 → reach < 2 ^ 64 → (r : Option (Unit {0})) → is_some r ≡ is_some (columns_of before c) → OnSome r (columns_of after c ≡ Some word) → OnSome r ((k : ℕ) → k ≢ c → columns_of after k ≡ columns_of before k) →
    rule_applied (evaluation image) image old cfa (c, Offset n) (columns_of before) ≡ Ok (columns_of after)
slot_written image old before after cfa c n reach word slots are low above close is small short r found holds others =
    let place : (n + reach) % 2 ^ 64 ≡ n + reach - 2 ^ 64 = omega arith in
    let there = column_there before c low in
    let some : IsSome (columns_of before c) = rw there.1 refl in
    let wrote = written (columns_of before) (columns_of after) c word there.0 there.1 (given r (columns_of before c) found some holds) (given r (columns_of before c) found some others) in
    slot_applied image old (columns_of before) (columns_of after) cfa c n reach word slots are above close (is ∙ ap (u64_at slots) place) wrote
