-- The caller's columns before any rule is applied.
use Rattle.std.proofs.Common.{inl, inr, ◌≡◌, ◌≢◌, ℕ, Option, Some, None, true, false, ◌∙◌}
use Rattle.std.specs.Prelude.{is_some, IsSome, OnSome}
use Rattle.std.proofs.lemmas.Bool.Decides.{eqb_tells}
use Rattle.unwind_definitions.specs.Caller.{Columns, value_without_rule}
use Rattle.unwinding_frames.specs.Calling.{machine_of}

-- a write to a column that is there is made
pub given : (o : Option (Unit {0})) (p : Option ℕ) {P : Type 0} → is_some o ≡ is_some p → IsSome p → OnSome o P → P
given (Some t) p same there done = done
given None p same there done = let no : false ≡ true = same ∙ there in absurd cc

-- 0 is written to the return address, and then the CFA to the stack pointer
pub begun-columns : (old middle now : Columns) (sp ra cfa : ℕ) → middle ra ≡ Some 0 → ((k : ℕ) → k ≢ ra → middle k ≡ old k) → now sp ≡ Some cfa → ((k : ℕ) → k ≢ sp → now k ≡ middle k) → now ≡ value_without_rule (machine_of sp ra) old cfa
begun-columns old middle now sp ra cfa zeroed kept placed others = λ i k. each k i
  where
    each : (k : ℕ) → now k ≡ value_without_rule (machine_of sp ra) old cfa k
    each k = elim (eqb_tells k sp) as (λ t. now k ≡ value_without_rule (machine_of sp ra) old cfa k) [
      | inl e ↦ let at : k ≡ sp = e.1 in rw (e.0, at) placed
      | inr other ↦ elim (eqb_tells k ra) as (λ t. now k ≡ value_without_rule (machine_of sp ra) old cfa k) [
        | inl e ↦ let at : k ≡ ra = e.1 in let apart : k ≢ sp = other.1 in rw (other.0, e.0) (others k apart ∙ rw at zeroed)
        | inr apart ↦ rw (other.0, apart.0) (others k other.1 ∙ kept k apart.1)
      ]
    ]
