-- A context with another value in a register, by its columns.
use Rattle.std.proofs.Common.{◌≡◌, ◌≢◌, ℕ, ◌<◌, Bool, true, false, cond, eqb, ltb, length, Option, Some, None, refl, ap, inl, inr}
use Rattle.std.specs.Prelude.{slice_set}
use Rattle.std.proofs.lemmas.Bool.{lt-ltb}
use Rattle.std.proofs.lemmas.Bool.Decides.{eqb_tells}
use Rattle.std.proofs.lemmas.List.{get_or-set_same, get_or-set_other}
use Rattle.unwind_arch.specs.declared.x86_64.Context.{Context}
use Rattle.unwind_arch.specs.ContextViews.{columns_of}
use Rattle.format_definitions.specs.CompactStep.{with_column}

abbrev in_context : Context → ℕ → Bool → Option ℕ
in_context c j general = cond general (Some (Rattle.std.specs.Prelude.slice_index c.registers j)) (cond (eqb j 16) (Some c.ra) (cond (eqb j 64) (Some c.mcxsr) (cond (eqb j 65) (Some c.fcw) None)))

pub register_columns : (c : Context) (k v : ℕ) → k < 16 → length c.registers ≡ 16 → columns_of (record c { registers = slice_set c.registers k v }) ≡ with_column (columns_of c) k v
register_columns c k v small all = λ i j. each j i
  where
    changed : Context
    changed = record c { registers = slice_set c.registers k v }

    other : (j : ℕ) → j ≢ k → (b : Bool) → in_context changed j b ≡ in_context c j b
    other j apart true = ap (λ (w : ℕ). Some w) (get_or-set_other c.registers k j v 0 apart)
    other j apart false = refl

    each : (j : ℕ) → columns_of changed j ≡ with_column (columns_of c) k v j
    each j = elim (eqb_tells j k) as (λ t. columns_of changed j ≡ with_column (columns_of c) k v j) [
      | inl e ↦ let at : j ≡ k = e.1 in rw (e.0, at, lt-ltb k 16 small) (ap (λ (w : ℕ). Some w) (get_or-set_same c.registers k v 0 (rw all small)))
      | inr e ↦ rw e.0 (other j e.1 (ltb j 16))
    ]

pub return_columns : (c : Context) (v : ℕ) → columns_of (record c { ra = v }) ≡ with_column (columns_of c) 16 v
return_columns c v = λ i j. each j i
  where
    each : (j : ℕ) → columns_of (record c { ra = v }) j ≡ with_column (columns_of c) 16 v j
    each j = elim (eqb_tells j 16) as (λ t. columns_of (record c { ra = v }) j ≡ with_column (columns_of c) 16 v j) [
      | inl e ↦ let at : j ≡ 16 = e.1 in rw at refl
      | inr e ↦ rw e.0 refl
    ]
