-- The CFA of a row.
use Rattle.std.proofs.Common.{◌≡◌, ℕ, Bool, true, false, cond, Some, None, refl, sym, ap, ◌∙◌, inl, inr}
use Rattle.std.specs.Prelude.{◌==◌}
use Rattle.std.specs.Bool.{Decides}
use Rattle.std.proofs.lemmas.Bool.{eqb-true}
use Rattle.unwind_definitions.specs.Columns as column
use Rattle.unwind_definitions.specs.Row.{ColumnAndOffset}
use Rattle.frame_facts.specs.Facts.{Facts}
use Rattle.frame_facts.specs.FactRows.{IsKnownCfa}
use Rattle.fact_checks.specs.RowFacts.{known_distance}

-- a CFA by a column is known exactly where the column's distance is
pub distance_decides : (facts : Facts) (c n : ℕ) (b : Bool) → Decides b (known_distance facts c ≡ Some n) → Decides b (IsKnownCfa facts (ColumnAndOffset c n))
distance_decides facts c n b d = (λ h. known (c == column.rbp) (c == column.rsp) refl refl (d.0 h), λ is. d.1 (distance is))
  where
    known : (x y : Bool) → (c == column.rbp) ≡ x → (c == column.rsp) ≡ y → known_distance facts c ≡ Some n → IsKnownCfa facts (ColumnAndOffset c n)
    known true y ex ey h =
        let same : c ≡ column.rbp = eqb-true c column.rbp ex in
        let is : facts.rbp ≡ Some n = sym (ap (λ b. cond b facts.rbp (cond (c == column.rsp) facts.rsp None)) ex) ∙ h in
        (n, inr (is, ap (λ x. ColumnAndOffset x n) same))
    known false true ex ey h =
        let same : c ≡ column.rsp = eqb-true c column.rsp ey in
        let is : facts.rsp ≡ Some n = sym (ap (λ b. cond b facts.rbp (cond (c == column.rsp) facts.rsp None)) ex ∙ ap (λ b. cond b facts.rsp None) ey) ∙ h in
        (n, inl (is, ap (λ x. ColumnAndOffset x n) same))
    known false false ex ey h = absurd (let e : None ≡ Some n = sym (ap (λ b. cond b facts.rbp (cond (c == column.rsp) facts.rsp None)) ex ∙ ap (λ b. cond b facts.rsp None) ey) ∙ h in cc)

    distance : IsKnownCfa facts (ColumnAndOffset c n) → known_distance facts c ≡ Some n
    distance (m, inl (is, e)) = let same : c ≡ column.rsp = cc in let value : n ≡ m = cc in rw same (rw value is)
    distance (m, inr (is, e)) = let same : c ≡ column.rbp = cc in let value : n ≡ m = cc in rw same (rw value is)
