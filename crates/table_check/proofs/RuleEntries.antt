-- The rules of a row, one after another.
use Rattle.std.proofs.Common.{◌≡◌, ℕ, Bool, true, false, cond, List, ◌∷◌, Some, None, refl, sym, ap, ◌∙◌}
use Rattle.std.specs.Prelude.{◌==◌}
use Rattle.std.proofs.lemmas.Bool.{eq-eqb, eqb-true, ne_eqb}
use Rattle.unwind_definitions.specs.Instructions.{Rule}
use Rattle.unwind_definitions.specs.DescribedRows.{may_have_rule}
use Rattle.frame_rows.specs.Rules.{rule_in}
use Rattle.table_check.specs.FrameRows.{HasNoOthers}

module _ (e : ℕ × Rule) (es : List (ℕ × Rule)) where
  pub rule_here : (c : ℕ) → e.0 ≡ c → rule_in (e ∷ es) c ≡ Some e.1
  rule_here c is = ap (λ b. cond b (Some e.1) (rule_in es c)) (eq-eqb e.0 c is)

  pub rule_later : (c : ℕ) → (e.0 ≡ c → ⊥) → rule_in (e ∷ es) c ≡ rule_in es c
  rule_later c other = ap (λ b. cond b (Some e.1) (rule_in es c)) (ne_eqb e.0 c other)

  pub none_more : may_have_rule e.0 ≡ true → HasNoOthers es → HasNoOthers (e ∷ es)
  none_more may none c other = rule_later c (λ same. let h : true ≡ false = sym may ∙ ap may_have_rule same ∙ other in cc) ∙ none c other

  pub none_left : HasNoOthers (e ∷ es) → HasNoOthers es
  none_left none c other = left (e.0 == c) refl
    where
      left : (b : Bool) → (e.0 == c) ≡ b → rule_in es c ≡ None
      left true is = absurd (let h : Some e.1 ≡ None = sym (rule_here c (eqb-true e.0 c is)) ∙ none c other in cc)
      left false is = sym (ap (λ b. cond b (Some e.1) (rule_in es c)) is) ∙ none c other
