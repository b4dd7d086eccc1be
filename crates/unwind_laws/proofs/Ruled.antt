-- The caller's columns, computed rule by rule.
use Rattle.std.proofs.Common.{◌≡◌, ℕ, ◌+◌, ◌<◌, ◌≤◌, Bool, true, false, ltb, List, [], ◌∷◌, Option, Some, None, Result, Ok, Err, refl, sym, ap, subst, ◌∙◌, arith, inl, inr}
use Rattle.std.specs.Prelude.{◌⊎◌, ◌==◌}
use Rattle.std.specs.Option.{option_map_or, option_or}
use Rattle.std.proofs.lemmas.Bool.{eqb-true, ltb-true, ltb-false}
use Rattle.std.proofs.lemmas.Bool.Decides.{nat_tests}
use Rattle.memory_image.specs.Image.{Span}
use Rattle.memory_image.specs.Results.{◌>>=◌}
use Rattle.unwind_definitions.specs.Instructions.{Rule}
use Rattle.unwind_definitions.specs.Row.{RowInstructions}
use Rattle.unwind_definitions.specs.Caller.{Columns, Machine, StepFault, Evaluates, rule_value, value_for_column, value_without_rule, column_value, value_in, fault_in, first_fault_below, unless_fault, column_limit, caller_with}
use Rattle.unwind_laws.specs.Undoes.{rule_in, ColumnsAscend, AreRules, with_column, columns_by_rules}
use Rattle.unwind_laws.proofs.Faultless.{HasValue, no_fault_below, first_fault_at}

order : (a b : ℕ) → (a < b) ⊎ (b ≤ a)
order a b = go (ltb a b) refl
  where
    go : (t : Bool) → ltb a b ≡ t → (a < b) ⊎ (b ≤ a)
    go true e = inl (ltb-true a b e)
    go false e = inr (ltb-false a b e)

below_or_at : (a b : ℕ) → a < b + 1 → (a < b) ⊎ (a ≡ b)
below_or_at a b lt = elim (order a b) [ inl l ↦ inl l | inr le ↦ inr (omega arith) ]

-- a list that begins at low has no rule below it
nothing_below : (rules : List (ℕ × Rule)) (low c : ℕ) → ColumnsAscend low rules → c < low → rule_in rules c ≡ None
nothing_below [] low c up lt = refl
nothing_below (r ∷ rules) low c up lt =
    let le = up.0 in
    let other : (r.0 == c) ≡ false = grind (arith, nat_tests) in
    rw other (nothing_below rules (r.0 + 1) c up.2 (omega arith))

module _ (machine : Machine) (evaluates : Evaluates) (image : List Span) (old : Columns) (cfa : ℕ) where
  -- what a rule gives a column, and what a column has without one
  abbrev value_by : Option Rule → ℕ → Result (Option ℕ) StepFault
  value_by rule c = option_map_or (λ r. value_for_column (old c) (rule_value evaluates image old cfa c r)) rule (Ok (value_without_rule machine old cfa c))

  -- the columns that are to come: those of the rules by them, the others as they are
  abbrev by_rules : List (ℕ × Rule) → Columns → ℕ → Option ℕ
  by_rules rules new c = option_map_or (λ r. value_in (value_for_column (old c) (rule_value evaluates image old cfa c r))) (rule_in rules c) (new c)

  abbrev some_fault : StepFault → Option StepFault
  some_fault e = Some e

  -- the first fault of the rules, in their order
  abbrev rules_fault : List (ℕ × Rule) → Option StepFault
  rules_fault [] = None
  rules_fault (r ∷ rules) = option_or (fault_in (value_for_column (old r.0) (rule_value evaluates image old cfa r.0 r.1))) (rules_fault rules)

  abbrev ok : Columns → Result Columns StepFault
  ok columns = Ok columns

  set_first : (rules : List (ℕ × Rule)) (r : ℕ × Rule) (new : Columns) (v : Option ℕ) → rule_in rules r.0 ≡ None → value_for_column (old r.0) (rule_value evaluates image old cfa r.0 r.1) ≡ Ok v →
      (c : ℕ) → by_rules rules (with_column new r.0 v) c ≡ by_rules (r ∷ rules) new c
  set_first rules r new v none is c = go (r.0 == c) refl
    where
      go : (b : Bool) → (r.0 == c) ≡ b → by_rules rules (with_column new r.0 v) c ≡ by_rules (r ∷ rules) new c
      go true e = let same : r.0 ≡ c = eqb-true r.0 c e in rw (← same) (rw (none, e', is) refl)
        where
          e' : (r.0 == r.0) ≡ true
          e' = grind (arith, nat_tests)
      go false e = rw e refl

  -- rule by rule comes to the first fault of a rule, or to the columns by all of them
  ruled_is : (rules : List (ℕ × Rule)) (low : ℕ) (new : Columns) → ColumnsAscend low rules → columns_by_rules evaluates image old cfa rules new ≡ unless_fault (rules_fault rules) (λ c. by_rules rules new c)
  ruled_is [] low new up = refl
  ruled_is (r ∷ rules) low new up = go (value_for_column (old r.0) (rule_value evaluates image old cfa r.0 r.1)) refl (λ v. ruled_is rules (r.0 + 1) (with_column new r.0 v) up.2)
    where
      go : (p : Result (Option ℕ) StepFault) → value_for_column (old r.0) (rule_value evaluates image old cfa r.0 r.1) ≡ p →
          ((v : Option ℕ) → columns_by_rules evaluates image old cfa rules (with_column new r.0 v) ≡ unless_fault (rules_fault rules) (λ c. by_rules rules (with_column new r.0 v) c)) →
          (p >>= (λ v. columns_by_rules evaluates image old cfa rules (with_column new r.0 v))) ≡ unless_fault (option_or (fault_in p) (rules_fault rules)) (λ c. by_rules (r ∷ rules) new c)
      go (Err e) is ih = refl
      go (Ok v) is ih = ih v ∙ ap (unless_fault (rules_fault rules)) (λ i c. set_first rules r new v (nothing_below rules (r.0 + 1) r.0 up.2 (omega arith)) is c i)

  has_unruled : (c : ℕ) → HasValue (value_by None c)
  has_unruled c = (value_without_rule machine old cfa c, refl)

  -- a column's value after low is by the rules, and those below it have one
  pub record IsBy (value : ℕ → Result (Option ℕ) StepFault) (low : ℕ) (rules : List (ℕ × Rule)) : Type 0 where
    pub below : (c : ℕ) → c < low → HasValue (value c)
    pub after : (c : ℕ) → low ≤ c → value c ≡ value_by (rule_in rules c) c

  rest_by : (value : ℕ → Result (Option ℕ) StepFault) (low : ℕ) (r : ℕ × Rule) (rules : List (ℕ × Rule)) → ColumnsAscend low (r ∷ rules) → IsBy value low (r ∷ rules) → HasValue (value r.0) → IsBy value (r.0 + 1) rules
  rest_by value low r rules up is here = record { below = below; after = after }
    where
      early : (c : ℕ) → c < r.0 → (c < low) ⊎ (low ≤ c) → HasValue (value c)
      early c lt (inl before) = is.below c before
      early c lt (inr le) =
          let none : rule_in (r ∷ rules) c ≡ None = nothing_below (r ∷ rules) r.0 c (omega arith, up.1, up.2) lt in
          (value_without_rule machine old cfa c, is.after c le ∙ ap (λ o. value_by o c) none)

      or_same : (c : ℕ) → (c < r.0) ⊎ (c ≡ r.0) → HasValue (value c)
      or_same c (inl lt) = early c lt (order c low)
      or_same c (inr same) = subst (λ k. HasValue (value k)) (sym same) here

      below : (c : ℕ) → c < r.0 + 1 → HasValue (value c)
      below c lt = or_same c (below_or_at c r.0 lt)

      after : (c : ℕ) → r.0 + 1 ≤ c → value c ≡ value_by (rule_in rules c) c
      after c le =
          let le' : low ≤ r.0 = up.0 in
          let other : (r.0 == c) ≡ false = grind (arith, nat_tests) in
          is.after c (omega arith) ∙ rw other refl

  -- the first fault of columns by ascending column is that of the rules in their order
  first_is : (value : ℕ → Result (Option ℕ) StepFault) (low : ℕ) (rules : List (ℕ × Rule)) → ColumnsAscend low rules → IsBy value low rules → first_fault_below column_limit value ≡ rules_fault rules
  first_is value low [] up is = no_fault_below column_limit value (λ c lt. has c (order c low))
    where
      has : (c : ℕ) → (c < low) ⊎ (low ≤ c) → HasValue (value c)
      has c (inl lt) = is.below c lt
      has c (inr le) = (value_without_rule machine old cfa c, is.after c le)
  first_is value low (r ∷ rules) up is = go (value_for_column (old r.0) (rule_value evaluates image old cfa r.0 r.1)) refl (first_is value (r.0 + 1) rules up.2)
    where
      self : (r.0 == r.0) ≡ true
      self = grind (arith, nat_tests)

      at : value r.0 ≡ value_for_column (old r.0) (rule_value evaluates image old cfa r.0 r.1)
      at = is.after r.0 up.0 ∙ rw self refl

      early : (c : ℕ) → c < r.0 → (c < low) ⊎ (low ≤ c) → HasValue (value c)
      early c lt (inl before) = is.below c before
      early c lt (inr le) =
          let none : rule_in (r ∷ rules) c ≡ None = nothing_below (r ∷ rules) r.0 c (omega arith, up.1, up.2) lt in
          (value_without_rule machine old cfa c, is.after c le ∙ ap (λ o. value_by o c) none)

      go : (p : Result (Option ℕ) StepFault) → value_for_column (old r.0) (rule_value evaluates image old cfa r.0 r.1) ≡ p → (IsBy value (r.0 + 1) rules → first_fault_below column_limit value ≡ rules_fault rules) →
          first_fault_below column_limit value ≡ option_or (fault_in p) (rules_fault rules)
      go (Err e) p ih = first_fault_at column_limit r.0 value e up.1 (λ c lt. early c lt (order c low)) (at ∙ p)
      go (Ok v) p ih = ih (rest_by value low r rules up is (v, at ∙ p))

  by_each : (run : RowInstructions) (rules : List (ℕ × Rule)) → AreRules run rules → (c : ℕ) → column_value machine evaluates image old cfa run c ≡ value_by (rule_in rules c) c
  by_each run rules are c = ap (λ o. value_by o c) (sym (are.each c))

  value_in_by : (o : Option Rule) (c : ℕ) → value_in (value_by o c) ≡ option_map_or (λ r. value_in (value_for_column (old c) (rule_value evaluates image old cfa c r))) o (value_without_rule machine old cfa c)
  value_in_by None c = refl
  value_in_by (Some r) c = refl

  -- The caller by a row is what its rules give one after another, by ascending column, from the columns without rules.
  pub caller_is_ruled : (run : RowInstructions) (rules : List (ℕ × Rule)) → AreRules run rules → caller_with machine evaluates image old run (Ok cfa) ≡ columns_by_rules evaluates image old cfa rules (value_without_rule machine old cfa)
  caller_is_ruled run rules are =
      let is : IsBy (column_value machine evaluates image old cfa run) 0 rules = record { below = λ c lt. absurd (omega arith); after = λ c le. by_each run rules are c } in
      ap (λ o. unless_fault o (λ c. value_in (column_value machine evaluates image old cfa run c))) (first_is (column_value machine evaluates image old cfa run) 0 rules are.ascend is)
      ∙ ap (unless_fault (rules_fault rules)) (λ i c. (ap value_in (by_each run rules are c) ∙ value_in_by (rule_in rules c) c) i)
      ∙ sym (ruled_is rules 0 (value_without_rule machine old cfa) are.ascend)
