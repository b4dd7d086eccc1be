-- What is asked of each column's rule, and of the rules of a row one after another.
use Rattle.std.proofs.Common.{◌≡◌, ℕ, suc, ◌<◌, ◌≤◌, Bool, true, false, List, [], ◌∷◌, Option, Some, None, refl, sym, ap, subst, ◌∙◌, inl, inr, arith}
use Rattle.std.specs.Prelude.{◌==◌, ◌↔◌, ◌≢◌, ◌⊎◌, IsFalse, MatchOption, nat_lt, if◌then◌else◌}
use Rattle.std.proofs.lemmas.Bool.{eqb-true}
use Rattle.std.proofs.lemmas.Bool.Decides.{nat_tests}
use Rattle.unwind_definitions.specs.Columns as column
use Rattle.unwind_definitions.specs.Instructions.{Rule}
use Rattle.unwind_definitions.specs.DescribedRows.{may_have_rule}
use Rattle.unwind_definitions.specs.State.{CalleeSaved, RBX, RBP, R12, R13, R14, R15, column_of}
use Rattle.frame_rows.specs.Rules.{AscendsFrom, rule_in}
use Rattle.frame_facts.specs.Facts.{Facts}
use Rattle.frame_facts.specs.FactRows.{FindsKnown, return_rule}
use Rattle.fact_checks.specs.declared.facts.ClaimedFacts.{ClaimedFacts}
use Rattle.fact_checks.specs.ClaimViews.{facts_of, known_of}
use Rattle.fact_checks.specs.RowFacts.{IsAsked, IsFound, IsOtherRule, LacksNone, RulesSay, lacks}
use Rattle.fact_checks.proofs.Known.{found_known, known_found}

-- what holds of each callee-saved register
pub each_register : (P : CalleeSaved → Type 0) → P RBX → P RBP → P R12 → P R13 → P R14 → P R15 → (r : CalleeSaved) → P r
each_register P rbx rbp r12 r13 r14 r15 RBX = rbx
each_register P rbx rbp r12 r13 r14 r15 RBP = rbp
each_register P rbx rbp r12 r13 r14 r15 R12 = r12
each_register P rbx rbp r12 r13 r14 r15 R13 = r13
each_register P rbx rbp r12 r13 r14 r15 R14 = r14
each_register P rbx rbp r12 r13 r14 r15 R15 = r15

-- ---- one column

same_is : (c : ℕ) → (c == c) ≡ true
same_is c = grind (arith, nat_tests)

abbrev named : ℕ → Option CalleeSaved
named c = if c == column.rbx then Some RBX else if c == column.rbp then Some RBP else if c == column.r12 then Some R12 else if c == column.r13 then Some R13 else if c == column.r14 then Some R14 else if c == column.r15 then Some R15 else None

is_named : (r : CalleeSaved) → named (column_of r) ≡ Some r
is_named = each_register (λ r. named (column_of r) ≡ Some r) refl refl refl refl refl refl

same_register : (r s : CalleeSaved) → column_of r ≡ column_of s → r ≡ s
same_register r s same = let is : Some r ≡ Some s = sym (is_named r) ∙ (ap named same ∙ is_named s) in cc

none_named : (r : CalleeSaved) → column_of r ≡ column.ra → ⊥
none_named r same = let is : Some r ≡ None = sym (is_named r) ∙ ap named same in cc

may_have : (r : CalleeSaved) → may_have_rule (column_of r) ≡ true
may_have = each_register (λ r. may_have_rule (column_of r) ≡ true) refl refl refl refl refl refl

-- a callee-saved register has to be found
pub register_asked : (known : ClaimedFacts) (r : CalleeSaved) (c : ℕ) → c ≡ column_of r → (rule : Option Rule) → IsFound (known_of known.registers r) rule ↔ IsAsked (facts_of known) c rule
register_asked known r c at rule = (asked, λ is. known_found known r rule (is.register r at))
  where
    asked : IsFound (known_of known.registers r) rule → IsAsked (facts_of known) c rule
    asked found = record {
      ret = λ same. absurd (none_named r (sym at ∙ same));
      register = λ s same. subst (λ q. FindsKnown (facts_of known) q rule) (same_register r s (sym at ∙ same)) (found_known known r rule found);
      other = λ none. absurd (let may : may_have_rule c ≡ true = ap may_have_rule at ∙ may_have r in cc);
    }

-- a return address has to be as is due
pub return_asked : (facts : Facts) (c : ℕ) → c ≡ column.ra → (rule : Option Rule) → (rule ≡ Some (return_rule facts.outermost)) ↔ IsAsked facts c rule
return_asked facts c at rule = (asked, λ is. is.ret at)
  where
    asked : rule ≡ Some (return_rule facts.outermost) → IsAsked facts c rule
    asked is = record {
      ret = λ same. is;
      register = λ r same. absurd (none_named r (sym same ∙ at));
      other = λ none. absurd (let may : may_have_rule c ≡ true = ap may_have_rule at ∙ refl in cc);
    }

-- a rule of a column that has one may not be there
pub other_asked : (facts : Facts) (c : ℕ) (rule : Rule) → may_have_rule c ≡ false → IsAsked facts c (Some rule) → ⊥
other_asked facts c rule none is = let no : Some rule ≡ None = is.other none in cc

-- ---- a row

module _ (facts : Facts) (rules : List (ℕ × Rule)) where
  -- the columns below one have rules that are as asked, and the rules that are left are those of the others
  pub record AreAskedBelow (left : List (ℕ × Rule)) (low : ℕ) : Type 0 where
    pub ascends : AscendsFrom low left
    pub same : (c : ℕ) → low ≤ c → rule_in left c ≡ rule_in rules c
    pub asked : (c : ℕ) (rule : Rule) → c < low → rule_in rules c ≡ Some rule → IsAsked facts c (Some rule)

  pub none_asked : AscendsFrom 0 rules → AreAskedBelow rules 0
  none_asked ascends = record { ascends = ascends; same = λ c le. refl; asked = λ c rule lt is. absurd (omega arith) }

  differ : (a b : ℕ) → a ≢ b → (a == b) ≡ false
  differ a b ne = go (a == b) refl
    where
      go : (t : Bool) → (a == b) ≡ t → t ≡ false
      go true e = absurd (ne (eqb-true a b e))
      go false e = refl

  below_all : (low c : ℕ) (es : List (ℕ × Rule)) → c < low → AscendsFrom low es → rule_in es c ≡ None
  below_all low c [] lt asc = refl
  below_all low c (e ∷ es) lt asc =
      let h : low ≤ e.0 = asc.0 in
      let other : (e.0 == c) ≡ false = differ e.0 c (λ same. omega arith) in
      rw other (below_all (suc e.0) c es (omega arith) asc.1)

  -- the rule of the first column that is left
  pub first_is : (low c : ℕ) (rule : Rule) (es : List (ℕ × Rule)) → AreAskedBelow ((c, rule) ∷ es) low → rule_in rules c ≡ Some rule
  first_is low c rule es below =
      let here : rule_in ((c, rule) ∷ es) c ≡ Some rule = rw (same_is c) refl in
      sym (below.same c below.ascends.0) ∙ here

  -- one more column
  pub more_asked : (low c : ℕ) (rule : Rule) (es : List (ℕ × Rule)) → AreAskedBelow ((c, rule) ∷ es) low → IsAsked facts c (Some rule) → AreAskedBelow es (suc c)
  more_asked low c rule es below here = record {
    ascends = below.ascends.1;
    same = λ d le. sym (past d (λ e. omega arith)) ∙ below.same d (let from : low ≤ c = below.ascends.0 in omega arith);
    asked = λ d r lt is. go d r lt is;
  }
    where
      past : (d : ℕ) → c ≢ d → rule_in ((c, rule) ∷ es) d ≡ rule_in es d
      past d ne = rw (differ c d ne) refl

      at : (d : ℕ) (r : Rule) → low ≤ d → d < suc c → rule_in rules d ≡ Some r → (t : Bool) → (c == d) ≡ t → IsAsked facts d (Some r)
      at d r le lt is true same =
          let e : c ≡ d = eqb-true c d same in
          let value : Some rule ≡ Some r = sym (first_is low c rule es below) ∙ (ap (rule_in rules) e ∙ is) in
          subst (λ o. IsAsked facts d o) value (subst (λ k. IsAsked facts k (Some rule)) e here)
      at d r le lt is false other = absurd
          (let ne : c ≢ d = λ e. (let t : (c == d) ≡ true = ap (λ k. c == k) (sym e) ∙ same_is c in cc) in
          let none : rule_in es d ≡ None = below_all (suc c) d es lt below.ascends.1 in
          let no : None ≡ Some r = sym none ∙ (sym (past d ne) ∙ (below.same d le ∙ is)) in cc)

      go : (d : ℕ) (r : Rule) → d < suc c → rule_in rules d ≡ Some r → IsAsked facts d (Some r)
      go d r lt is = side (nat_lt d low) refl
        where
          side : (t : Bool) → nat_lt d low ≡ t → IsAsked facts d (Some r)
          side true below_low = below.asked d r (grind (arith, nat_tests)) is
          side false from_low = at d r (grind (arith, nat_tests)) lt is (c == d) refl

  -- all rules are as asked, and none is lacking
  pub all_say : (low : ℕ) → AreAskedBelow [] low → LacksNone facts rules → RulesSay facts rules
  all_say low below lacks_none = record { ret = ret (rule_in rules column.ra) refl; registers = λ r. register r (rule_in rules (column_of r)) refl; others = λ c none. other c none (rule_in rules c) refl }
    where
      asked : (c : ℕ) (rule : Rule) → rule_in rules c ≡ Some rule → IsAsked facts c (Some rule)
      asked c rule is = side (nat_lt c low) refl
        where
          side : (t : Bool) → nat_lt c low ≡ t → IsAsked facts c (Some rule)
          side true is_below = below.asked c rule (grind (arith, nat_tests)) is
          side false is_from = absurd (let no : None ≡ Some rule = below.same c (grind (arith, nat_tests)) ∙ is in cc)

      ret : (o : Option Rule) → rule_in rules column.ra ≡ o → rule_in rules column.ra ≡ Some (return_rule facts.outermost)
      ret None is = absurd (lacks_none.ret is)
      ret (Some rule) is = is ∙ (asked column.ra rule is).ret refl

      register : (r : CalleeSaved) (o : Option Rule) → rule_in rules (column_of r) ≡ o → FindsKnown facts r (rule_in rules (column_of r))
      register r None is = subst (FindsKnown facts r) (sym is) (lacks_none.registers r is)
      register r (Some rule) is = subst (FindsKnown facts r) (sym is) ((asked (column_of r) rule is).register r refl)

      other : (c : ℕ) → IsFalse (may_have_rule c) → (o : Option Rule) → rule_in rules c ≡ o → rule_in rules c ≡ None
      other c none None is = is
      other c none (Some rule) is = is ∙ (asked c rule is).other none

-- ---- what a row lacks

lacking_other : (known : ClaimedFacts) (r : CalleeSaved) → lacks (known_of known.registers r) None ≡ true → IsOtherRule (facts_of known) (column_of r) None
lacking_other known r is = inr (inl (r, refl, λ finds. unfound (known_found known r None finds)))
  where
    unfound : IsFound (known_of known.registers r) None → ⊥
    unfound (inl (d, slot, is)) = cc
    unfound (inr (kept, unchanged)) = let no : lacks (known_of known.registers r) None ≡ false = rw kept refl in cc

pub lacking_there : (known : ClaimedFacts) (r : CalleeSaved) (rule : Option Rule) → lacks (known_of known.registers r) rule ≡ true → IsOtherRule (facts_of known) (column_of r) rule × (rule ≡ None)
lacking_there known r None is = (lacking_other known r is, refl)
lacking_there known r (Some rule) is = absurd (go (known_of known.registers r).is_kept refl)
  where
    go : (b : Bool) → (known_of known.registers r).is_kept ≡ b → ⊥
    go true kept = let no : lacks (known_of known.registers r) (Some rule) ≡ false = rw kept refl in cc
    go false kept = let no : lacks (known_of known.registers r) (Some rule) ≡ false = rw kept refl in cc

pub kept_found : (known : ClaimedFacts) (r : CalleeSaved) (rule : Option Rule) → lacks (known_of known.registers r) rule ≡ false → rule ≡ None → FindsKnown (facts_of known) r None
kept_found known r rule is none = go (known_of known.registers r).is_kept refl
  where
    go : (b : Bool) → (known_of known.registers r).is_kept ≡ b → FindsKnown (facts_of known) r None
    go true kept = found_known known r None (inr (kept, inl refl))
    go false kept = absurd (let yes : lacks (known_of known.registers r) rule ≡ true = rw (kept, none) refl in cc)

-- where none is lacking, all rules say the facts
pub or_lacking : {X : Type 0} (facts : Facts) (rules : List (ℕ × Rule)) (P : X → Type 0) (o : Option X) → (LacksNone facts rules → RulesSay facts rules) → MatchOption o (LacksNone facts rules) P → MatchOption o (RulesSay facts rules) P
or_lacking facts rules P None all lacks_none = all lacks_none
or_lacking facts rules P (Some c) all other = other

-- ---- a rule that isn't as asked

-- a column is that of the return address or of a callee-saved register, or may have no rule
abbrev Which : ℕ → Type 0
Which c = (c ≡ column.ra) ⊎ (((r : CalleeSaved) × (c ≡ column_of r)) ⊎ (may_have_rule c ≡ false))

which : (c : ℕ) → Which c
which c = go (3 == c) (6 == c) (12 == c) (13 == c) (14 == c) (15 == c) (16 == c) refl refl refl refl refl refl refl
  where
    saved : (r : CalleeSaved) → (column_of r == c) ≡ true → Which c
    saved r e = inr (inl (r, sym (eqb-true (column_of r) c e)))

    go : (b3 b6 b12 b13 b14 b15 b16 : Bool) → (3 == c) ≡ b3 → (6 == c) ≡ b6 → (12 == c) ≡ b12 → (13 == c) ≡ b13 → (14 == c) ≡ b14 → (15 == c) ≡ b15 → (16 == c) ≡ b16 → Which c
    go true _ _ _ _ _ _ e _ _ _ _ _ _ = saved RBX e
    go false true _ _ _ _ _ _ e _ _ _ _ _ = saved RBP e
    go false false true _ _ _ _ _ _ e _ _ _ _ = saved R12 e
    go false false false true _ _ _ _ _ _ e _ _ _ = saved R13 e
    go false false false false true _ _ _ _ _ _ e _ _ = saved R14 e
    go false false false false false true _ _ _ _ _ _ e _ = saved R15 e
    go false false false false false false true _ _ _ _ _ _ e = inl (sym (eqb-true 16 c e))
    go false false false false false false false a b d e f g h = inr (inr (rw (a, b, d, e, f, g, h) refl))

pub other_by : (known : ClaimedFacts) (c : ℕ) (rule : Rule) → (IsAsked (facts_of known) c (Some rule) → ⊥) → IsOtherRule (facts_of known) c (Some rule)
other_by known c rule fails = go (which c)
  where
    go : Which c → IsOtherRule (facts_of known) c (Some rule)
    go (inl at) = inl (at, λ is. fails ((return_asked (facts_of known) c at (Some rule)).0 is))
    go (inr (inl (r, at))) = inr (inl (r, at, λ finds. fails ((register_asked known r c at (Some rule)).0 (known_found known r (Some rule) finds))))
    go (inr (inr none)) = inr (inr (none, λ e. cc))
