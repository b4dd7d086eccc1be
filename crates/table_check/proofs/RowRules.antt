-- Rows whose rules are each one of a frame, and what those rules leave out.
use Rattle.std.proofs.Common.{◌≡◌, ℕ, suc, ◌^◌, ◌≤◌, Bool, true, false, cond, List, [], ◌∷◌, Option, Some, None, refl, sym, ap, subst, ◌∙◌, inl, inr, arith}
use Rattle.std.specs.Prelude.{◌⊎◌, ◌||◌, ◌==◌, IfSome, is_some}
use Rattle.std.specs.Bool.{Decides}
use Rattle.std.specs.List.{AllByRecursion}
use Rattle.std.specs.Option.{option_map}
use Rattle.std.proofs.lemmas.Bool.{eqb-true}
use Rattle.unwind_definitions.specs.Columns as column
use Rattle.unwind_definitions.specs.Instructions.{Rule, Offset, SameValue, Undefined}
use Rattle.unwind_definitions.specs.State.{CalleeSaved, RBX, RBP, R12, R13, R14, R15, column_of}
use Rattle.unwind_definitions.specs.Prologue.{Step, distance, frame_depth}
use Rattle.unwind_definitions.specs.Row.{ColumnAndOffset}
use Rattle.unwind_definitions.specs.DescribedRows.{FindsRegister, IsUnchanged, MayFindLate, cfa_after, may_have_rule, negative}
use Rattle.frame_rows.specs.RowValue.{RowValue}
use Rattle.frame_rows.specs.Rules.{AscendsFrom, rule_in}
use Rattle.table_check.specs.declared.frame_rules.RuledRegisters.{RuledRegisters}
use Rattle.table_check.specs.declared.prologue.FrameSoFar.{FrameSoFar}
use Rattle.table_check.specs.Frames.{IsAboutOption, IsFrameAfter, slot_of}
use Rattle.table_check.specs.FrameRows.{HasNoOthers, IsBodyValue, IsFrameRow, IsOutermostValue, IsPrologueValue}
use Rattle.table_check.specs.FrameRules.{FitsRule, IsFound, IsKeptRule, has_rule}
use Rattle.table_check.proofs.Deciding.{decides_as}
use Rattle.table_check.proofs.FrameSteps.{none_about}
use Rattle.table_check.proofs.RuleEntries.{none_more, rule_here, rule_later}

-- ---- columns

pub column_same : (r q : CalleeSaved) → column_of r ≡ column_of q → r ≡ q
column_same RBX RBX is = refl
column_same RBP RBP is = refl
column_same R12 R12 is = refl
column_same R13 R13 is = refl
column_same R14 R14 is = refl
column_same R15 R15 is = refl
column_same _ _ is = absurd (omega arith)

pub column_known : (r : CalleeSaved) → may_have_rule (column_of r) ≡ true
column_known RBX = refl
column_known RBP = refl
column_known R12 = refl
column_known R13 = refl
column_known R14 = refl
column_known R15 = refl

column_other : (r : CalleeSaved) → column_of r ≡ column.ra → ⊥
column_other RBX is = omega arith
column_other RBP is = omega arith
column_other R12 is = omega arith
column_other R13 is = omega arith
column_other R14 is = omega arith
column_other R15 is = omega arith

-- ---- one rule

module _ (frame : FrameSoFar) (ret : Rule) (rule : Rule) (b : Bool) where
  pub fits_saved : (c : ℕ) (r : CalleeSaved) → c ≡ column_of r → Decides b (IsKeptRule (slot_of r frame) rule) → Decides b (FitsRule frame ret (c, rule))
  fits_saved c r at = decides_as b
      (λ kept. record {
        known = ap may_have_rule at ∙ column_known r;
        saved = λ q is. subst (λ x. IsKeptRule (slot_of x frame) rule) (column_same r q (sym at ∙ is)) kept;
        ret = λ is. absurd (column_other r (sym at ∙ is));
      })
      (λ fits. fits.saved r at)

  pub fits_return : (c : ℕ) → c ≡ column.ra → Decides b (rule ≡ ret) → Decides b (FitsRule frame ret (c, rule))
  fits_return c at = decides_as b
      (λ same. record {
        known = ap may_have_rule at;
        saved = λ q is. absurd (column_other q (sym is ∙ at));
        ret = λ is. same;
      })
      (λ fits. fits.ret at)

-- ---- one rule more

pub has_more : (e : ℕ × Rule) (es : List (ℕ × Rule)) (h : Bool) (c : ℕ) → ((h || (e.0 == c)) || is_some (rule_in es c)) ≡ (h || is_some (rule_in (e ∷ es) c))
has_more e es true c = refl
has_more e es false c = here (e.0 == c) refl
  where
    here : (b : Bool) → (e.0 == c) ≡ b → ((false || (e.0 == c)) || is_some (rule_in es c)) ≡ (false || is_some (rule_in (e ∷ es) c))
    here true is = rw is refl
    here false is = rw is refl

-- ---- all rules

module _ (frame : FrameSoFar) (ret : Rule) where
  pub no_others : (es : List (ℕ × Rule)) → AllByRecursion (FitsRule frame ret) es → HasNoOthers es
  no_others [] all = λ c other. refl
  no_others (e ∷ es) all = none_more e es all.0.known (no_others es all.1)

  -- what holds of each rule of a column holds of the column's
  of_column : (P : Rule → Type 0) (c : ℕ) → ((e : ℕ × Rule) → e.0 ≡ c → FitsRule frame ret e → P e.1) → (es : List (ℕ × Rule)) → AllByRecursion (FitsRule frame ret) es → IfSome (rule_in es c) P
  of_column P c each [] all = tt
  of_column P c each (e ∷ es) all = here (of_column P c each es all.1) (e.0 == c) refl
    where
      here : IfSome (rule_in es c) P → (b : Bool) → (e.0 == c) ≡ b → IfSome (rule_in (e ∷ es) c) P
      here rest true is = let at = eqb-true e.0 c is in subst (λ o. IfSome o P) (sym (rule_here e es c at)) (each e at all.0)
      here rest false is = subst (λ o. IfSome o P) (ap (λ b. cond b (Some e.1) (rule_in es c)) (sym is)) rest

  pub kept_in : (es : List (ℕ × Rule)) → AllByRecursion (FitsRule frame ret) es → (r : CalleeSaved) → IfSome (rule_in es (column_of r)) (IsKeptRule (slot_of r frame))
  kept_in es all r = of_column (IsKeptRule (slot_of r frame)) (column_of r) (λ e at fits. fits.saved r at) es all

  pub return_in : (es : List (ℕ × Rule)) → AllByRecursion (FitsRule frame ret) es → IfSome (rule_in es column.ra) (λ rule. rule ≡ ret)
  return_in es all = of_column (λ rule. rule ≡ ret) column.ra (λ e at fits. fits.ret at) es all

-- a rule that a column has is of no column before those that ascend
above : (es : List (ℕ × Rule)) (low c : ℕ) (rule : Rule) → AscendsFrom low es → rule_in es c ≡ Some rule → low ≤ c
above [] low c rule up is = absurd (let h : None ≡ Some rule = is in cc)
above (e ∷ es) low c rule up is = here (above es (suc e.0) c rule up.1) (e.0 == c) refl
  where
    here : (rule_in es c ≡ Some rule → suc e.0 ≤ c) → (b : Bool) → (e.0 == c) ≡ b → low ≤ c
    here rest true at = let same = eqb-true e.0 c at in let first = up.0 in omega (arith, same, first)
    here rest false at = let later = rest (ap (λ b. cond b (Some e.1) (rule_in es c)) (sym at) ∙ is) in let first = up.0 in omega (arith, later, first)

-- what holds of the rule of each column holds of each rule
pub each_rule : (P : ℕ × Rule → Type 0) (es : List (ℕ × Rule)) (low : ℕ) → AscendsFrom low es → ((c : ℕ) (rule : Rule) → rule_in es c ≡ Some rule → P (c, rule)) → AllByRecursion P es
each_rule P [] low up each = tt
each_rule P (e ∷ es) low up each = (
  each e.0 e.1 (rule_here e es e.0 refl),
  each_rule P es (suc e.0) up.1 (λ c rule is. each c rule (rule_later e es c (λ same. let high = above es (suc e.0) c rule up.1 is in omega (arith, same, high)) ∙ is)),
)

of_some : {A : Type 0} (P : A → Type 0) (o : Option A) (x : A) → o ≡ Some x → IfSome o P → P x
of_some P None x is if = absurd cc
of_some P (Some y) x is if = let same : y ≡ x = cc in subst P same if

pub all_fit : (frame : FrameSoFar) (ret : Rule) (es : List (ℕ × Rule)) → AscendsFrom 0 es → HasNoOthers es → ((r : CalleeSaved) → IfSome (rule_in es (column_of r)) (IsKeptRule (slot_of r frame))) → IfSome (rule_in es column.ra) (λ rule. rule ≡ ret) → AllByRecursion (FitsRule frame ret) es
all_fit frame ret es up others kept returns = each_rule (FitsRule frame ret) es 0 up (λ c rule is. record {
  known = known c rule is (may_have_rule c) refl;
  saved = λ r at. of_some (IsKeptRule (slot_of r frame)) (rule_in es (column_of r)) rule (ap (rule_in es) (sym at) ∙ is) (kept r);
  ret = λ at. of_some (λ x. x ≡ ret) (rule_in es column.ra) rule (ap (rule_in es) (sym at) ∙ is) returns;
})
  where
    known : (c : ℕ) (rule : Rule) → rule_in es c ≡ Some rule → (b : Bool) → may_have_rule c ≡ b → may_have_rule c ≡ true
    known c rule is true at = at
    known c rule is false at = absurd (let h : None ≡ Some rule = sym (others c at) ∙ is in cc)

-- ---- a register's rule beside where it is saved

pub found_finds : (d : Option ℕ) (o : Option Rule) → IfSome o (IsKeptRule (option_map negative d)) → (is_some o ≡ true) ⊎ (option_map negative d ≡ None) → FindsRegister d o
found_finds None None kept found = inl refl
found_finds None (Some rule) kept found = inr (ap Some kept)
found_finds (Some n) None kept (inl some) = absurd cc
found_finds (Some n) None kept (inr none) = absurd cc
found_finds (Some n) (Some rule) kept found = ap Some kept

pub finds_kept : (d : Option ℕ) (o : Option Rule) → FindsRegister d o → IfSome o (IsKeptRule (option_map negative d))
finds_kept None None finds = tt
finds_kept None (Some rule) (inl none) = absurd cc
finds_kept None (Some rule) (inr same) = let h : rule ≡ SameValue = cc in h
finds_kept (Some n) None finds = absurd cc
finds_kept (Some n) (Some rule) finds = let h : rule ≡ Offset (negative n) = cc in h

pub finds_found : (d : Option ℕ) (o : Option Rule) → FindsRegister d o → (is_some o ≡ true) ⊎ (option_map negative d ≡ None)
finds_found None o finds = inr refl
finds_found (Some n) None finds = absurd cc
finds_found (Some n) (Some rule) finds = inl refl

pub late_finds : (r : CalleeSaved) (steps : List Step) (o : Option Rule) → IfSome o (IsKeptRule (option_map negative (distance r steps))) → (r ≡ RBP → (frame_depth steps ≡ None) ⊎ ((is_some o ≡ true) ⊎ (option_map negative (distance r steps) ≡ None))) → MayFindLate r steps o
late_finds r steps o kept late = go (distance r steps) refl o refl
  where
    go : (d : Option ℕ) → distance r steps ≡ d → (p : Option Rule) → o ≡ p → MayFindLate r steps o
    go None at p is = inl (found_finds (distance r steps) o kept (inr (ap (option_map negative) at)))
    go (Some n) at (Some rule) is = inl (found_finds (distance r steps) o kept (inl (ap is_some is)))
    go (Some n) at None is = inr (is, λ same. first (late same))
      where
        first : (frame_depth steps ≡ None) ⊎ ((is_some o ≡ true) ⊎ (option_map negative (distance r steps) ≡ None)) → frame_depth steps ≡ None
        first (inl none) = none
        first (inr (inl some)) = absurd (let h : true ≡ false = sym some ∙ ap is_some is in cc)
        first (inr (inr none)) = absurd (let h : Some (negative n) ≡ None = sym (ap (option_map negative) at) ∙ none in cc)

pub late_kept : (r : CalleeSaved) (steps : List Step) (o : Option Rule) → MayFindLate r steps o → IfSome o (IsKeptRule (option_map negative (distance r steps)))
late_kept r steps o (inl finds) = finds_kept (distance r steps) o finds
late_kept r steps o (inr late) = subst (λ p. IfSome p (IsKeptRule (option_map negative (distance r steps)))) (sym late.0) tt

-- ---- the rows of a frame

about_unset : (high : ℕ) (a o : Option ℕ) → IsAboutOption high a o → o ≡ None → a ≡ None
about_unset high None o about is = refl
about_unset high (Some k) None about is = absurd about
about_unset high (Some k) (Some n) about is = absurd cc

is_there : (o : Option Rule) (rule : Rule) → is_some o ≡ true → IfSome o (λ x. x ≡ rule) → o ≡ Some rule
is_there None rule some if = absurd cc
is_there (Some x) rule some if = ap Some if

there_is : (o : Option Rule) (rule : Rule) → o ≡ Some rule → IfSome o (λ x. x ≡ rule)
there_is None rule is = tt
there_is (Some x) rule is = let h : x ≡ rule = cc in h

-- what each row of a frame has lets its rules be ones of the frame
module _ (frame : FrameSoFar) (steps : List Step) (was : IsFrameAfter frame steps) (row : RowValue) (up : AscendsFrom 0 row.rules) where
  kept_as : (o : Option Rule) (r : CalleeSaved) → IfSome o (IsKeptRule (option_map negative (distance r steps))) → IfSome o (IsKeptRule (slot_of r frame))
  kept_as o r kept = subst (λ s. IfSome o (IsKeptRule s)) (sym (was.saved r)) kept

  pub body_fits : IsBodyValue steps row → AllByRecursion (FitsRule frame (Offset (negative 8))) row.rules
  body_fits v = all_fit frame (Offset (negative 8)) row.rules up v.frame.others (λ r. kept_as (rule_in row.rules (column_of r)) r (finds_kept (distance r steps) (rule_in row.rules (column_of r)) (v.saved r)))
      (there_is (rule_in row.rules column.ra) (Offset (negative 8)) v.frame.ret)

  pub prologue_fits : IsPrologueValue steps row → AllByRecursion (FitsRule frame (Offset (negative 8))) row.rules
  prologue_fits v = all_fit frame (Offset (negative 8)) row.rules up v.frame.others (λ r. kept_as (rule_in row.rules (column_of r)) r (late_kept r steps (rule_in row.rules (column_of r)) (v.saved r)))
      (there_is (rule_in row.rules column.ra) (Offset (negative 8)) v.frame.ret)

  module _ (ruled : RuledRegisters) (has : (r : CalleeSaved) → has_rule r ruled ≡ is_some (rule_in row.rules (column_of r))) (returns : ruled.return_address ≡ is_some (rule_in row.rules column.ra)) where
    -- in the words of the steps
    as_found : (r : CalleeSaved) → IsFound frame ruled r → (is_some (rule_in row.rules (column_of r)) ≡ true) ⊎ (option_map negative (distance r steps) ≡ None)
    as_found r (inl is) = inl (sym (has r) ∙ is)
    as_found r (inr none) = inr (sym (was.saved r) ∙ none)

    found_as : (r : CalleeSaved) → (is_some (rule_in row.rules (column_of r)) ≡ true) ⊎ (option_map negative (distance r steps) ≡ None) → IsFound frame ruled r
    found_as r (inl some) = inl (has r ∙ some)
    found_as r (inr none) = inr (was.saved r ∙ none)

    module _ (all : AllByRecursion (FitsRule frame (Offset (negative 8))) row.rules) (cfa : row.cfa ≡ cfa_after steps) (arguments : row.saved_args_size ≡ 0) where
      kept_steps : (r : CalleeSaved) → IfSome (rule_in row.rules (column_of r)) (IsKeptRule (option_map negative (distance r steps)))
      kept_steps r = subst (λ s. IfSome (rule_in row.rules (column_of r)) (IsKeptRule s)) (was.saved r) (kept_in frame (Offset (negative 8)) row.rules all r)

      frame_row : ruled.return_address ≡ true → IsFrameRow steps row
      frame_row there = record {
        cfa = cfa;
        ret = is_there (rule_in row.rules column.ra) (Offset (negative 8)) (sym returns ∙ there) (return_in frame (Offset (negative 8)) row.rules all);
        arguments = arguments;
        others = no_others frame (Offset (negative 8)) row.rules all;
      }

      pub body_value : (ruled.return_address ≡ true) × ((r : CalleeSaved) → IsFound frame ruled r) → IsBodyValue steps row
      body_value found = record {
        frame = frame_row found.0;
        saved = λ r. found_finds (distance r steps) (rule_in row.rules (column_of r)) (kept_steps r) (as_found r (found.1 r));
      }

      pub prologue_value : (ruled.return_address ≡ true) × ((frame.frame_depth ≡ None) ⊎ IsFound frame ruled RBP) → IsPrologueValue steps row
      prologue_value found = record {
        frame = frame_row found.0;
        saved = λ r. late_finds r steps (rule_in row.rules (column_of r)) (kept_steps r) (λ same. set r same found.1);
      }
        where
          set : (r : CalleeSaved) → r ≡ RBP → (frame.frame_depth ≡ None) ⊎ IsFound frame ruled RBP → (frame_depth steps ≡ None) ⊎ ((is_some (rule_in row.rules (column_of r)) ≡ true) ⊎ (option_map negative (distance r steps) ≡ None))
          set r same (inl none) = inl (none_about (2 ^ 100) frame.frame_depth (frame_depth steps) was.set none)
          set r same (inr found) = inr (as_found r (subst (IsFound frame ruled) (sym same) found))

    pub body_found : IsBodyValue steps row → (ruled.return_address ≡ true) × ((r : CalleeSaved) → IsFound frame ruled r)
    body_found v = (returns ∙ ap is_some v.frame.ret, λ r. found_as r (finds_found (distance r steps) (rule_in row.rules (column_of r)) (v.saved r)))

    pub prologue_found : IsPrologueValue steps row → (ruled.return_address ≡ true) × ((frame.frame_depth ≡ None) ⊎ IsFound frame ruled RBP)
    prologue_found v = (returns ∙ ap is_some v.frame.ret, late (v.saved RBP))
      where
        late : MayFindLate RBP steps (rule_in row.rules (column_of RBP)) → (frame.frame_depth ≡ None) ⊎ IsFound frame ruled RBP
        late (inl finds) = inr (found_as RBP (finds_found (distance RBP steps) (rule_in row.rules (column_of RBP)) finds))
        late (inr none) = inl (about_unset (2 ^ 100) frame.frame_depth (frame_depth steps) was.set (none.1 refl))

-- ---- the row of an outermost frame

module _ (frame : FrameSoFar) (was : IsFrameAfter frame []) (row : RowValue) (up : AscendsFrom 0 row.rules) where
  unsaved_slot : (r : CalleeSaved) → slot_of r frame ≡ None
  unsaved_slot r = was.saved r

  unchanged : (o : Option Rule) → IfSome o (IsKeptRule None) → IsUnchanged o
  unchanged None kept = inl refl
  unchanged (Some rule) kept = inr (ap Some kept)

  kept_unchanged : (o : Option Rule) → IsUnchanged o → IfSome o (IsKeptRule None)
  kept_unchanged None is = tt
  kept_unchanged (Some rule) (inl none) = absurd cc
  kept_unchanged (Some rule) (inr same) = let h : rule ≡ SameValue = cc in h

  pub outermost_fits : IsOutermostValue row → AllByRecursion (FitsRule frame Undefined) row.rules
  outermost_fits v = all_fit frame Undefined row.rules up v.others (λ r. subst (λ s. IfSome (rule_in row.rules (column_of r)) (IsKeptRule s)) (sym (unsaved_slot r)) (kept_unchanged (rule_in row.rules (column_of r)) (v.saved r)))
      (there_is (rule_in row.rules column.ra) Undefined v.ret)

  pub outermost_value : AllByRecursion (FitsRule frame Undefined) row.rules → row.cfa ≡ ColumnAndOffset column.rsp 8 → row.saved_args_size ≡ 0 → is_some (rule_in row.rules column.ra) ≡ true → IsOutermostValue row
  outermost_value all cfa arguments there = record {
    cfa = cfa;
    ret = is_there (rule_in row.rules column.ra) Undefined there (return_in frame Undefined row.rules all);
    arguments = arguments;
    others = no_others frame Undefined row.rules all;
    saved = λ r. unchanged (rule_in row.rules (column_of r)) (subst (λ s. IfSome (rule_in row.rules (column_of r)) (IsKeptRule s)) (unsaved_slot r) (kept_in frame Undefined row.rules all r));
  }
