-- How many columns have a rule: as many as there are entries.
use Rattle.std.proofs.Common.{◌≡◌, ◌≢◌, ℕ, suc, ◌<◌, ◌≤◌, Bool, true, false, cond, ◌&&◌, ◌||◌, not, List, [], ◌∷◌, ◌++◌, length, Option, Some, None, refl, sym, ap, ◌∙◌, arith}
use Rattle.std.specs.Prelude.{is_some, nat_eq, nat_lt, nat_le, ◌==◌}
use Rattle.std.specs.List.{filter, filter_map, list_any, AllByRecursion, IsDistinct}
use Rattle.std.specs.Option.{unwrap_or}
use Rattle.std.specs.Set.{is_member}
use Rattle.std.specs.Cmp.{nat_eq_equiv}
use Rattle.std.proofs.lemmas.List.Elements.{filter_map-append}
use Rattle.std.proofs.lemmas.List.Folds.{list_any-append}
use Rattle.std.proofs.lemmas.Map.Made.{length-from_same_keys, is_member-filter}
use Rattle.std.proofs.lemmas.Bool.{eqb-true, eqb-false, ltb-true, ltb-false, lt-leb, le-leb}
use Rattle.unwind_definitions.specs.Instructions.{Rule, Instruction, Nop, Remember, Restore, Advance, SetLocation, Write, Reset, Cfa, CfaColumn, CfaOffset, CfaExpression, Arguments}
use Rattle.unwind_definitions.specs.Row.{RowInstructions, last_said, cut_of, Cut, says_of, initial_rule, rule_of, column_named, distinct, columns_with_rules, has_too_many_rules}
use Rattle.frame_rows.specs.Rules.{rule_in, AscendsFrom, is_room}

-- ---- a column that no instruction names has no rule

abbrev names : List Instruction → ℕ → Bool
names is c = is_member nat_eq (filter_map column_named is) c

-- what a cut keeps, and what it keeps after the first restore, says nothing of a column
record Silent (initial : Option Rule) (c : ℕ) (kept : Cut) : Type 0 where
  now : last_said (says_of initial c) kept.kept ≡ None
  later : last_said (says_of initial c) (unwrap_or kept.after []) ≡ None

or_false : (a b : Bool) → (a || b) ≡ false → (a ≡ false) × (b ≡ false)
or_false false b e = (refl, e)
or_false true b e = absurd cc

module _ (initial : Option Rule) (c : ℕ) where
  chosen : (after : Option (List Instruction)) (kept : List Instruction) → last_said (says_of initial c) kept ≡ None → last_said (says_of initial c) (unwrap_or after []) ≡ None → last_said (says_of initial c) (unwrap_or after kept) ≡ None
  chosen None kept now later = now
  chosen (Some b) kept now later = later

  differs : (k : ℕ) → nat_eq c k ≡ false → (k == c) ≡ false
  differs k no_name = go (k == c) refl
    where
      go : (b : Bool) → (k == c) ≡ b → b ≡ false
      go false e = refl
      go true e = absurd (eqb-false c k no_name (sym (eqb-true k c e)))

  silent : (is : List Instruction) → names is c ≡ false → Silent initial c (cut_of is)
  silent [] e = record { now = refl; later = refl }
  silent (Remember ∷ is) e = let ih = silent is e in record { now = chosen (cut_of is).after (cut_of is).kept ih.now ih.later; later = ih.later }
  silent (Restore ∷ is) e = let ih = silent is e in record { now = rw ih.now refl; later = ih.now }
  silent (Write k r ∷ is) e =
      let both = or_false (nat_eq c k) (names is c) e in
      let ih = silent is both.1 in
      record { now = rw (ih.now, differs k both.0) refl; later = ih.later }
  silent (Reset k ∷ is) e =
      let both = or_false (nat_eq c k) (names is c) e in
      let ih = silent is both.1 in
      record { now = rw (ih.now, differs k both.0) refl; later = ih.later }
  silent (Nop ∷ is) e = let ih = silent is e in record { now = rw ih.now refl; later = ih.later }
  silent (Advance n ∷ is) e = let ih = silent is e in record { now = rw ih.now refl; later = ih.later }
  silent (SetLocation n ∷ is) e = let ih = silent is e in record { now = rw ih.now refl; later = ih.later }
  silent (Cfa k n ∷ is) e = let ih = silent is e in record { now = rw ih.now refl; later = ih.later }
  silent (CfaColumn n ∷ is) e = let ih = silent is e in record { now = rw ih.now refl; later = ih.later }
  silent (CfaOffset n ∷ is) e = let ih = silent is e in record { now = rw ih.now refl; later = ih.later }
  silent (CfaExpression n ∷ is) e = let ih = silent is e in record { now = rw ih.now refl; later = ih.later }
  silent (Arguments n ∷ is) e = let ih = silent is e in record { now = rw ih.now refl; later = ih.later }

unnamed : (run : RowInstructions) (c : ℕ) → names (run.common ++ run.own) c ≡ false → rule_of run c ≡ None
unnamed run c e =
    let apart : (names run.common c || names run.own c) ≡ false =
    sym (list_any-append (nat_eq c) (filter_map column_named run.common) (filter_map column_named run.own)) ∙ ap (λ ns. list_any (nat_eq c) ns) (sym (filter_map-append column_named run.common run.own)) ∙ e in
    let both = or_false (names run.common c) (names run.own c) apart in
    let first : initial_rule run c ≡ None = ap (λ o. unwrap_or o None) (silent None c run.common both.0).now in
    ap (λ o. unwrap_or o (initial_rule run c)) (silent (initial_rule run c) c run.own both.1).now ∙ first

-- ---- lists of columns without doubles

all_filter : (P : ℕ → Type 0) (p : ℕ → Bool) (xs : List ℕ) → AllByRecursion P xs → AllByRecursion P (filter p xs)
all_filter P p [] all = tt
all_filter P p (x ∷ xs) all = go (p x) (all_filter P p xs all.1)
  where
    go : (b : Bool) → AllByRecursion P (filter p xs) → AllByRecursion P (cond b (x ∷ filter p xs) (filter p xs))
    go true rest = (all.0, rest)
    go false rest = rest

distinct_filter : (p : ℕ → Bool) (xs : List ℕ) → IsDistinct nat_eq xs → IsDistinct nat_eq (filter p xs)
unfolding IsDistinct
distinct_filter p [] d = tt
distinct_filter p (x ∷ xs) d = go (p x) (distinct_filter p xs d.1)
  where
    go : (b : Bool) → IsDistinct nat_eq (filter p xs) → IsDistinct nat_eq (cond b (x ∷ filter p xs) (filter p xs))
    go true rest = (all_filter (λ y. nat_eq x y ≡ false) p xs d.0, rest)
    go false rest = rest

all_others : (x : ℕ) (xs : List ℕ) → AllByRecursion (λ y. nat_eq x y ≡ false) (filter (λ y. not (y == x)) xs)
all_others x [] = tt
all_others x (y ∷ ys) = go (y == x) refl (all_others x ys)
  where
    go : (b : Bool) → (y == x) ≡ b → AllByRecursion (λ y. nat_eq x y ≡ false) (filter (λ y. not (y == x)) ys) → AllByRecursion (λ y. nat_eq x y ≡ false) (cond (not b) (y ∷ filter (λ y. not (y == x)) ys) (filter (λ y. not (y == x)) ys))
    go true e rest = rest
    go false e rest = (nat_eq_equiv.symm x y ∙ e, rest)

is_distinct : (xs : List ℕ) → IsDistinct nat_eq (distinct xs)
unfolding IsDistinct
is_distinct [] = tt
is_distinct (x ∷ xs) = (all_others x (distinct xs), distinct_filter (λ y. not (y == x)) (distinct xs) (is_distinct xs))

same_members : (xs : List ℕ) (q : ℕ) → is_member nat_eq (distinct xs) q ≡ is_member nat_eq xs q
same_members [] q = refl
same_members (x ∷ xs) q =
    ap (λ b. nat_eq q x || b) (is_member-filter nat_eq_equiv (λ y. not (y == x)) q (λ y e. ap (λ k. not (k == x)) (eqb-true q y e)) (distinct xs) ∙ ap (λ b. b && not (q == x)) (same_members xs q))
    ∙ go (nat_eq q x) (is_member nat_eq xs q)
  where
    go : (b m : Bool) → (b || (m && not b)) ≡ (b || m)
    go true m = refl
    go false true = refl
    go false false = refl

-- ---- entries by ascending column

abbrev columns : List (ℕ × Rule) → List ℕ
columns [] = []
columns (e ∷ es) = e.0 ∷ columns es

length_columns : (es : List (ℕ × Rule)) → length (columns es) ≡ length es
length_columns [] = refl
length_columns (e ∷ es) = ap suc (length_columns es)

all_above : (low c : ℕ) (es : List (ℕ × Rule)) → c < low → AscendsFrom low es → AllByRecursion (λ y. nat_eq c y ≡ false) (columns es)
all_above low c [] lt asc = tt
all_above low c (e ∷ es) lt asc = let h : low ≤ e.0 = asc.0 in (apart c e.0 (λ k. omega arith), all_above (suc e.0) c es (omega arith) asc.1)
  where
    apart : (a b : ℕ) → a ≢ b → nat_eq a b ≡ false
    apart a b ne = go (nat_eq a b) refl
      where
        go : (t : Bool) → nat_eq a b ≡ t → t ≡ false
        go true e = absurd (ne (eqb-true a b e))
        go false e = refl

distinct_columns : (low : ℕ) (es : List (ℕ × Rule)) → AscendsFrom low es → IsDistinct nat_eq (columns es)
unfolding IsDistinct
distinct_columns low [] asc = tt
distinct_columns low (e ∷ es) asc = (all_above (suc e.0) e.0 es (omega arith) asc.1, distinct_columns (suc e.0) es asc.1)

member_columns : (es : List (ℕ × Rule)) (q : ℕ) → is_member nat_eq (columns es) q ≡ is_some (rule_in es q)
member_columns [] q = refl
member_columns (e ∷ es) q = rw (nat_eq_equiv.symm q e.0) (go (nat_eq e.0 q) (member_columns es q))
  where
    go : (b : Bool) → is_member nat_eq (columns es) q ≡ is_some (rule_in es q) → (b || is_member nat_eq (columns es) q) ≡ is_some (cond b (Some e.1) (rule_in es q))
    go true ih = refl
    go false ih = ih

-- ---- the count

member_ruled : (run : RowInstructions) (q : ℕ) → is_member nat_eq (columns_with_rules run) q ≡ is_some (rule_of run q)
member_ruled run q =
    is_member-filter nat_eq_equiv (λ c. is_some (rule_of run c)) q (λ x e. ap (λ k. is_some (rule_of run k)) (eqb-true q x e)) (distinct (filter_map column_named (run.common ++ run.own)))
    ∙ ap (λ b. b && is_some (rule_of run q)) (same_members (filter_map column_named (run.common ++ run.own)) q)
    ∙ go (names (run.common ++ run.own) q) refl
  where
    go : (b : Bool) → names (run.common ++ run.own) q ≡ b → (names (run.common ++ run.own) q && is_some (rule_of run q)) ≡ is_some (rule_of run q)
    go true e = rw e refl
    go false e = rw (e, unnamed run q e) refl

-- As many columns have a rule as there are entries that say the rules.
pub count_ruled : (run : RowInstructions) (es : List (ℕ × Rule)) → AscendsFrom 0 es → ((c : ℕ) → rule_in es c ≡ rule_of run c) → length es ≡ length (columns_with_rules run)
count_ruled run es asc says =
    sym (length_columns es)
    ∙ length-from_same_keys nat_eq_equiv (columns es) (columns_with_rules run) (distinct_columns 0 es asc)
    (distinct_filter (λ c. is_some (rule_of run c)) (distinct (filter_map column_named (run.common ++ run.own))) (is_distinct (filter_map column_named (run.common ++ run.own))))
    (λ q. member_columns es q ∙ ap is_some (says q) ∙ sym (member_ruled run q))

full : (a : Bool) (n m : ℕ) → n ≡ m → not (a || nat_lt n 32) ≡ (not a && nat_le 32 m)
full true n m e = refl
full false n m e = rw e (opposite m)
  where
    opposite : (m : ℕ) → not (nat_lt m 32) ≡ nat_le 32 m
    opposite m = go (nat_lt m 32) refl
      where
        go : (b : Bool) → nat_lt m 32 ≡ b → not b ≡ nat_le 32 m
        go true e = sym (lt-leb 32 m (ltb-true m 32 e))
        go false e = sym (le-leb 32 m (ltb-false m 32 e))

-- A rule for a column is one too many exactly where there is no room.
pub crowded_is : (run : RowInstructions) (es : List (ℕ × Rule)) (c : ℕ) (rule : Rule) → AscendsFrom 0 es → ((c : ℕ) → rule_in es c ≡ rule_of run c) → has_too_many_rules run c (Some rule) ≡ not (is_room c es)
crowded_is run es c rule asc says =
    ap (λ o. not (is_some o) && nat_le 32 (length (columns_with_rules run))) (sym (says c))
    ∙ sym (full (is_some (rule_in es c)) (length es) (length (columns_with_rules run)) (count_ruled run es asc says))
