-- Where a column's entry stands, and what an edit there says of each column.
use Rattle.std.proofs.Common.{◌≡◌, ◌≢◌, ℕ, zero, suc, ◌+◌, ◌^◌, ◌<◌, ◌≤◌, Bool, true, false, cond, List, [], ◌∷◌, length, length-set, set, map, get_or, Option, Some, None, Result, Ok, Err, refl, sym, ap, ◌∙◌, subst, arith, eq-eqb}
use Rattle.std.specs.Prelude.{is_some, nat_lt, ◌==◌}
use Rattle.std.specs.List.{insert, remove, refill}
use Rattle.std.proofs.lemmas.Bool.{lt-ltb, ltb-true, ltb-false, eqb-true, eqb-false}
use Rattle.arrayvec.proofs.ArrayVecLemmas.{items-with_items}
use Rattle.unwind_definitions.specs.Instructions.{Rule}
use Rattle.std.proofs.lemmas.List.{length-map, map-set}
use Rattle.std.proofs.Math.ListN.{get_or-map}
use Rattle.unwind_arch.specs.declared.register.Register.{Register}
use Rattle.frame_rows.specs.declared.rule.RegisterRule.{RegisterRule}
use Rattle.frame_rows.specs.Rules.{entry_of, rule_meaning, rule_in, find_in, with_rule, AscendsFrom, is_room}

pub ascends_weaker : (low low' : ℕ) (es : List (ℕ × Rule)) → low' ≤ low → AscendsFrom low es → AscendsFrom low' es
ascends_weaker low low' [] le asc = omega arith
ascends_weaker low low' (e ∷ es) le asc = let h : low ≤ e.0 = asc.0 in (omega arith, asc.1)

differ : (a b : ℕ) → a ≢ b → (a == b) ≡ false
differ a b ne = go (a == b) refl
  where
    go : (t : Bool) → (a == b) ≡ t → t ≡ false
    go true e = absurd (ne (eqb-true a b e))
    go false e = refl

above : (a b : ℕ) → a ≤ b → (b ≡ a → ⊥) → suc a ≤ b
above a b le ne = omega (arith, ne)

-- a column below all has no rule
pub below_all : (low c : ℕ) (es : List (ℕ × Rule)) → c < low → AscendsFrom low es → rule_in es c ≡ None
below_all low c [] lt asc = refl
below_all low c (e ∷ es) lt asc =
    let h : low ≤ e.0 = asc.0 in
    let other : (e.0 == c) ≡ false = differ e.0 c (λ same. omega arith) in
    rw other (below_all (suc e.0) c es (omega arith) asc.1)

-- what holds of the place of a column's entry
pub record FoundAt (c low : ℕ) (es : List (ℕ × Rule)) (j : ℕ) : Type 0 where
  pub within : j < length es
  pub has : is_some (rule_in es c) ≡ true
  pub at : (d : ℕ × Rule) → rule_in es c ≡ Some (get_or es j d).1
  pub set_says : (rule : Rule) (q : ℕ) → rule_in (set es j (c, rule)) q ≡ with_rule c (Some rule) es q
  pub set_ascends : (rule : Rule) → AscendsFrom low (set es j (c, rule))
  pub removed_says : (q : ℕ) → rule_in (remove es j) q ≡ with_rule c None es q
  pub removed_ascends : AscendsFrom low (remove es j)

-- what holds of the place where an entry of a column can be put
pub record PlaceAt (c low : ℕ) (es : List (ℕ × Rule)) (j : ℕ) : Type 0 where
  pub within : j ≤ length es
  pub none : rule_in es c ≡ None
  pub says : (rule : Rule) (q : ℕ) → rule_in (insert es j (c, rule)) q ≡ with_rule c (Some rule) es q
  pub ascends : (rule : Rule) → low ≤ c → c < 2 ^ 16 → AscendsFrom low (insert es j (c, rule))

abbrev pub Places : (c low k : ℕ) (es : List (ℕ × Rule)) → Result ℕ ℕ → Type 0
Places c low k es (Ok i) = (j : ℕ) × (i ≡ k + j) × FoundAt c low es j
Places c low k es (Err i) = (j : ℕ) × (i ≡ k + j) × PlaceAt c low es j

module _ (c : ℕ) where
  -- the entry itself
  here : (low : ℕ) (e : ℕ × Rule) (es : List (ℕ × Rule)) → AscendsFrom low (e ∷ es) → e.0 ≡ c → FoundAt c low (e ∷ es) zero
  here low e es asc same =
      let is : (e.0 == c) ≡ true = eq-eqb e.0 c same in
      let itself : (c == c) ≡ true = eq-eqb c c refl in
      let from : low ≤ c = rw same at asc.0 in
      let later : AscendsFrom (suc c) es = rw same at asc.1 in
      let gone : rule_in es c ≡ None = below_all (suc e.0) c es (omega arith) asc.1 in
      record {
        within = omega arith;
        has = rw is refl;
        at = λ d. rw is refl;
        set_says = λ rule q. replaced e es same q rule (c == q) refl;
        set_ascends = λ rule. (from, later);
        removed_says = λ q. removed e es same gone q (c == q) refl;
        removed_ascends = ascends_weaker (suc e.0) low es (let h : low ≤ e.0 = asc.0 in omega arith) asc.1;
      }
    where
      replaced : (e : ℕ × Rule) (es : List (ℕ × Rule)) → e.0 ≡ c → (q : ℕ) (rule : Rule) (b : Bool) → (c == q) ≡ b → cond (c == q) (Some rule) (rule_in es q) ≡ cond (c == q) (Some rule) (cond (e.0 == q) (Some e.1) (rule_in es q))
      replaced e es same q rule true is = rw is refl
      replaced e es same q rule false is = rw (same, is) refl

      removed : (e : ℕ × Rule) (es : List (ℕ × Rule)) → e.0 ≡ c → rule_in es c ≡ None → (q : ℕ) (b : Bool) → (c == q) ≡ b → rule_in es q ≡ cond (c == q) None (cond (e.0 == q) (Some e.1) (rule_in es q))
      removed e es same gone q true is = let eq : c ≡ q = eqb-true c q is in rw is (rw eq at gone)
      removed e es same gone q false is = rw (same, is) refl

  -- a place before all entries
  before : (low : ℕ) (es : List (ℕ × Rule)) → AscendsFrom (suc c) es → AscendsFrom low es → PlaceAt c low es zero
  before low es later asc = record {
    within = omega arith;
    none = below_all (suc c) c es (omega arith) later;
    says = λ rule q. refl;
    ascends = λ rule from fits. (from, later);
  }

  -- after a lower entry
  after : (rule r o : Option Rule) (e : ℕ × Rule) (q : ℕ) → e.0 < c → r ≡ cond (c == q) rule o → cond (e.0 == q) (Some e.1) r ≡ cond (c == q) rule (cond (e.0 == q) (Some e.1) o)
  after rule r o e q lt is = go (e.0 == q) refl
    where
      go : (b : Bool) → (e.0 == q) ≡ b → cond (e.0 == q) (Some e.1) r ≡ cond (c == q) rule (cond (e.0 == q) (Some e.1) o)
      go true same = let eq : e.0 ≡ q = eqb-true e.0 q same in let other : (c == q) ≡ false = differ c q (λ k. omega arith) in rw (same, other) refl
      go false differs = rw differs is

  found_after : (low j : ℕ) (e : ℕ × Rule) (es : List (ℕ × Rule)) → low ≤ e.0 → e.0 < c → FoundAt c (suc e.0) es j → FoundAt c low (e ∷ es) (suc j)
  found_after low j e es from lt f =
      let other : (e.0 == c) ≡ false = differ e.0 c (λ k. omega arith) in
      record {
        within = let h = f.within in omega arith;
        has = rw other f.has;
        at = λ d. rw other (f.at d);
        set_says = λ rule q. after (Some rule) _ _ e q lt (f.set_says rule q);
        set_ascends = λ rule. (from, f.set_ascends rule);
        removed_says = λ q. after None _ _ e q lt (f.removed_says q);
        removed_ascends = (from, f.removed_ascends);
      }

  place_after : (low j : ℕ) (e : ℕ × Rule) (es : List (ℕ × Rule)) → low ≤ e.0 → e.0 < c → PlaceAt c (suc e.0) es j → PlaceAt c low (e ∷ es) (suc j)
  place_after low j e es from lt p =
      let other : (e.0 == c) ≡ false = differ e.0 c (λ k. omega arith) in
      record {
        within = let h = p.within in omega arith;
        none = rw other p.none;
        says = λ rule q. after (Some rule) _ _ e q lt (p.says rule q);
        ascends = λ rule above fits. (from, p.ascends rule (omega arith) fits);
      }

  moved : (low k : ℕ) (e : ℕ × Rule) (es : List (ℕ × Rule)) (r : Result ℕ ℕ) → low ≤ e.0 → e.0 < c → Places c (suc e.0) (k + 1) es r → Places c low k (e ∷ es) r
  moved low k e es (Ok i) from lt p = let h = p.1 in (suc p.0, omega arith, found_after low p.0 e es from lt p.2)
  moved low k e es (Err i) from lt p = let h = p.1 in (suc p.0, omega arith, place_after low p.0 e es from lt p.2)

  pub places : (low k : ℕ) (es : List (ℕ × Rule)) → AscendsFrom low es → Places c low k es (find_in c k es)
  places low k [] asc = (0, omega arith, record { within = omega arith; none = refl; says = λ rule q. refl; ascends = λ rule from fits. (from, omega arith) })
  places low k (e ∷ es) asc = at_head (λ lt. moved low k e es (find_in c (k + 1) es) asc.0 lt (places (suc e.0) (k + 1) es asc.1)) (nat_lt e.0 c) refl (e.0 == c) refl
    where
      at_head : (e.0 < c → Places c low k (e ∷ es) (find_in c (k + 1) es)) → (b : Bool) → nat_lt e.0 c ≡ b → (b' : Bool) → (e.0 == c) ≡ b' → Places c low k (e ∷ es) (cond (nat_lt e.0 c) (find_in c (k + 1) es) (cond (e.0 == c) (Ok k) (Err k)))
      at_head further true is b' is' = rw is (further (ltb-true e.0 c is))
      at_head further false is true is' = rw (is, is') (0, omega arith, here low e es asc (eqb-true e.0 c is'))
      at_head further false is false is' =
          let le : c ≤ e.0 = ltb-false e.0 c is in
          let lt : suc c ≤ e.0 = above c e.0 le (eqb-false e.0 c is') in
          rw (is, is') (0, omega arith, before low (e ∷ es) (lt, asc.1) asc)

  pub found : (es : List (ℕ × Rule)) (i : ℕ) → AscendsFrom 0 es → find_in c 0 es ≡ Ok i → FoundAt c 0 es i
  found es i asc is = let p : Places c 0 0 es (Ok i) = rw is at (places 0 0 es asc) in let e : p.0 ≡ i = let h = p.1 in omega arith in rw e at p.2

  pub place : (es : List (ℕ × Rule)) (i : ℕ) → AscendsFrom 0 es → find_in c 0 es ≡ Err i → PlaceAt c 0 es i
  place es i asc is = let p : Places c 0 0 es (Err i) = rw is at (places 0 0 es asc) in let e : p.0 ≡ i = let h = p.1 in omega arith in rw e at p.2

module _ {A B : Type 0} (f : A → B) where
  pub map-insert : (xs : List A) (i : ℕ) (x : A) → map f (insert xs i x) ≡ insert (map f xs) i (f x)
  map-insert [] zero x = refl
  map-insert [] (suc i) x = refl
  map-insert (y ∷ ys) zero x = refl
  map-insert (y ∷ ys) (suc i) x = ap (λ l. f y ∷ l) (map-insert ys i x)

  pub map-remove : (xs : List A) (i : ℕ) → map f (remove xs i) ≡ remove (map f xs) i
  map-remove [] zero = refl
  map-remove [] (suc i) = refl
  map-remove (y ∷ ys) zero = refl
  map-remove (y ∷ ys) (suc i) = ap (λ l. f y ∷ l) (map-remove ys i)

-- the same over the entries that the code holds
module _ (r : Register) (items : List (Register × RegisterRule)) (i : ℕ) (asc : AscendsFrom 0 (map entry_of items)) where
  pub record Found : Type 0 where
    pub within : i < length items
    pub has : is_some (rule_in (map entry_of items) r.0) ≡ true
    pub at : (d : Register × RegisterRule) → rule_in (map entry_of items) r.0 ≡ Some (rule_meaning (get_or items i d).1)
    pub set_says : (rule : RegisterRule) (q : ℕ) → rule_in (map entry_of (set items i (r, rule))) q ≡ with_rule r.0 (Some (rule_meaning rule)) (map entry_of items) q
    pub set_ascends : (rule : RegisterRule) → AscendsFrom 0 (map entry_of (set items i (r, rule)))
    pub removed_says : (q : ℕ) → rule_in (map entry_of (remove items i)) q ≡ with_rule r.0 None (map entry_of items) q
    pub removed_ascends : AscendsFrom 0 (map entry_of (remove items i))

  pub found_entry : find_in r.0 0 (map entry_of items) ≡ Ok i → Found
  found_entry is =
      let f = found r.0 (map entry_of items) i asc is in
      let n = length-map items entry_of in
      let inside : i < length items = let w = f.within in omega arith in
      record {
        within = inside;
        has = f.has;
        at = λ d. f.at (entry_of d) ∙ ap (λ (e : ℕ × Rule). let o : Option Rule = Some e.1 in o) (get_or-map entry_of items i d);
        set_says = λ rule q. ap (λ l. rule_in l q) (map-set entry_of items i (r, rule)) ∙ f.set_says (rule_meaning rule) q;
        set_ascends = λ rule. subst (AscendsFrom 0) (sym (map-set entry_of items i (r, rule))) (f.set_ascends (rule_meaning rule));
        removed_says = λ q. ap (λ l. rule_in l q) (map-remove entry_of items i) ∙ f.removed_says q;
        removed_ascends = subst (AscendsFrom 0) (sym (map-remove entry_of items i)) f.removed_ascends;
      }

  pub record Placed : Type 0 where
    pub within : i ≤ length items
    pub none : rule_in (map entry_of items) r.0 ≡ None
    pub says : (rule : RegisterRule) (q : ℕ) → rule_in (map entry_of (insert items i (r, rule))) q ≡ with_rule r.0 (Some (rule_meaning rule)) (map entry_of items) q
    pub ascends : (rule : RegisterRule) → r.0 < 2 ^ 16 → AscendsFrom 0 (map entry_of (insert items i (r, rule)))

  pub placed_entry : find_in r.0 0 (map entry_of items) ≡ Err i → Placed
  placed_entry is =
      let p = place r.0 (map entry_of items) i asc is in
      let n = length-map items entry_of in
      record {
        within = let w = p.within in omega arith;
        none = p.none;
        says = λ rule q. ap (λ l. rule_in l q) (map-insert entry_of items i (r, rule)) ∙ p.says (rule_meaning rule) q;
        ascends = λ rule fits. subst (AscendsFrom 0) (sym (map-insert entry_of items i (r, rule))) (p.ascends (rule_meaning rule) (omega arith) fits);
      }

  pub found_by : (self : List (ℕ × Rule)) (result : Result ℕ ℕ) → map entry_of items ≡ self → result ≡ find_in r.0 0 self → result ≡ Ok i → Found
  found_by self result view says is = found_entry (ap (find_in r.0 0) view ∙ sym says ∙ is)

  pub placed_by : (self : List (ℕ × Rule)) (result : Result ℕ ℕ) → map entry_of items ≡ self → result ≡ find_in r.0 0 self → result ≡ Err i → Placed
  placed_by self result view says is = placed_entry (ap (find_in r.0 0) view ∙ sym says ∙ is)

pub has_room : (column : ℕ) (es : List (ℕ × Rule)) → is_some (rule_in es column) ≡ true → is_room column es ≡ true
has_room column es has = rw has refl

pub no_room : (column : ℕ) (es : List (ℕ × Rule)) → rule_in es column ≡ None → length es ≡ 32 → is_room column es ≡ false
no_room column es none full = rw (none, full) refl

pub more_room : (column : ℕ) (es : List (ℕ × Rule)) → rule_in es column ≡ None → length es < 32 → is_room column es ≡ true
more_room column es none less = rw (none, lt-ltb (length es) 32 less) refl

pub more_fit : (n : ℕ) → (n == 32) ≡ false → n ≤ 32 → n < 32
more_fit n differs le = omega (arith, eqb-false n 32 differs)

pub already_none : (c q : ℕ) (es : List (ℕ × Rule)) → rule_in es c ≡ None → rule_in es q ≡ with_rule c None es q
already_none c q es none = go (c == q) refl
  where
    go : (b : Bool) → (c == q) ≡ b → rule_in es q ≡ cond (c == q) None (rule_in es q)
    go true is = let same : c ≡ q = eqb-true c q is in rw is (rw same at none)
    go false is = rw is refl

-- what was written through the slice of all items
pub written : {X : Type 0} (xs ys : List X) (i : ℕ) (x : X) → ys ≡ xs → refill (length xs) xs (set ys i x) ≡ set xs i x
written xs ys i x same = items-with_items (record { items = xs }) (set ys i x) (length-set ys i x ∙ ap length same) ∙ ap (λ l. set l i x) same
