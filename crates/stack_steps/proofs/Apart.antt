-- Modules that are apart: where an address is found, what one more module meets, what it changes.
use Rattle.std.proofs.Common.{◌≡◌, ℕ, ◌^◌, ◌<◌, ◌≤◌, min, Bool, true, false, not, ◌&&◌, ◌==◌, cond, ◌⊎◌, inl, inr, List, [], ◌∷◌, ◌++◌, Option, Some, None, refl, sym, ap, ◌∙◌, subst, arith, leb, ltb}
use Rattle.std.proofs.lemmas.Bool.Decides.{nat_tests, leb_tells}
use Rattle.std.specs.List.{filter}
use Rattle.std.specs.Ordering.{nat_cmp, is_lt, is_le}
use Rattle.std.specs.BTreeMap.{insert_entry}
use Rattle.memory_image.specs.Image.{lower}
use Rattle.stack_steps.specs.declared.space.Module.{Module}
use Rattle.stack_steps.specs.declared.space.ModuleEntry.{ModuleEntry}
use Rattle.stack_steps.specs.Modules.{contains, module_at, AreApart, shares, lowest_shared, with_module, module_of, modules_in}
use Rattle.stack_steps.specs.Modules.{last_below, first_between}

-- ---- an address

contains_before : (m : Module) (a : ℕ) → a < m.start → contains m a ≡ false
contains_before m a h = grind (arith, nat_tests)

contains_past : (m : Module) (a : ℕ) → m.end ≤ a → contains m a ≡ false
contains_past m a h = grind (arith, nat_tests)

pub contains_in : (m : Module) (a : ℕ) → m.start ≤ a → a < m.end → contains m a ≡ true
contains_in m a h l = grind (arith, nat_tests)

-- no module is below the first
pub none_before : (ms : List Module) (low a : ℕ) → AreApart low ms → a < low → last_below ms a ≡ None
none_before [] low a apart h = refl
none_before (m ∷ ms) low a apart h =
    let first : leb m.start a ≡ false = let l : low ≤ m.start = apart.0 in grind (arith, nat_tests) in
    rw (none_before ms m.end a apart.2 (omega (arith, apart.0, apart.1)), first) refl

-- the last module at or below an address starts there, and at or above the first
pub record IsLast (low a : ℕ) (m : Module) : Type 0 where
  pub below : m.start ≤ a
  pub above : low ≤ m.start
  pub some : m.start < m.end

pub last_is : (ms : List Module) (low a : ℕ) (n : Module) → AreApart low ms → last_below ms a ≡ Some n → IsLast low a n
last_is [] low a n apart e = absurd (cc)
last_is (m ∷ ms) low a n apart e = go (last_is ms m.end a n apart.2) (last_below ms a) refl
  where
    go : (last_below ms a ≡ Some n → IsLast m.end a n) → (o : Option Module) → last_below ms a ≡ o → IsLast low a n
    go more (Some x) is =
        let same : Some x ≡ Some n = rw is at e in
        let l : IsLast m.end a n = more (is ∙ same) in
        record { below = l.below; above = omega (arith, l.above, apart.0, apart.1); some = l.some }
    go more None is = elim (leb_tells m.start a) [
      | inl p ↦ let same : Some m ≡ Some n = rw (is, p.0) at e in
          let eq : m ≡ n = cc in
          subst (IsLast low a) eq (record { below = p.1; above = apart.0; some = apart.1 })
      | inr p ↦ let none : None ≡ Some n = rw (is, p.0) at e in absurd (cc)
    ]

-- what a search for an address gives of the last module at or below it
abbrev pub by_end : Option Module → ℕ → Option Module
by_end None a = None
by_end (Some m) a = cond (ltb a m.end) (Some m) None

pub module_by : (ms : List Module) (low a : ℕ) → AreApart low ms → module_at ms a ≡ by_end (last_below ms a) a
module_by [] low a apart = refl
module_by (m ∷ ms) low a apart = elim (leb_tells m.start a) [
  | inl p ↦ go p.0 p.1 (module_by ms m.end a apart.2) (last_below ms a) refl
  | inr p ↦ rw (contains_before m a p.1, module_by ms m.end a apart.2, none_before ms m.end a apart.2 (omega (arith, p.1, apart.1)), p.0) refl
]
  where
    go : leb m.start a ≡ true → m.start ≤ a → module_at ms a ≡ by_end (last_below ms a) a → (o : Option Module) → last_below ms a ≡ o → module_at (m ∷ ms) a ≡ by_end (last_below (m ∷ ms) a) a
    go test at rest (Some x) is =
        let l : IsLast m.end a x = last_is ms m.end a x apart.2 is in
        rw (contains_past m a (omega (arith, l.below, l.above)), rest, is) refl
    go test at rest None is = rw (rest, is, test) refl

-- ---- the modules that share an address with a new one

shares_no : (m : Module) (start end : ℕ) → (end ≤ m.start) ⊎ (m.end ≤ start) → shares m start end ≡ false
shares_no m start end h = grind (arith, nat_tests)

shares_yes : (m : Module) (start end : ℕ) → m.start < end → start < m.end → shares m start end ≡ true
shares_yes m start end h l = grind (arith, nat_tests)

-- a start that is no higher than all of these is the lowest
lower_is : (ms : List Module) (low start end b : ℕ) → AreApart low ms → b ≤ low → lower b (lowest_shared ms start end) ≡ Some b
lower_is [] low start end b apart h = refl
lower_is (m ∷ ms) low start end b apart h =
    let first : lower m.start (lowest_shared ms start end) ≡ Some m.start = lower_is ms m.end start end m.start apart.2 (omega (arith, apart.1)) in
    let rest : lower b (lowest_shared ms start end) ≡ Some b = lower_is ms m.end start end b apart.2 (omega (arith, apart.0, apart.1)) in
    let least : min b m.start ≡ b = omega (arith, apart.0) in
    elim (shares m start end) as (λ t. lower b (cond t (lower m.start (lowest_shared ms start end)) (lowest_shared ms start end)) ≡ Some b) [
      | true ↦ rw first (ap Some least)
      | false ↦ rest
    ]

-- what the last module at or below the start, and the first one above it, say
abbrev pub by_last : Option Module → ℕ → Option ℕ → Option ℕ
by_last None start above = above
by_last (Some m) start above = cond (ltb start m.end) (Some m.start) above

pub shared_by : (ms : List Module) (low start end : ℕ) → AreApart low ms → start < end → lowest_shared ms start end ≡ by_last (last_below ms start) start (first_between ms start end)
shared_by [] low start end apart some = refl
shared_by (m ∷ ms) low start end apart some = elim (leb_tells m.start start) [
  | inl p ↦ at p.0 p.1 (shared_by ms m.end start end apart.2 some) (last_below ms start) refl
  | inr p ↦ above p.0 p.1 (shared_by ms m.end start end apart.2 some) (ltb m.start end) refl
]
  where
    at : leb m.start start ≡ true → m.start ≤ start → lowest_shared ms start end ≡ by_last (last_below ms start) start (first_between ms start end) → (o : Option Module) → last_below ms start ≡ o → lowest_shared (m ∷ ms) start end ≡ by_last (last_below (m ∷ ms) start) start (first_between (m ∷ ms) start end)
    at test le rest (Some x) is =
        let l : IsLast m.end start x = last_is ms m.end start x apart.2 is in
        let past : m.end ≤ start = omega (arith, l.below, l.above) in
        let not_first : leb start m.start ≡ false = let some_of : m.start < m.end = apart.1 in grind (arith, nat_tests) in
        rw (shares_no m start end (inr past), rest, is, not_first) refl
    at test le rest None is = reach (ltb start m.end) refl
      where
        reach : (b : Bool) → ltb start m.end ≡ b → lowest_shared (m ∷ ms) start end ≡ by_last (last_below (m ∷ ms) start) start (first_between (m ∷ ms) start end)
        reach true b =
            let l : start < m.end = grind (arith, nat_tests) in
            rw (shares_yes m start end (omega arith) l, lower_is ms m.end start end m.start apart.2 (omega (arith, apart.1)), is, test, b) refl
        reach false b =
            let past : m.end ≤ start = grind (arith, nat_tests) in
            let not_first : leb start m.start ≡ false = let some_of : m.start < m.end = apart.1 in grind (arith, nat_tests) in
            rw (shares_no m start end (inr past), rest, is, test, not_first, b) refl

    above : leb m.start start ≡ false → start < m.start → lowest_shared ms start end ≡ by_last (last_below ms start) start (first_between ms start end) → (b : Bool) → ltb m.start end ≡ b → lowest_shared (m ∷ ms) start end ≡ by_last (last_below (m ∷ ms) start) start (first_between (m ∷ ms) start end)
    above test lt rest true b =
        let l : m.start < end = grind (arith, nat_tests) in
        let first : leb start m.start ≡ true = grind (arith, nat_tests) in
        rw (shares_yes m start end l (omega (arith, apart.1)), lower_is ms m.end start end m.start apart.2 (omega (arith, apart.1)), none_before ms m.end start apart.2 (omega (arith, apart.1)), test, first, b) refl
    above test lt rest false b =
        let l : end ≤ m.start = grind (arith, nat_tests) in
        let first : leb start m.start ≡ true = grind (arith, nat_tests) in
        rw (shares_no m start end (inl l), rest, none_before ms m.end start apart.2 (omega (arith, apart.1)), test, first, b) refl

-- the three ways in which a search ends
pub found_module : (ms : List Module) (a : ℕ) (m : Module) → AreApart 0 ms → Some m ≡ last_below ms a → a < m.end → Some m ≡ module_at ms a
found_module ms a m apart is l =
    let test : ltb a m.end ≡ true = grind (arith, nat_tests) in
    let e : by_end (Some m) a ≡ Some m = rw test (λ i. Some m) in
    sym e ∙ (ap (λ o. by_end o a) is ∙ sym (module_by ms 0 a apart))

pub passed_module : (ms : List Module) (a : ℕ) (m : Module) → AreApart 0 ms → Some m ≡ last_below ms a → m.end ≤ a → None ≡ module_at ms a
passed_module ms a m apart is l =
    let test : ltb a m.end ≡ false = grind (arith, nat_tests) in
    let e : by_end (Some m) a ≡ None = rw test (λ i. None) in
    sym e ∙ (ap (λ o. by_end o a) is ∙ sym (module_by ms 0 a apart))

pub no_module : (ms : List Module) (a : ℕ) → AreApart 0 ms → None ≡ last_below ms a → None ≡ module_at ms a
no_module ms a apart is = ap (λ o. by_end o a) is ∙ sym (module_by ms 0 a apart)

pub shared_last : (ms : List Module) (start end : ℕ) (m : Module) → AreApart 0 ms → start < end → Some m ≡ last_below ms start → start < m.end → Some m.start ≡ lowest_shared ms start end
shared_last ms start end m apart some is l =
    let test : ltb start m.end ≡ true = grind (arith, nat_tests) in
    let e : by_last (Some m) start (first_between ms start end) ≡ Some m.start = rw test (λ i. Some m.start) in
    sym e ∙ (ap (λ o. by_last o start (first_between ms start end)) is ∙ sym (shared_by ms 0 start end apart some))

pub shared_first : (ms : List Module) (start end : ℕ) (m : Module) (o : Option ℕ) → AreApart 0 ms → start < end → Some m ≡ last_below ms start → m.end ≤ start → o ≡ first_between ms start end → o ≡ lowest_shared ms start end
shared_first ms start end m o apart some is l first =
    let test : ltb start m.end ≡ false = grind (arith, nat_tests) in
    let e : by_last (Some m) start (first_between ms start end) ≡ first_between ms start end = rw test (λ i. first_between ms start end) in
    first ∙ (sym e ∙ (ap (λ o. by_last o start (first_between ms start end)) is ∙ sym (shared_by ms 0 start end apart some)))

pub shared_alone : (ms : List Module) (start end : ℕ) (o : Option ℕ) → AreApart 0 ms → start < end → None ≡ last_below ms start → o ≡ first_between ms start end → o ≡ lowest_shared ms start end
shared_alone ms start end o apart some is first = first ∙ (ap (λ o. by_last o start (first_between ms start end)) is ∙ sym (shared_by ms 0 start end apart some))

-- ---- one more module

pub record ShareNone (m : Module) (ms : List Module) (start end : ℕ) : Type 0 where
  pub first : shares m start end ≡ false
  pub rest : lowest_shared ms start end ≡ None

pub share_none : (m : Module) (ms : List Module) (start end : ℕ) → lowest_shared (m ∷ ms) start end ≡ None → ShareNone m ms start end
share_none m ms start end e = go (shares m start end) refl
  where
    some : (o : Option ℕ) → lower m.start o ≡ None → ⊥
    some None e = cc
    some (Some b) e = cc

    go : (b : Bool) → shares m start end ≡ b → ShareNone m ms start end
    go true is = absurd (some (lowest_shared ms start end) (rw is at e))
    go false is = record { first = is; rest = rw is at e }

pub apart_from : (m : Module) (start end : ℕ) → shares m start end ≡ false → (end ≤ m.start) ⊎ (m.end ≤ start)
apart_from m start end h = elim (leb_tells end m.start) [
  | inl p ↦ inl p.1
  | inr p ↦ elim (leb_tells m.end start) [
    | inl q ↦ inr q.1
    | inr q ↦ let yes_ : shares m start end ≡ true = shares_yes m start end p.1 q.1 in absurd (cc)
  ]
]

pub with_apart : (ms : List Module) (low : ℕ) (m : Module) → AreApart low ms → low ≤ m.start → m.start < m.end → m.end < 2 ^ 64 → lowest_shared ms m.start m.end ≡ None → AreApart low (with_module m ms)
with_apart [] low m apart le some below none = (le, some, below)
with_apart (n ∷ ns) low m apart le some below none =
    let s : ShareNone n ns m.start m.end = share_none n ns m.start m.end none in
    elim (leb_tells n.start m.start) [
      | inl p ↦
          let after : n.end ≤ m.start = elim (apart_from n m.start m.end s.first) [ inl q ↦ absurd (omega (arith, p.1)) | inr q ↦ q ] in
          let test : ltb m.start n.start ≡ false = let at : n.start ≤ m.start = p.1 in grind (arith, nat_tests) in
          rw test (apart.0, apart.1, with_apart ns n.end m apart.2 after some below s.rest)
      | inr p ↦
          let before : m.end ≤ n.start = elim (apart_from n m.start m.end s.first) [ inl q ↦ q | inr q ↦ absurd (omega (arith, p.1, apart.1)) ] in
          let test : ltb m.start n.start ≡ true = let at : m.start < n.start = p.1 in grind (arith, nat_tests) in
          rw test (le, some, (before, apart.1, apart.2))
    ]

pub inserted : (es : List (ℕ × ModuleEntry)) (k : ℕ) (x : ModuleEntry) (low : ℕ) → AreApart low (modules_in es) → k < x.end → lowest_shared (modules_in es) k x.end ≡ None → modules_in (insert_entry nat_cmp es k x) ≡ with_module (module_of (k, x)) (modules_in es)
inserted [] k x low apart some none = refl
inserted (e ∷ es) k x low apart some none =
    let s : ShareNone (module_of e) (modules_in es) k x.end = share_none (module_of e) (modules_in es) k x.end none in
    elim (leb_tells e.0 k) [
      | inl p ↦
          let after : e.1.end ≤ k = elim (apart_from (module_of e) k x.end s.first) [ inl q ↦ absurd (omega (arith, p.1)) | inr q ↦ q ] in
          let below : e.0 < k = omega (arith, apart.1) in
          let test : ltb k e.0 ≡ false = grind (arith, nat_tests) in
          let other : (k == e.0) ≡ false = grind (arith, nat_tests) in
          rw (test, other) (ap (λ ms. module_of e ∷ ms) (inserted es k x e.1.end apart.2 some s.rest))
      | inr p ↦
          let test : ltb k e.0 ≡ true = let at : k < e.0 = p.1 in grind (arith, nat_tests) in
          rw test refl
    ]

-- ---- what the ranges of a map give

pub none_in : (p : ℕ → Bool) (a : ℕ) → ((q : ℕ) → p q ≡ leb q a) → (es : List (ℕ × ModuleEntry)) → filter (λ d. p d.0) es ≡ [] → last_below (modules_in es) a ≡ None
none_in p a tests [] h = refl
none_in p a tests (d ∷ es) h = go (p d.0) refl (none_in p a tests es)
  where
    go : (b : Bool) → p d.0 ≡ b → (filter (λ d. p d.0) es ≡ [] → last_below (modules_in es) a ≡ None) → last_below (modules_in (d ∷ es)) a ≡ None
    go true is more = let bad : d ∷ filter (λ d. p d.0) es ≡ [] = rw is at h in absurd (cc)
    go false is more =
        let test : leb d.0 a ≡ false = sym (tests d.0) ∙ is in
        let rest : filter (λ d. p d.0) es ≡ [] = rw is at h in
        rw (more rest, test) refl

-- the last of the entries at or below an address
pub last_in : (p : ℕ → Bool) (a : ℕ) → ((q : ℕ) → p q ≡ leb q a) → (es t : List (ℕ × ModuleEntry)) (e : ℕ × ModuleEntry) → filter (λ d. p d.0) es ≡ t ++ e ∷ [] → last_below (modules_in es) a ≡ Some (module_of e)
last_in p a tests [] [] e h = absurd (cc)
last_in p a tests [] (d ∷ t) e h = absurd (cc)
last_in p a tests (d ∷ es) t e h = go t (p d.0) refl (λ s. last_in p a tests es s e) (none_in p a tests es) h
  where
    go : (t : List (ℕ × ModuleEntry)) (b : Bool) → p d.0 ≡ b → ((s : List (ℕ × ModuleEntry)) → filter (λ d. p d.0) es ≡ s ++ e ∷ [] → last_below (modules_in es) a ≡ Some (module_of e)) → (filter (λ d. p d.0) es ≡ [] → last_below (modules_in es) a ≡ None)
        → filter (λ d. p d.0) (d ∷ es) ≡ t ++ e ∷ [] → last_below (modules_in (d ∷ es)) a ≡ Some (module_of e)
    go t false is more none h = let rest : filter (λ d. p d.0) es ≡ t ++ e ∷ [] = rw is at h in rw (more t rest) refl
    go [] true is more none h =
        let both : d ∷ filter (λ d. p d.0) es ≡ e ∷ [] = rw is at h in
        let rest : filter (λ d. p d.0) es ≡ [] = cc in
        let same : d ≡ e = cc in
        let test : leb d.0 a ≡ true = sym (tests d.0) ∙ is in
        rw (none rest, test) (ap (λ x. Some (module_of x)) same)
    go (x ∷ t) true is more none h =
        let both : d ∷ filter (λ d. p d.0) es ≡ x ∷ (t ++ e ∷ []) = rw is at h in
        let rest : filter (λ d. p d.0) es ≡ t ++ e ∷ [] = cc in
        rw (more t rest) refl

-- the first of the entries from start to before end
pub first_in : (p : ℕ → Bool) (start end : ℕ) → ((q : ℕ) → p q ≡ (leb start q && ltb q end)) → (es t : List (ℕ × ModuleEntry)) (e : ℕ × ModuleEntry) → filter (λ d. p d.0) es ≡ e ∷ t → first_between (modules_in es) start end ≡ Some e.0
first_in p start end tests [] t e h = absurd (cc)
first_in p start end tests (d ∷ es) t e h = go (p d.0) refl (first_in p start end tests es t e)
  where
    go : (b : Bool) → p d.0 ≡ b → (filter (λ d. p d.0) es ≡ e ∷ t → first_between (modules_in es) start end ≡ Some e.0) → first_between (modules_in (d ∷ es)) start end ≡ Some e.0
    go true is more =
        let both : d ∷ filter (λ d. p d.0) es ≡ e ∷ t = rw is at h in
        let same : d ≡ e = cc in
        let test : (leb start d.0 && ltb d.0 end) ≡ true = sym (tests d.0) ∙ is in
        rw test (ap (λ (x : ℕ × ModuleEntry). Some x.0) same)
    go false is more =
        let rest : filter (λ d. p d.0) es ≡ e ∷ t = rw is at h in
        let test : (leb start d.0 && ltb d.0 end) ≡ false = sym (tests d.0) ∙ is in
        rw test (more rest)

pub no_first : (p : ℕ → Bool) (start end : ℕ) → ((q : ℕ) → p q ≡ (leb start q && ltb q end)) → (es : List (ℕ × ModuleEntry)) → filter (λ d. p d.0) es ≡ [] → first_between (modules_in es) start end ≡ None
no_first p start end tests [] h = refl
no_first p start end tests (d ∷ es) h = go (p d.0) refl (no_first p start end tests es)
  where
    go : (b : Bool) → p d.0 ≡ b → (filter (λ d. p d.0) es ≡ [] → first_between (modules_in es) start end ≡ None) → first_between (modules_in (d ∷ es)) start end ≡ None
    go true is more = let bad : d ∷ filter (λ d. p d.0) es ≡ [] = rw is at h in absurd (cc)
    go false is more =
        let rest : filter (λ d. p d.0) es ≡ [] = rw is at h in
        let test : (leb start d.0 && ltb d.0 end) ≡ false = sym (tests d.0) ∙ is in
        rw test (more rest)

-- the tests of the two ranges
pub up_to_test : (a q : ℕ) → not (is_lt (nat_cmp a q)) ≡ leb q a
up_to_test a q = grind (arith, nat_tests)

pub between_test : (start end q : ℕ) → (is_le (nat_cmp start q) && not (is_le (nat_cmp end q))) ≡ (leb start q && ltb q end)
between_test start end q = grind (arith, nat_tests)

-- ---- a map of modules with one more

-- the new entry goes to its place in the order
pub record TakesModule (es ds : List (ℕ × ModuleEntry)) (m : Module) : Type 0 where
  pub apart : AreApart 0 (modules_in ds)
  pub added : modules_in ds ≡ with_module m (modules_in es)

pub module_inserted : (es ds : List (ℕ × ModuleEntry)) (k : ℕ) (x : ModuleEntry) (o : Option ℕ) → AreApart 0 (modules_in es) → k < x.end → x.end < 2 ^ 64 → o ≡ lowest_shared (modules_in es) k x.end → o ≡ None → ds ≡ insert_entry nat_cmp es k x → TakesModule es ds (module_of (k, x))
module_inserted es ds k x o apart some below is none e =
    let alone : lowest_shared (modules_in es) k x.end ≡ None = sym is ∙ none in
    let same : modules_in ds ≡ with_module (module_of (k, x)) (modules_in es) = ap modules_in e ∙ inserted es k x 0 apart some alone in
    let P : List Module → Type 0 = λ ms. AreApart 0 ms in
    record { apart = subst P (sym same) (with_apart (modules_in es) 0 (module_of (k, x)) apart (omega arith) some below alone); added = same }
