-- Descriptions that share no address, and the one that has a function's range.
use Rattle.std.proofs.Common.{◌≡◌, ℕ, ◌+◌, ◌<◌, Bool, true, false, List, [], ◌∷◌, ◌++◌, Some, Ok, refl, sym, ap, subst, ◌∙◌, inl, inr, arith}
use Rattle.std.specs.Prelude.{◌⊎◌, ◌==◌}
use Rattle.std.specs.List.{AllByRecursion, AllPairs, Contains, filter}
use Rattle.std.proofs.lemmas.Bool.{and_parts, eqb-true}
use Rattle.std.proofs.lemmas.List.Elements.{All-from_recursion}
use Rattle.std.proofs.lemmas.List.Kept.{AllPairs-cons}
use Rattle.unwind_definitions.specs.Entries.{Entry, Fde, Found, entry_at}
use Rattle.unwind_definitions.specs.Input.{Input}
use Rattle.unwind_definitions.specs.Pointers.{Bases}
use Rattle.unwind_definitions.specs.Function.{Function}
use Rattle.unwind_definitions.specs.FrameTable.{has_range_of}
use Rattle.unwind_definitions.specs.Module.{DescriptionsApart}
use Rattle.unwind_laws.proofs.Booleans.{contains_all, first, head_pairs, here_or_later, later, none_in_nil, tail_pairs}
use Rattle.table_check.specs.AllEntries.{AllApart, AreAll}
use Rattle.table_check.specs.Scanned.{AllMayStand, FitsFunction, IsApartFrom, ReadBefore}
use Rattle.table_check.proofs.Beside.{found_in}

-- ---- all entries are one list

module _ (bases : Bases) (table : Input) where
  one_list : (from : ℕ) (es fs : List Entry) (end last : ℕ) → ReadBefore bases table from es end → ReadBefore bases table from fs last →
      ((e : Entry) (next : ℕ) → entry_at bases table end ≡ Ok (Some (record { entry = e; next = next })) → ⊥) →
      ((e : Entry) (next : ℕ) → entry_at bases table last ≡ Ok (Some (record { entry = e; next = next })) → ⊥) → es ≡ fs
  one_list from [] [] end last a b over past = refl
  one_list from [] (f ∷ fs) end last a b over past = absurd (over f b.0 (ap (entry_at bases table) (sym a) ∙ b.1))
  one_list from (e ∷ es) [] end last a b over past = absurd (past e a.0 (ap (entry_at bases table) (sym b) ∙ a.1))
  one_list from (e ∷ es) (f ∷ fs) end last a b over past =
      let g : Found = record { entry = e; next = a.0 } in
      let h : Found = record { entry = f; next = b.0 } in
      let same : g ≡ h = ap (found_in g) (sym a.1 ∙ b.1) in
      let rest = one_list a.0 es fs end last a.2 (subst (λ n. ReadBefore bases table n fs last) (sym (ap (λ (x : Found). x.next) same)) b.2) over past in
      ap (λ x. x ∷ es) (ap (λ (x : Found). x.entry) same) ∙ ap (λ l. f ∷ l) rest

  pub all_once : (es fs : List Entry) → AreAll bases table es → AreAll bases table fs → es ≡ fs
  all_once es fs a b = one_list 0 es fs a.end b.end a.read b.read a.over b.over

-- ---- apart

last_of : (before : List Fde) (x fde : Fde) → AllByRecursion (IsApartFrom fde) (before ++ x ∷ []) → DescriptionsApart x fde
last_of [] x fde all = all.0
last_of (y ∷ before) x fde all = last_of before x fde all.1

first_part : (all : List Fde) (z fde : Fde) → AllByRecursion (IsApartFrom fde) (all ++ z ∷ []) → AllByRecursion (IsApartFrom fde) all
first_part [] z fde h = tt
first_part (w ∷ all) z fde h = (h.0, first_part all z fde h.1)

with_last : (all : List Fde) (z fde : Fde) → AllByRecursion (IsApartFrom fde) all → DescriptionsApart z fde → AllByRecursion (IsApartFrom fde) (all ++ z ∷ [])
with_last [] z fde h apart = (apart, tt)
with_last (w ∷ all) z fde h apart = (h.0, with_last all z fde h.1 apart)

module _ (functions : List Function) where
  -- what is apart from those of a front is apart from one of them
  after_front : (x : Fde) (front fdes : List Fde) → AllMayStand functions front fdes → ((fde : Fde) → AllByRecursion (IsApartFrom fde) front → DescriptionsApart x fde) → AllByRecursion (DescriptionsApart x) fdes
  after_front x front [] stand tells = tt
  after_front x front (y ∷ fdes) stand tells = (tells y stand.0.apart, after_front x (front ++ y ∷ []) fdes stand.1 (λ fde all. tells fde (first_part front y fde all)))

  pub all_apart : (front fdes : List Fde) → AllMayStand functions front fdes → AllApart fdes
  all_apart front [] stand = tt
  all_apart front (x ∷ fdes) stand = (stand.0.some, after_front x (front ++ x ∷ []) fdes stand.1 (λ fde all. last_of front x fde all), all_apart (front ++ x ∷ []) fdes stand.1)

apart_from_all : (x : Fde) (xs : List Fde) (y : Fde) → AllByRecursion (DescriptionsApart x) xs → Contains xs y → DescriptionsApart x y
apart_from_all x [] y all has = absurd (none_in_nil y has)
apart_from_all x (z ∷ xs) y all has = elim (here_or_later z xs y has) [
  | inl same ↦ subst (DescriptionsApart x) same all.0
  | inr rest ↦ apart_from_all x xs y all.1 rest
]

-- as they are defined for a module
pub apart_of : (fdes : List Fde) → AllByRecursion (λ (fde : Fde). 0 < fde.size) fdes → AllPairs DescriptionsApart fdes → AllApart fdes
apart_of [] some pairs = tt
apart_of (x ∷ xs) some pairs = (some.0, contains_all (DescriptionsApart x) xs (λ y has. head_pairs DescriptionsApart x xs y pairs has), apart_of xs some.1 (tail_pairs DescriptionsApart x xs pairs))

pub nonempty_of : (fdes : List Fde) → AllApart fdes → AllByRecursion (λ (fde : Fde). 0 < fde.size) fdes
nonempty_of [] apart = tt
nonempty_of (x ∷ xs) apart = (apart.0, nonempty_of xs apart.2)

pub pairs_of : (fdes : List Fde) → AllApart fdes → AllPairs DescriptionsApart fdes
pairs_of [] apart = λ i j d lt below. absurd (omega arith)
pairs_of (x ∷ xs) apart = AllPairs-cons DescriptionsApart x xs (All-from_recursion (DescriptionsApart x) xs apart.1) (pairs_of xs apart.2)

-- apart descriptions that fit functions stand beside each other and these
pub all_stand_apart : (functions : List Function) (front fdes : List Fde) → AllApart fdes → ((x : Fde) → Contains fdes x → AllByRecursion (FitsFunction x) functions) → ((x : Fde) → Contains fdes x → AllByRecursion (IsApartFrom x) front) → AllMayStand functions front fdes
all_stand_apart functions front [] apart fits before = tt
all_stand_apart functions front (x ∷ xs) apart fits before = (
  record { some = apart.0; apart = before x (first x xs); fits = fits x (first x xs) },
  all_stand_apart functions (front ++ x ∷ []) xs apart.2 (λ y has. fits y (later x xs y has)) (λ y has. with_last front x y (before y (later x xs y has)) (apart_from_all x xs y apart.1 has)),
)

-- ---- one description has a function's range

same_range : (f : Function) (a b : Fde) → 0 < a.size → 0 < b.size → DescriptionsApart a b → has_range_of f a ≡ true → has_range_of f b ≡ true → ⊥
same_range f a b some filled apart x y =
    let p = and_parts (a.start == f.start) (a.start + a.size == f.end) x in
    let q = and_parts (b.start == f.start) (b.start + b.size == f.end) y in
    let p0 = eqb-true a.start f.start p.0 in let q0 = eqb-true b.start f.start q.0 in
    elim apart [ inl le ↦ omega (arith, le, some, p0, q0) | inr le ↦ omega (arith, le, filled, p0, q0) ]

nonempty_in : (xs : List Fde) (y : Fde) → AllApart xs → Contains xs y → 0 < y.size
nonempty_in [] y apart has = absurd (none_in_nil y has)
nonempty_in (x ∷ xs) y apart has = elim (here_or_later x xs y has) [
  | inl same ↦ subst (λ (z : Fde). 0 < z.size) same apart.0
  | inr rest ↦ nonempty_in xs y apart.2 rest
]

none_later : (f : Function) (x : Fde) (xs : List Fde) → 0 < x.size → AllApart xs → AllByRecursion (DescriptionsApart x) xs → has_range_of f x ≡ true → filter (has_range_of f) xs ≡ []
none_later f x [] some filled apart is = refl
none_later f x (y ∷ ys) some filled apart is = go (has_range_of f y) refl (none_later f x ys some filled.2 apart.1 is)
  where
    go : (b : Bool) → has_range_of f y ≡ b → filter (has_range_of f) ys ≡ [] → filter (has_range_of f) (y ∷ ys) ≡ []
    go true h rest = absurd (same_range f x y some filled.0 apart.0 is h)
    go false h rest = rw h rest

pub one_has : (f : Function) (fdes : List Fde) (fde : Fde) → AllApart fdes → Contains fdes fde → has_range_of f fde ≡ true → filter (has_range_of f) fdes ≡ fde ∷ []
one_has f [] fde apart has is = absurd (none_in_nil fde has)
one_has f (x ∷ xs) fde apart has is = go (has_range_of f x) refl (here_or_later x xs fde has) (λ rest. one_has f xs fde apart.2 rest is)
  where
    go : (b : Bool) → has_range_of f x ≡ b → (x ≡ fde) ⊎ Contains xs fde → (Contains xs fde → filter (has_range_of f) xs ≡ fde ∷ []) → filter (has_range_of f) (x ∷ xs) ≡ fde ∷ []
    go true h (inl same) later_one = rw h (ap (λ l. x ∷ l) (none_later f x xs apart.0 apart.2 apart.1 h) ∙ ap (λ y. y ∷ []) same)
    go true h (inr rest) later_one = absurd (same_range f x fde apart.0 (nonempty_in xs fde apart.2 rest) (apart_from_all x xs fde apart.1 rest) h is)
    go false h (inl same) later_one = let other : has_range_of f x ≡ true = ap (has_range_of f) same ∙ is in absurd cc
    go false h (inr rest) later_one = rw h (later_one rest)
