-- Modules by start and in the order of adding: where an address is found, and what one more module changes.
use Rattle.std.proofs.Common.{◌≡◌, ◌⊎◌, inl, inr, ℕ, zero, suc, ◌<◌, ◌≤◌, Bool, true, false, ◌==◌, List, [], ◌∷◌, ◌++◌, length, map, get_or, Some, None, refl, sym, ap, ◌∙◌, subst, arith, leb, ltb}
use Rattle.std.specs.Prelude.{slice_get}
use Rattle.std.specs.List.{AllByRecursion, Contains, filter}
use Rattle.std.specs.BTreeMap.{insert_entry}
use Rattle.std.specs.Ordering.{nat_cmp}
use Rattle.std.proofs.lemmas.Bool.Decides.{nat_tests, leb_tells}
use Rattle.unwind_laws.proofs.Booleans.{both_true, here_or_later, none_in_nil, later, first}
use Rattle.stack_steps.specs.declared.space.ModuleEntry.{ModuleEntry}
use Rattle.stack_steps.specs.declared.space.AddedModule.{AddedModule}
use Rattle.stack_steps.specs.declared.space.Module.{Module}
use Rattle.stack_steps.specs.Modules.{contains, module_at, module_of, modules_in, AreApart, lowest_shared}
use Rattle.stack_steps.specs.AddedModule.{added_of, holder_of, entry_at, StandsAt, StandsBack}
use Rattle.stack_steps.specs.Preparing.{index_at}
use Rattle.stack_steps.proofs.Apart.{ShareNone, share_none, apart_from}

-- ---- by start

-- the last of the entries that a test lets through is one of them
pub last_stands : (p : ℕ → Bool) (es t : List (ℕ × ModuleEntry)) (e : ℕ × ModuleEntry) → filter (λ d. p d.0) es ≡ t ++ e ∷ [] → Contains es e
last_stands p [] [] e h = absurd (cc)
last_stands p [] (x ∷ t) e h = absurd (cc)
last_stands p (d ∷ es) t e h = go t (p d.0) refl (λ t. last_stands p es t e) h
  where
    go : (t : List (ℕ × ModuleEntry)) (b : Bool) → p d.0 ≡ b → ((t : List (ℕ × ModuleEntry)) → filter (λ d. p d.0) es ≡ t ++ e ∷ [] → Contains es e) → filter (λ d. p d.0) (d ∷ es) ≡ t ++ e ∷ [] → Contains (d ∷ es) e
    go t false is more h = let rest : filter (λ d. p d.0) es ≡ t ++ e ∷ [] = rw is at h in later d es e (more t rest)
    go [] true is more h =
        let both : d ∷ filter (λ d. p d.0) es ≡ e ∷ [] = rw is at h in
        let same : d ≡ e = cc in
        subst (λ x. Contains (d ∷ es) x) same (first d es)
    go (x ∷ t) true is more h =
        let both : d ∷ filter (λ d. p d.0) es ≡ x ∷ (t ++ e ∷ []) = rw is at h in
        let rest : filter (λ d. p d.0) es ≡ t ++ e ∷ [] = cc in
        later d es e (more t rest)

pub holds : (m : Module) (a : ℕ) → contains m a ≡ true → (m.start ≤ a) × (a < m.end)
holds m a is =
    let both = both_true (leb m.start a) (ltb a m.end) is in
    let low = both.0 in let high = both.1 in
    (grind (arith, nat_tests), grind (arith, nat_tests))

starts_above : (es : List (ℕ × ModuleEntry)) (low : ℕ) (e : ℕ × ModuleEntry) → AreApart low (modules_in es) → Contains es e → low ≤ e.0
starts_above [] low e apart has = absurd (none_in_nil e has)
starts_above (d ∷ es) low e apart has = elim (here_or_later d es e has) [
  | inl same ↦ let from = ap (λ (x : ℕ × ModuleEntry). x.0) same in let h = apart.0 in omega arith
  | inr more ↦ let ih = starts_above es d.1.end e apart.2 more in let h = apart.0 in let some = apart.1 in omega arith
]

-- one module at most contains an address
pub one_contains : (es : List (ℕ × ModuleEntry)) (low a : ℕ) (e f : ℕ × ModuleEntry) → AreApart low (modules_in es) → Contains es e → Contains es f → contains (module_of e) a ≡ true → contains (module_of f) a ≡ true → e ≡ f
one_contains [] low a e f apart has_e has_f in_e in_f = absurd (none_in_nil e has_e)
one_contains (d ∷ es) low a e f apart has_e has_f in_e in_f = go (here_or_later d es e has_e) (here_or_later d es f has_f) (one_contains es d.1.end a e f apart.2)
  where
    past : (e f : ℕ × ModuleEntry) → d ≡ e → Contains es f → contains (module_of e) a ≡ true → contains (module_of f) a ≡ true → ⊥
    past e f same more in_e in_f =
        let to = holds (module_of e) a in_e in
        let from = holds (module_of f) a in_f in
        let above = starts_above es d.1.end f apart.2 more in
        let end = ap (λ (x : ℕ × ModuleEntry). x.1.end) same in
        let below = to.1 in let at = from.0 in
        omega arith

    go : (d ≡ e) ⊎ Contains es e → (d ≡ f) ⊎ Contains es f → (Contains es e → Contains es f → contains (module_of e) a ≡ true → contains (module_of f) a ≡ true → e ≡ f) → e ≡ f
    go (inl x) (inl y) ih = sym x ∙ y
    go (inl x) (inr y) ih = absurd (past e f x y in_e in_f)
    go (inr x) (inl y) ih = absurd (past f e y x in_f in_e)
    go (inr x) (inr y) ih = ih x y in_e in_f

-- where no module contains an address, none of them does
pub none_contains : (es : List (ℕ × ModuleEntry)) (a : ℕ) (e : ℕ × ModuleEntry) → module_at (modules_in es) a ≡ None → Contains es e → contains (module_of e) a ≡ true → ⊥
none_contains [] a e none has is = none_in_nil e has
none_contains (d ∷ es) a e none has is = go (contains (module_of d) a) refl (none_contains es a e)
  where
    go : (b : Bool) → contains (module_of d) a ≡ b → (module_at (modules_in es) a ≡ None → Contains es e → contains (module_of e) a ≡ true → ⊥) → ⊥
    go true here ih = let some : Some (module_of d) ≡ None = rw here at none in cc
    go false there ih = elim (here_or_later d es e has) [
      | inl same ↦ let here : contains (module_of d) a ≡ true = subst (λ (x : ℕ × ModuleEntry). contains (module_of x) a ≡ true) (sym same) is in cc
      | inr more ↦ let rest : module_at (modules_in es) a ≡ None = rw there at none in ih rest more is
    ]

-- the module of an entry that contains an address is the one that does
pub contained : (es : List (ℕ × ModuleEntry)) (low a : ℕ) (e : ℕ × ModuleEntry) → AreApart low (modules_in es) → Contains es e → contains (module_of e) a ≡ true → module_at (modules_in es) a ≡ Some (module_of e)
contained [] low a e apart has is = absurd (none_in_nil e has)
contained (d ∷ es) low a e apart has is = go (contains (module_of d) a) refl (contained es d.1.end a e apart.2)
  where
    go : (b : Bool) → contains (module_of d) a ≡ b → (Contains es e → contains (module_of e) a ≡ true → module_at (modules_in es) a ≡ Some (module_of e)) → module_at (modules_in (d ∷ es)) a ≡ Some (module_of e)
    go true here ih = rw here (ap (λ (x : ℕ × ModuleEntry). Some (module_of x)) (one_contains (d ∷ es) low a d e apart (first d es) has here is))
    go false there ih = elim (here_or_later d es e has) [
      | inl same ↦ let here : contains (module_of d) a ≡ true = subst (λ (x : ℕ × ModuleEntry). contains (module_of x) a ≡ true) (sym same) is in absurd cc
      | inr more ↦ rw there (ih more is)
    ]

-- ---- in the order of adding

pub added_module_at : (hs : List AddedModule) (k : ℕ) (h : AddedModule) → k < length hs → h ≡ get_or hs k h → slice_get (map holder_of hs) k ≡ Some (holder_of h)
added_module_at [] k h lt at = absurd (omega arith)
added_module_at (g ∷ hs) zero h lt at = ap (λ (x : AddedModule). Some (holder_of x)) (sym at)
added_module_at (g ∷ hs) (suc k) h lt at = added_module_at hs k h (omega arith) at

pub place_within : (hs : List AddedModule) (k : ℕ) (m : Module) → slice_get (map holder_of hs) k ≡ Some m → k < length hs
place_within [] k m is = absurd cc
place_within (h ∷ hs) zero m is = omega arith
place_within (h ∷ hs) (suc k) m is = let ih = place_within hs k m is in omega arith

pub holder_there : (hs : List AddedModule) (k : ℕ) (m : Module) (h : AddedModule) → slice_get (map holder_of hs) k ≡ Some m → h ≡ get_or hs k h → h.holder ≡ m
holder_there [] k m h is at = absurd cc
holder_there (g ∷ hs) zero m h is at = ap holder_of at ∙ some_same g.holder m is
  where
    some_same : (n m : Module) → Some n ≡ Some m → n ≡ m
    some_same n m e = cc
holder_there (g ∷ hs) (suc k) m h is at = holder_there hs k m h is at

pub all_there : (P : AddedModule → Type 0) (hs : List AddedModule) (k : ℕ) (h : AddedModule) → AllByRecursion P hs → k < length hs → h ≡ get_or hs k h → P h
all_there P [] k h all lt at = absurd (omega arith)
all_there P (g ∷ hs) zero h all lt at = subst P (sym at) all.0
all_there P (g ∷ hs) (suc k) h all lt at = all_there P hs k h all.1 (omega arith) at

pub index_there : (hs : List AddedModule) (k a : ℕ) (h : AddedModule) → k < length hs → h ≡ get_or hs k h → contains h.holder a ≡ true → ((j : ℕ) (m : Module) → slice_get (map holder_of hs) j ≡ Some m → contains m a ≡ true → j ≡ k) → index_at (map added_of hs) a ≡ (added_of h).index
index_there [] k a h lt at is one = absurd (omega arith)
index_there (g ∷ hs) zero a h lt at is one =
    let here : contains g.holder a ≡ true = subst (λ (x : AddedModule). contains x.holder a ≡ true) at is in
    rw here (ap (λ (x : AddedModule). (added_of x).index) (sym at))
index_there (g ∷ hs) (suc k) a h lt at is one = go (contains g.holder a) refl (index_there hs k a h (omega arith) at is (λ j m there in_m. let s = one (suc j) m there in_m in omega arith))
  where
    go : (b : Bool) → contains g.holder a ≡ b → index_at (map added_of hs) a ≡ (added_of h).index → index_at (map added_of (g ∷ hs)) a ≡ (added_of h).index
    go true here ih = let s = one zero g.holder refl here in absurd (omega arith)
    go false elsewhere ih = rw elsewhere ih

pub index_nowhere : (hs : List AddedModule) (a : ℕ) → ((j : ℕ) (m : Module) → slice_get (map holder_of hs) j ≡ Some m → contains m a ≡ true → ⊥) → index_at (map added_of hs) a ≡ None
index_nowhere [] a none = refl
index_nowhere (g ∷ hs) a none = go (contains g.holder a) refl (index_nowhere hs a (λ j m there in_m. none (suc j) m there in_m))
  where
    go : (b : Bool) → contains g.holder a ≡ b → index_at (map added_of hs) a ≡ None → index_at (map added_of (g ∷ hs)) a ≡ None
    go true here ih = absurd (none zero g.holder refl here)
    go false elsewhere ih = rw elsewhere ih

-- ---- both orders

pub found_index : (es : List (ℕ × ModuleEntry)) (hs : List AddedModule) (a : ℕ) (e : ℕ × ModuleEntry) (h : AddedModule) → AreApart 0 (modules_in es) → StandsBack es hs → Contains es e → contains (module_of e) a ≡ true → StandsAt hs e → h ≡ get_or hs e.1.place h → index_at (map added_of hs) a ≡ (added_of h).index
found_index es hs a e h apart back has is stands at =
    let in_h : contains h.holder a ≡ true = subst (λ (m : Module). contains m a ≡ true) (sym (holder_there hs e.1.place (module_of e) h stands at)) is in
    index_there hs e.1.place a h (place_within hs e.1.place (module_of e) stands) at in_h
    (λ j m there in_m. ap (λ (x : ℕ × ModuleEntry). x.1.place) (one_contains es 0 a (entry_at j m) e apart (back j m there) has in_m is))

pub no_index : (es : List (ℕ × ModuleEntry)) (hs : List AddedModule) (a : ℕ) → StandsBack es hs → module_at (modules_in es) a ≡ None → index_at (map added_of hs) a ≡ None
no_index es hs a back none = index_nowhere hs a (λ j m there in_m. none_contains es a (entry_at j m) none (back j m there) in_m)

-- ---- one more module

get_pushed : (hs : List AddedModule) (h : AddedModule) (k : ℕ) (m : Module) → slice_get (map holder_of hs) k ≡ Some m → slice_get (map holder_of (hs ++ h ∷ [])) k ≡ Some m
get_pushed [] h k m is = absurd cc
get_pushed (g ∷ hs) h zero m is = is
get_pushed (g ∷ hs) h (suc k) m is = get_pushed hs h k m is

get_last : (hs : List AddedModule) (h : AddedModule) → slice_get (map holder_of (hs ++ h ∷ [])) (length hs) ≡ Some h.holder
get_last [] h = refl
get_last (g ∷ hs) h = get_last hs h

-- a place is one of those before, or the last
pushed_back : (hs : List AddedModule) (h : AddedModule) (k : ℕ) (m : Module) → slice_get (map holder_of (hs ++ h ∷ [])) k ≡ Some m → (slice_get (map holder_of hs) k ≡ Some m) ⊎ ((k ≡ length hs) × (h.holder ≡ m))
pushed_back [] h zero m is = inr (refl, cc)
pushed_back [] h (suc k) m is = absurd cc
pushed_back (g ∷ hs) h zero m is = inl is
pushed_back (g ∷ hs) h (suc k) m is = elim (pushed_back hs h k m is) [
  | inl there ↦ inl there
  | inr last ↦ inr (omega (arith, last.0), last.1)
]

pub all_pushed : {A : Type 0} (P : A → Type 0) (xs : List A) (x : A) → AllByRecursion P xs → P x → AllByRecursion P (xs ++ x ∷ [])
all_pushed P [] x all is = (is, tt)
all_pushed P (y ∷ ys) x all is = (all.0, all_pushed P ys x all.1 is)

all_wider : {A : Type 0} (P Q : A → Type 0) (xs : List A) → ((x : A) → P x → Q x) → AllByRecursion P xs → AllByRecursion Q xs
all_wider P Q [] more all = tt
all_wider P Q (x ∷ xs) more all = (more x all.0, all_wider P Q xs more all.1)

-- an entry whose module shares no address with the others
pub record Inserted (P : ℕ × ModuleEntry → Type 0) (es : List (ℕ × ModuleEntry)) (k : ℕ) (x : ModuleEntry) : Type 0 where
  pub all : AllByRecursion P es → P (k, x) → AllByRecursion P (insert_entry nat_cmp es k x)
  pub old : (e : ℕ × ModuleEntry) → Contains es e → Contains (insert_entry nat_cmp es k x) e
  pub new : Contains (insert_entry nat_cmp es k x) (k, x)

pub inserted_among : (P : ℕ × ModuleEntry → Type 0) (es : List (ℕ × ModuleEntry)) (k : ℕ) (x : ModuleEntry) (low : ℕ) → AreApart low (modules_in es) → k < x.end → lowest_shared (modules_in es) k x.end ≡ None → Inserted P es k x
inserted_among P [] k x low apart some none = record {
  all = λ all is. (is, tt);
  old = λ e has. absurd (none_in_nil e has);
  new = first (k, x) [];
}
inserted_among P (d ∷ es) k x low apart some none =
    let s : ShareNone (module_of d) (modules_in es) k x.end = share_none (module_of d) (modules_in es) k x.end none in
    elim (leb_tells d.0 k) [
      | inl p ↦
          let after : d.1.end ≤ k = elim (apart_from (module_of d) k x.end s.first) [ inl q ↦ absurd (omega (arith, p.1)) | inr q ↦ q ] in
          let below : d.0 < k = omega (arith, apart.1) in
          let test : ltb k d.0 ≡ false = grind (arith, nat_tests) in
          let other : (k == d.0) ≡ false = grind (arith, nat_tests) in
          let ih = inserted_among P es k x d.1.end apart.2 some s.rest in
          let is : insert_entry nat_cmp (d ∷ es) k x ≡ d ∷ insert_entry nat_cmp es k x = rw (test, other) refl in
          record {
            all = λ all new. subst (AllByRecursion P) (sym is) (all.0, ih.all all.1 new);
            old = λ e has. subst (λ (l : List (ℕ × ModuleEntry)). Contains l e) (sym is) (elim (here_or_later d es e has) [
              | inl same ↦ subst (λ y. Contains (d ∷ insert_entry nat_cmp es k x) y) same (first d (insert_entry nat_cmp es k x))
              | inr more ↦ later d (insert_entry nat_cmp es k x) e (ih.old e more)
            ]);
            new = subst (λ (l : List (ℕ × ModuleEntry)). Contains l (k, x)) (sym is) (later d (insert_entry nat_cmp es k x) (k, x) ih.new);
          }
      | inr p ↦
          let test : ltb k d.0 ≡ true = let at : k < d.0 = p.1 in grind (arith, nat_tests) in
          let is : insert_entry nat_cmp (d ∷ es) k x ≡ (k, x) ∷ d ∷ es = rw test refl in
          record {
            all = λ all new. subst (AllByRecursion P) (sym is) (new, all);
            old = λ e has. subst (λ (l : List (ℕ × ModuleEntry)). Contains l e) (sym is) (later (k, x) (d ∷ es) e has);
            new = subst (λ (l : List (ℕ × ModuleEntry)). Contains l (k, x)) (sym is) (first (k, x) (d ∷ es));
          }
    ]

pub record StandBoth (es : List (ℕ × ModuleEntry)) (hs : List AddedModule) : Type 0 where
  pub stand : AllByRecursion (StandsAt hs) es
  pub back : StandsBack es hs

pub stand_pushed : (es ds : List (ℕ × ModuleEntry)) (hs : List AddedModule) (k : ℕ) (x : ModuleEntry) (h : AddedModule) → AreApart 0 (modules_in es) → k < x.end → lowest_shared (modules_in es) k x.end ≡ None → ds ≡ insert_entry nat_cmp es k x → x.place ≡ length hs → h.holder ≡ module_of (k, x) →
    AllByRecursion (StandsAt hs) es → StandsBack es hs → StandBoth ds (hs ++ h ∷ [])
stand_pushed es ds hs k x h apart some none is place holder stand back =
    let among = inserted_among (StandsAt (hs ++ h ∷ [])) es k x 0 apart some none in
    let here : StandsAt (hs ++ h ∷ []) (k, x) = ap (λ (p : ℕ). slice_get (map holder_of (hs ++ h ∷ [])) p) place ∙ get_last hs h ∙ ap (λ (m : Module). Some m) holder in
    let wider = all_wider (StandsAt hs) (StandsAt (hs ++ h ∷ [])) es (λ e at. get_pushed hs h e.1.place (module_of e) at) stand in
    record {
      stand = subst (AllByRecursion (StandsAt (hs ++ h ∷ []))) (sym is) (among.all wider here);
      back = λ j m there. subst (λ (l : List (ℕ × ModuleEntry)). Contains l (entry_at j m)) (sym is) (elim (pushed_back hs h j m there) [
        | inl before ↦ among.old (entry_at j m) (back j m before)
        | inr last ↦
            let same : (k, x) ≡ entry_at j m = new_entry j m last.0 last.1 in
            subst (λ (e : ℕ × ModuleEntry). Contains (insert_entry nat_cmp es k x) e) same among.new
      ]);
    }
  where
    new_entry : (j : ℕ) (m : Module) → j ≡ length hs → h.holder ≡ m → (k, x) ≡ entry_at j m
    new_entry j m at is =
        let place_same : x.place ≡ j = place ∙ sym at in
        let module_same : module_of (k, x) ≡ m = sym holder ∙ is in
        ap (λ (p : ℕ). entry_at p (module_of (k, x))) place_same ∙ ap (λ (n : Module). entry_at j n) module_same
