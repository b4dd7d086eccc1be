-- Call sites, read one after another.
use Rattle.std.proofs.Common.{◌≡◌, ℕ, ◌+◌, ◌-◌, ◌^◌, Bool, true, false, cond, List, ◌∷◌, Result, Ok, Err, refl, sym, ap, subst, ◌∙◌}
use Rattle.std.specs.Prelude.{◌==◌, nat_lt}
use Rattle.std.specs.Bool.{Decides}
use Rattle.std.proofs.lemmas.Bool.{ne_eqb}
use Rattle.memory_image.specs.Image.{Span}
use Rattle.unwind_definitions.specs.declared.error.Error.{Error as Fault}
use Rattle.unwind_definitions.specs.Faults.{◌>>=◌}
use Rattle.unwind_definitions.specs.Input.{Input, sleb, skip, split, uleb}
use Rattle.unwind_definitions.specs.Function.{Action, NoAction, Cleanup, Catch, Filter, Site}
use Rattle.unwind_definitions.specs.LanguageTable.{AreSites, IsLanguageTable, action_of, input_at, numbered_action, site_at, site_bytes}
use Rattle.table_check.specs.declared.language.PadKind.{PadKind}
use Rattle.table_check.specs.declared.language.PadKind.TheVariants as kind
use Rattle.table_check.specs.declared.language.SiteNumbers.{SiteNumbers}
use Rattle.table_check.specs.Numbers.{IsNextSite, IsSpelled, asks_at, kind_at, kind_by, site_numbers, sites_read}
use Rattle.table_check.proofs.Deciding.{decides_as, decides_no}

bind_assoc : {A B C : Type 0} (r : Result A Fault) (f : A → Result B Fault) (g : B → Result C Fault) → ((r >>= f) >>= g) ≡ (r >>= λ x. f x >>= g)
bind_assoc (Ok x) f g = refl
bind_assoc (Err e) f g = refl

bind_ext : {A B : Type 0} (r : Result A Fault) (f g : A → Result B Fault) → ((x : A) → f x ≡ g x) → (r >>= f) ≡ (r >>= g)
bind_ext (Ok x) f g same = same x
bind_ext (Err e) f g same = refl

err_ok : {A : Type 0} (e : Fault) (x : A) (r : Result A Fault) → r ≡ Err e → r ≡ Ok x → ⊥
err_ok e x (Ok y) a b = absurd cc
err_ok e x (Err d) a b = absurd cc

-- what goes on to a value has one before it
before : {A B : Type 0} (r : Result A Fault) (f : A → Result B Fault) (y : B) → (r >>= f) ≡ Ok y → (x : A) × (r ≡ Ok x) × (f x ≡ Ok y)
before (Ok x) f y is = (x, refl, is)
before (Err e) f y is = absurd cc

-- ---- numbers

-- what four numbers make of a site
abbrev site_of_numbers : ℕ → Input → SiteNumbers × Input → Result (Site × Input) Fault
site_of_numbers start actions n = action_of start actions n.0.pad n.0.index >>= λ action. Ok (record { range = record { from = start + n.0.from; to = start + n.0.from + n.0.len }; action = action }, n.1)

site_by_numbers : (start : ℕ) (actions c : Input) → (site_numbers c >>= site_of_numbers start actions) ≡ site_at start actions c
site_by_numbers start actions c =
    bind_assoc (uleb c) _ (site_of_numbers start actions) ∙ bind_ext (uleb c) _ _ (λ from.
    bind_assoc (uleb from.1) _ (site_of_numbers start actions) ∙ bind_ext (uleb from.1) _ _ (λ len.
    bind_assoc (uleb len.1) _ (site_of_numbers start actions) ∙ bind_ext (uleb len.1) _ _ (λ pad.
    bind_assoc (uleb pad.1) _ (site_of_numbers start actions))))

abbrev input_in : Input → Result (Site × Input) Fault → Input
input_in d (Ok r) = r.1
input_in d (Err e) = d

abbrev site_in : Site → Result (Site × Input) Fault → Site
site_in d (Ok r) = r.0
site_in d (Err e) = d

module _ (start : ℕ) (actions c new : Input) (site : Site) where
  pub no_numbers : (e : Fault) → site_numbers c ≡ Err e → IsNextSite false (site_at start actions c) site new
  no_numbers e is other at = err_ok e (site, other) (site_at start actions c) (sym (site_by_numbers start actions c) ∙ ap (λ r. r >>= site_of_numbers start actions) is) at

  module _ (n : SiteNumbers) (is : site_numbers c ≡ Ok (n, new)) where
    made : site_at start actions c ≡ site_of_numbers start actions (n, new)
    made = sym (site_by_numbers start actions c) ∙ ap (λ r. r >>= site_of_numbers start actions) is

    spelled : IsSpelled start actions n site → site_of_numbers start actions (n, new) ≡ Ok (site, new)
    spelled s =
        let to : start + n.from + n.len ≡ site.range.to = ap (λ x. x + n.len) (sym s.from) ∙ sym s.to in
        ap (λ r. r >>= λ (a : Action). Ok (record { range = record { from = start + n.from; to = start + n.from + n.len }; action = a }, new)) s.asks
        ∙ ap (λ x. Ok (record { range = record { from = x; to = start + n.from + n.len }; action = site.action }, new)) (sym s.from)
        ∙ ap (λ x. Ok (record { range = record { from = site.range.from; to = x }; action = site.action }, new)) to

    abbrev placed : Action → Site
    placed a = record { range = record { from = start + n.from; to = start + n.from + n.len }; action = a }

    abbrev placing : Result Action Fault → Result (Site × Input) Fault
    placing r = r >>= λ a. Ok (placed a, new)

    unspelled : (r : Result Action Fault) (other : Input) → action_of start actions n.pad n.index ≡ r → placing r ≡ Ok (site, other) → IsSpelled start actions n site
    unspelled (Err e) other asks h = absurd cc
    unspelled (Ok a) other asks h =
        let same : placed a ≡ site = ap (site_in site) h in record {
          from = sym (ap (λ (x : Site). x.range.from) same);
          to = sym (ap (λ (x : Site). x.range.to) same) ∙ ap (λ x. x + n.len) (ap (λ (x : Site). x.range.from) same);
          asks = asks ∙ ap (λ (x : Site). Ok x.action) same;
        }

    pub next_site : (b : Bool) → Decides b (IsSpelled start actions n site) → IsNextSite b (site_at start actions c) site new
    next_site true d = made ∙ spelled (d.0 refl)
    next_site false d = λ other at. let h = d.1 (unspelled (action_of start actions n.pad n.index) other refl (sym made ∙ at)) in cc

-- ---- actions

numbered : (pad n : ℕ) → asks_at (kind_by n) pad ≡ numbered_action pad n
numbered pad n = elim (n == 0) as (λ b. asks_at (cond b kind.Cleanup (cond (nat_lt n (2 ^ 63)) kind.Catch kind.Filter)) pad ≡ cond b (Cleanup pad) (cond (nat_lt n (2 ^ 63)) (Catch pad) (Filter pad))) [
  | true ↦ refl
  | false ↦ elim (nat_lt n (2 ^ 63)) as (λ b. asks_at (cond b kind.Catch kind.Filter) pad ≡ cond b (Catch pad) (Filter pad)) [ true ↦ refl | false ↦ refl ]
]

by_kind : (pad : ℕ) (actions : Input) (index : ℕ) (b : Bool) → (cond b (Ok kind.Cleanup) (sleb (skip (index - 1) actions) >>= λ n. Ok (kind_by n.0)) >>= λ k. Ok (asks_at k pad)) ≡ cond b (Ok (Cleanup pad)) (sleb (skip (index - 1) actions) >>= λ n. Ok (numbered_action pad n.0))
by_kind pad actions index true = refl
by_kind pad actions index false = bind_assoc (sleb (skip (index - 1) actions)) _ _ ∙ bind_ext (sleb (skip (index - 1) actions)) _ _ (λ n. ap (λ a. Ok a) (numbered pad n.0))

asked_by_kind : (start : ℕ) (actions : Input) (pad index : ℕ) → (pad ≡ 0 → ⊥) → action_of start actions pad index ≡ (kind_at actions index >>= λ k. Ok (asks_at k (start + pad)))
asked_by_kind start actions pad index some = ap (λ b. cond b (Ok NoAction) (cond (index == 0) (Ok (Cleanup (start + pad))) (sleb (skip (index - 1) actions) >>= λ n. Ok (numbered_action (start + pad) n.0)))) (ne_eqb pad 0 some) ∙ sym (by_kind (start + pad) actions index (index == 0))

-- an action, where the kind is read
pub asks_of_kind : (start : ℕ) (actions : Input) (pad index : ℕ) (k : PadKind) (action : Action) (b : Bool) → (pad ≡ 0 → ⊥) → kind_at actions index ≡ Ok k → Decides b (asks_at k (start + pad) ≡ action) → Decides b (action_of start actions pad index ≡ Ok action)
asks_of_kind start actions pad index k action b some is d =
    let asked : action_of start actions pad index ≡ Ok (asks_at k (start + pad)) = asked_by_kind start actions pad index some ∙ ap (λ r. r >>= λ j. Ok (asks_at j (start + pad))) is in
    decides_as b (λ same. asked ∙ ap (λ a. Ok a) same) (λ h. let g : Ok (asks_at k (start + pad)) ≡ Ok action = sym asked ∙ h in cc) d

pub asks_nothing : (start : ℕ) (actions : Input) (pad index : ℕ) (e : Fault) (action : Action) → (pad ≡ 0 → ⊥) → kind_at actions index ≡ Err e → Decides false (action_of start actions pad index ≡ Ok action)
asks_nothing start actions pad index e action some is = decides_no (λ h.
    let g : Err e ≡ Ok action = sym (asked_by_kind start actions pad index some ∙ ap (λ r. r >>= λ j. Ok (asks_at j (start + pad))) is) ∙ h in cc)

-- ---- tables

module _ (start : ℕ) (actions : Input) where
  -- sites in bytes, and what is left of both
  pub record AreRead (listed : Input) (all : List Site) (c : Input) (rest : List Site) : Type 0 where
    pub whole : AreSites start actions c rest → AreSites start actions listed all
    pub part : AreSites start actions listed all → AreSites start actions c rest

  pub none_read : (listed : Input) (all : List Site) → AreRead listed all listed all
  none_read listed all = record { whole = λ h. h; part = λ h. h }

  pub one_read : (listed : Input) (all : List Site) (c new : Input) (s : Site) (rest : List Site) → AreRead listed all c (s ∷ rest) → IsNextSite true (site_at start actions c) s new → AreRead listed all new rest
  one_read listed all c new s rest so is = record {
    whole = λ h. so.whole (new, is, h);
    part = λ h. let p = so.part h in let same : p.0 ≡ new = rest_same (p.1) in subst (λ n. AreSites start actions n rest) same p.2;
  }
    where
      rest_same : {n : Input} → site_at start actions c ≡ Ok (s, n) → n ≡ new
      rest_same {n} at = ap (input_in n) (sym at ∙ is)

  pub not_read : (listed : Input) (all : List Site) (c new : Input) (s : Site) (rest : List Site) → AreRead listed all c (s ∷ rest) → IsNextSite false (site_at start actions c) s new → AreSites start actions listed all → ⊥
  not_read listed all c new s rest so isnt h = let p = so.part h in isnt p.0 p.1

abbrev pair_in : Input × Input → Result (Input × Input) Fault → Input × Input
pair_in d (Ok r) = r
pair_in d (Err e) = d

-- a language table, where its sites and its action table are found
pub table_by : (image : List Span) (a start : ℕ) (sites : List Site) (listed actions : Input) (b : Bool) → (a ≡ 0 → ⊥) → sites_read (input_at image a) ≡ Ok (listed, actions) → Decides b (AreSites start actions listed sites) → Decides b (IsLanguageTable image a start sites)
table_by image a start sites listed actions b some is d =
    let c : Input = input_at image a in
    let x = before (site_bytes c) (λ size. split size.0 size.1) (listed, actions) is in
    decides_as b
    (λ each. record { nonzero = some; size = x.0.0; after = x.0.1; header = x.1; listed = listed; actions = actions; parts = x.2; each = each })
    (λ t. let read = ap (λ r. r >>= λ size. split size.0 size.1) t.header ∙ t.parts in
    let same : (t.listed, t.actions) ≡ (listed, actions) = ap (pair_in (t.listed, t.actions)) (sym read ∙ is) in
    subst (λ (p : Input × Input). AreSites start p.1 p.0 sites) same t.each)
    d
