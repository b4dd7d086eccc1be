-- The last of the functions that are claimed.
use Rattle.std.proofs.Common.{◌≡◌, ℕ, zero, suc, ◌+◌, ◌-◌, ◌<◌, Bool, true, false, List, [], ◌∷◌, ◌++◌, length, map, get_or, Option, Some, None, Result, Ok, Err, refl, sym, ap, ◌∙◌, arith}
use Rattle.std.specs.Prelude.{OnErr, ◌==◌, is_some, slice_set}
use Rattle.std.specs.Option.{option_map, unwrap_or}
use Rattle.std.proofs.lemmas.Bool.{eqb-false}
use Rattle.std.proofs.lemmas.List.{map-append}
use Rattle.unwind_definitions.specs.Function.{Action, Function, Site}
use Rattle.unwinding_frames.specs.LanguageViews.{action_of}
use Rattle.table_check.specs.declared.claims.Claim.{Claim}
use Rattle.table_check.specs.declared.claims.ClaimedStep.{ClaimedStep}
use Rattle.table_check.specs.declared.claims.AddressRange.{AddressRange}
use Rattle.table_check.specs.declared.claims.ClaimedSite.{ClaimedSite}
use Rattle.table_check.specs.Claiming.{is_some_claim, is_some_table, with_body, with_last, with_site, with_step, with_table}
use Rattle.table_check.specs.ClaimViews.{function_of, prologue_step_of, range_of, site_of, sites_of, step_of}

-- a change of the last claim is one of the last function
pub last_changed : (change : Function → Function) (cs : List Claim) (i : ℕ) (c d : Claim) → i + 1 ≡ length cs → function_of c ≡ change (function_of (get_or cs i d)) → map function_of (slice_set cs i c) ≡ with_last change (map function_of cs)
last_changed change [] i c d is new = absurd (omega arith)
last_changed change (x ∷ []) zero c d is new = ap (λ f. f ∷ []) new
last_changed change (x ∷ []) (suc i) c d is new = absurd (omega arith)
last_changed change (x ∷ y ∷ cs) zero c d is new = absurd (omega arith)
last_changed change (x ∷ y ∷ cs) (suc i) c d is new = ap (λ fs. function_of x ∷ fs) (last_changed change (y ∷ cs) i c d (omega arith) new)

-- a claim that states the same function changes nothing
pub last_kept : (cs : List Claim) (i : ℕ) (c d : Claim) → i < length cs → function_of c ≡ function_of (get_or cs i d) → map function_of (slice_set cs i c) ≡ map function_of cs
last_kept [] i c d is new = absurd (omega arith)
last_kept (x ∷ cs) zero c d is new = ap (λ f. f ∷ map function_of cs) new
last_kept (x ∷ cs) (suc i) c d is new = ap (λ fs. function_of x ∷ fs) (last_kept cs i c d (omega arith) new)

pub on_err : {A E : Type 0} (r : Result A E) (P : Type 0) → P → OnErr r P
on_err (Ok x) P p = tt
on_err (Err e) P p = p

table_known : (b : Bool) (sites : List ClaimedSite) → is_some (sites_of b sites) ≡ b
table_known true sites = refl
table_known false sites = refl

-- whether the last claim has a language table
pub table_last : (cs : List Claim) (i : ℕ) (d : Claim) → i + 1 ≡ length cs → is_some_table (map function_of cs) ≡ (get_or cs i d).has_table
table_last [] i d is = absurd (omega arith)
table_last (x ∷ []) zero d is = table_known x.has_table x.sites.items
table_last (x ∷ []) (suc i) d is = absurd (omega arith)
table_last (x ∷ y ∷ cs) zero d is = absurd (omega arith)
table_last (x ∷ y ∷ cs) (suc i) d is = table_last (y ∷ cs) i d (omega arith)

-- where it has none, a call site isn't added
pub no_site : (start end : ℕ) (asks : Action) (fs : List Function) → is_some_table fs ≡ false → with_last (with_site start end asks) fs ≡ fs
no_site start end asks [] none = refl
no_site start end asks (f ∷ []) none = ap (λ s. record f { sites = s } ∷ []) (none_mapped f.sites none)
  where
    none_mapped : (o : Option (List Site)) → is_some o ≡ false → option_map (λ sites. sites ++ record { range = record { from = start; to = end }; action = asks } ∷ []) o ≡ o
    none_mapped None is = refl
    none_mapped (Some x) is = absurd cc
no_site start end asks (f ∷ g ∷ fs) none = ap (λ l. f ∷ l) (no_site start end asks (g ∷ fs) none)

-- ---- by what the code keeps

pub last_index : (len n r : ℕ) (e : Bool) → e ≡ (len == 0) → e ≡ false → r ≡ len → len ≡ n → r - 1 + 1 ≡ n
last_index len n r e is isnt same count = let h : len ≡ 0 → ⊥ = eqb-false len 0 (sym is ∙ isnt) in omega (arith, h, same, count)

pub changed : (change : Function → Function) (cs : List Claim) (i : ℕ) (c old : Claim) → i + 1 ≡ length cs → old ≡ get_or cs i old → function_of c ≡ change (function_of old) → map function_of (slice_set cs i c) ≡ with_last change (map function_of cs)
changed change cs i c old count there new = last_changed change cs i c old count (new ∙ ap (λ x. change (function_of x)) there)

pub kept : (cs : List Claim) (i : ℕ) (c old : Claim) → i + 1 ≡ length cs → old ≡ get_or cs i old → function_of c ≡ function_of old → map function_of (slice_set cs i c) ≡ map function_of cs
kept cs i c old count there new = last_kept cs i c old (omega arith) (new ∙ ap function_of there)

pub step_added : (old : Claim) (items : List ClaimedStep) (s : ClaimedStep) → items ≡ old.steps.items ++ s ∷ [] → record (function_of old) { prologue = map prologue_step_of items } ≡ with_step s.end (step_of s.step) (function_of old)
step_added old items s is = ap (λ l. record (function_of old) { prologue = l }) (ap (map prologue_step_of) is ∙ map-append prologue_step_of old.steps.items (s ∷ []))

pub body_added : (old : Claim) (items : List AddressRange) (r : AddressRange) → items ≡ old.bodies.items ++ r ∷ [] → record (function_of old) { bodies = map range_of items } ≡ with_body r.from r.to (function_of old)
body_added old items r is = ap (λ l. record (function_of old) { bodies = l }) (ap (map range_of) is ∙ map-append range_of old.bodies.items (r ∷ []))

pub site_added : (old : Claim) (items : List ClaimedSite) (s : ClaimedSite) → old.has_table ≡ true → items ≡ old.sites.items ++ s ∷ [] →
    record (function_of old) { sites = sites_of old.has_table items } ≡ with_site s.range.from s.range.to (action_of s.action) (function_of old)
site_added old items s table is = ap (λ l. record (function_of old) { sites = l }) (by_table old.has_table table)
  where
    by_table : (b : Bool) → b ≡ true → sites_of b items ≡ option_map (λ sites. sites ++ site_of s ∷ []) (sites_of b old.sites.items)
    by_table true t = ap Some (ap (map site_of) is ∙ map-append site_of old.sites.items (s ∷ []))
    by_table false t = absurd cc

-- a claim without a language table gets an empty one
pub table_added : (old : Claim) (items : List ClaimedSite) → old.has_table ≡ false → items ≡ [] → record (function_of old) { sites = sites_of true items } ≡ with_table (function_of old)
table_added old items isnt is = ap (λ l. record (function_of old) { sites = l }) (ap (λ l. Some (map site_of l)) is ∙ by_table old.has_table isnt)
  where
    by_table : (b : Bool) → b ≡ false → Some [] ≡ Some (unwrap_or (sites_of b old.sites.items) [])
    by_table true t = absurd cc
    by_table false t = refl

-- one that has a language table keeps it
pub table_there : (fs : List Function) → is_some_table fs ≡ true → with_last with_table fs ≡ fs
table_there [] is = refl
table_there (f ∷ []) is = ap (λ s. record f { sites = s } ∷ []) (same f.sites is)
  where
    same : (o : Option (List Site)) → is_some o ≡ true → Some (unwrap_or o []) ≡ o
    same None is = absurd cc
    same (Some x) is = refl
table_there (f ∷ g ∷ fs) is = ap (λ l. f ∷ l) (table_there (g ∷ fs) is)

pub some_claims : (cs : List Claim) → (map function_of cs ≡ [] → ⊥) → length cs ≡ 0 → ⊥
some_claims [] some is = some refl
some_claims (c ∷ cs) some is = omega arith

pub table_claims : (fs : List Function) → is_some_table fs ≡ true → is_some_claim fs ≡ true
table_claims [] is = absurd cc
table_claims (f ∷ fs) is = refl
