-- Lists that are read item by item, and functions that are claimed part by part.
use Rattle.std.proofs.Common.{ℕ, suc, ◌+◌, ◌<◌, ◌≤◌, ◌≡◌, ◌≢◌, drop, get_or, List, [], ◌∷◌, ◌++◌, map, length, Option, Some, None, Vec, Global, option_map, refl, sym, ap, ◌∙◌, append_assoc, append-nil, arith}
use Rattle.std.proofs.Math.ListN.{drop_of_length-le}
use Rattle.std.proofs.Math.Numerals.{suc-eq-add-one}
use Rattle.std.proofs.Math.Seq.{drop-cons}
use Rattle.serde_json.specs.View.{items_view, view}
use Rattle.serde_json.specs.declared.value.Value.{Value}
use Rattle.unwind_definitions.specs.Function.{Function, Site}
use Rattle.unwinding_frames.specs.LanguageViews.{action_of}
use Rattle.table_check.specs.ClaimViews.{prologue_step_of, range_of, site_of, step_of}
use Rattle.table_check.specs.Claiming.{with_body, with_claim, with_last, with_site, with_step, with_table}
use Rattle.table_check.specs.declared.claims.AddressRange.{AddressRange}
use Rattle.table_check.specs.declared.claims.ClaimedSite.{ClaimedSite}
use Rattle.table_check.specs.declared.claims.ClaimedStep.{ClaimedStep}
use Rattle.claim_checks.specs.declared.functions.ReadFunction.{ReadFunction}
use Rattle.claim_checks.specs.Adding.{with_bodies, with_sites, with_steps}
use Rattle.claim_checks.specs.Functions.{action_with, range_in, site_in, site_with}
use Rattle.claim_checks.specs.Views.{function_of, function_with}

-- the values before, and then those that are read
abbrev pub with_front : {A : Type 0} → List A → Option (List A) → Option (List A)
with_front front read = option_map (λ xs. front ++ xs) read

pub range_in_other : (vs : List Value) → length vs ≢ 2 → range_in (items_view vs) ≡ None
range_in_other [] h = refl
range_in_other (a ∷ []) h = refl
range_in_other (a ∷ b ∷ []) h = absurd (h refl)
range_in_other (a ∷ b ∷ c ∷ vs) h = refl

pub site_in_other : (vs : List Value) → length vs ≢ 3 → length vs ≢ 4 → site_in (items_view vs) ≡ None
site_in_other [] h k = refl
site_in_other (a ∷ []) h k = refl
site_in_other (a ∷ b ∷ []) h k = refl
site_in_other (a ∷ b ∷ c ∷ []) h k = absurd (h refl)
site_in_other (a ∷ b ∷ c ∷ d ∷ []) h k = absurd (k refl)
site_in_other (a ∷ b ∷ c ∷ d ∷ e ∷ vs) h k = refl

pub site_of_four : (vs : List Value) (a b c d : Value) → 4 ≤ length vs → length vs < 5 → a ≡ get_or vs 0 a → b ≡ get_or vs 1 b → c ≡ get_or vs 2 c → d ≡ get_or vs 3 d → site_in (items_view vs) ≡ site_with (view a) (view b) (action_with (view c) (view d))
site_of_four [] a b c d least most p q r s = absurd (omega arith)
site_of_four (w ∷ []) a b c d least most p q r s = absurd (omega arith)
site_of_four (w ∷ x ∷ []) a b c d least most p q r s = absurd (omega arith)
site_of_four (w ∷ x ∷ y ∷ []) a b c d least most p q r s = absurd (omega arith)
site_of_four (w ∷ x ∷ y ∷ z ∷ []) a b c d least most p q r s = rw (p, q, r, s) refl
site_of_four (w ∷ x ∷ y ∷ z ∷ v ∷ vs) a b c d least most p q r s = absurd (omega arith)

-- ---- the last function changed twice

pub last_twice : (f g h : Function → Function) → ((x : Function) → g (f x) ≡ h x) → (fs : List Function) → with_last g (with_last f fs) ≡ with_last h fs
last_twice f g h same [] = refl
last_twice f g h same (x ∷ []) = ap (λ y. y ∷ []) (same x)
last_twice f g h same (x ∷ y ∷ []) = ap (λ z. x ∷ z ∷ []) (same y)
last_twice f g h same (x ∷ y ∷ z ∷ fs) = ap (λ ys. x ∷ ys) (last_twice f g h same (y ∷ z ∷ fs))

pub last_same : (f : Function → Function) → ((x : Function) → f x ≡ x) → (fs : List Function) → with_last f fs ≡ fs
last_same f same [] = refl
last_same f same (x ∷ []) = ap (λ y. y ∷ []) (same x)
last_same f same (x ∷ y ∷ fs) = ap (λ ys. x ∷ ys) (last_same f same (y ∷ fs))

pub last_added : (f : Function → Function) (fs : List Function) (x : Function) → with_last f (fs ++ x ∷ []) ≡ fs ++ f x ∷ []
last_added f [] x = refl
last_added f (y ∷ []) x = refl
last_added f (y ∷ z ∷ fs) x = ap (λ ys. y ∷ ys) (last_added f (z ∷ fs) x)

-- ---- one more step, range or call site

pub no_steps : (fs : List Function) → with_last (with_steps []) fs ≡ fs
no_steps = last_same (with_steps []) (λ f. ap (λ p. record f { prologue = p }) (append-nil f.prologue))

pub more_steps : (s : ClaimedStep) (ss : List ClaimedStep) (fs : List Function) → with_last (with_steps ss) (with_last (with_step s.end (step_of s.step)) fs) ≡ with_last (with_steps (s ∷ ss)) fs
more_steps s ss = last_twice (with_step s.end (step_of s.step)) (with_steps ss) (with_steps (s ∷ ss)) (λ f. ap (λ p. record f { prologue = p }) (append_assoc f.prologue (prologue_step_of s ∷ []) (map prologue_step_of ss)))

pub no_bodies : (fs : List Function) → with_last (with_bodies []) fs ≡ fs
no_bodies = last_same (with_bodies []) (λ f. ap (λ p. record f { bodies = p }) (append-nil f.bodies))

pub more_bodies : (r : AddressRange) (rs : List AddressRange) (fs : List Function) → with_last (with_bodies rs) (with_last (with_body r.from r.to) fs) ≡ with_last (with_bodies (r ∷ rs)) fs
more_bodies r rs = last_twice (with_body r.from r.to) (with_bodies rs) (with_bodies (r ∷ rs)) (λ f. ap (λ p. record f { bodies = p }) (append_assoc f.bodies (range_of r ∷ []) (map range_of rs)))

more_in : (o : Option (List Site)) (x : Site) (xs : List Site) → option_map (λ old. old ++ xs) (option_map (λ sites. sites ++ x ∷ []) o) ≡ option_map (λ old. old ++ x ∷ xs) o
more_in None x xs = refl
more_in (Some old) x xs = ap Some (append_assoc old (x ∷ []) xs)

none_in : (o : Option (List Site)) → option_map (λ old. old ++ []) o ≡ o
none_in None = refl
none_in (Some old) = ap Some (append-nil old)

pub no_sites : (fs : List Function) → with_last (with_sites []) fs ≡ fs
no_sites = last_same (with_sites []) (λ f. ap (λ s. record f { sites = s }) (none_in f.sites))

pub more_sites : (s : ClaimedSite) (ss : List ClaimedSite) (fs : List Function) → with_last (with_sites ss) (with_last (with_site s.range.from s.range.to (action_of s.action)) fs) ≡ with_last (with_sites (s ∷ ss)) fs
more_sites s ss = last_twice (with_site s.range.from s.range.to (action_of s.action)) (with_sites ss) (with_sites (s ∷ ss)) (λ f. ap (λ o. record f { sites = o }) (more_in f.sites (site_of s) (map site_of ss)))

-- ---- parts that are added one after another

module _ (ss : List ClaimedStep) (i : ℕ) where
  pub step_more : (d : ClaimedStep) → i < length ss → (old new all : List Function) → new ≡ with_last (with_step (get_or ss i d).end (step_of (get_or ss i d).step)) old → with_last (with_steps (drop i ss)) old ≡ all → with_last (with_steps (drop (i + 1) ss)) new ≡ all
  step_more d below old new all is held =
      ap (λ n. with_last (with_steps (drop n ss)) new) (sym (suc-eq-add-one i)) ∙ ap (with_last (with_steps (drop (suc i) ss))) is
      ∙ more_steps (get_or ss i d) (drop (suc i) ss) old ∙ ap (λ xs. with_last (with_steps xs) old) (sym (drop-cons ss i d below)) ∙ held

  pub step_done : length ss ≤ i → (new all : List Function) → with_last (with_steps (drop i ss)) new ≡ all → new ≡ all
  step_done done new all held = sym (no_steps new) ∙ ap (λ xs. with_last (with_steps xs) new) (sym (drop_of_length-le ss done)) ∙ held

module _ (rs : List AddressRange) (i : ℕ) where
  pub body_more : (d : AddressRange) → i < length rs → (old new all : List Function) → new ≡ with_last (with_body (get_or rs i d).from (get_or rs i d).to) old → with_last (with_bodies (drop i rs)) old ≡ all → with_last (with_bodies (drop (i + 1) rs)) new ≡ all
  body_more d below old new all is held =
      ap (λ n. with_last (with_bodies (drop n rs)) new) (sym (suc-eq-add-one i)) ∙ ap (with_last (with_bodies (drop (suc i) rs))) is
      ∙ more_bodies (get_or rs i d) (drop (suc i) rs) old ∙ ap (λ xs. with_last (with_bodies xs) old) (sym (drop-cons rs i d below)) ∙ held

  pub body_done : length rs ≤ i → (new all : List Function) → with_last (with_bodies (drop i rs)) new ≡ all → new ≡ all
  body_done done new all held = sym (no_bodies new) ∙ ap (λ xs. with_last (with_bodies xs) new) (sym (drop_of_length-le rs done)) ∙ held

module _ (ss : List ClaimedSite) (i : ℕ) where
  pub site_more : (d : ClaimedSite) → i < length ss → (old new all : List Function) → new ≡ with_last (with_site (get_or ss i d).range.from (get_or ss i d).range.to (action_of (get_or ss i d).action)) old → with_last (with_sites (drop i ss)) old ≡ all → with_last (with_sites (drop (i + 1) ss)) new ≡ all
  site_more d below old new all is held =
      ap (λ n. with_last (with_sites (drop n ss)) new) (sym (suc-eq-add-one i)) ∙ ap (with_last (with_sites (drop (suc i) ss))) is
      ∙ more_sites (get_or ss i d) (drop (suc i) ss) old ∙ ap (λ xs. with_last (with_sites xs) old) (sym (drop-cons ss i d below)) ∙ held

  pub site_done : length ss ≤ i → (new all : List Function) → with_last (with_sites (drop i ss)) new ≡ all → new ≡ all
  site_done done new all held = sym (no_sites new) ∙ ap (λ xs. with_last (with_sites xs) new) (sym (drop_of_length-le ss done)) ∙ held

-- ---- a function that is claimed

abbrev begun : ReadFunction → Function
begun f = record { start = f.start; end = f.end; prologue = []; bodies = []; sites = None; outermost = f.is_outermost }

abbrev without_sites : ReadFunction → Function
without_sites f = function_with f.start f.end f.is_outermost f.steps.items f.bodies.items None

-- its steps and its body are added
bodied_is : (f : ReadFunction) (old pushed stepped bodied : List Function) (steps : List ClaimedStep) (bodies : List AddressRange) → steps ≡ f.steps.items → bodies ≡ f.bodies.items → pushed ≡ with_claim f.start f.end f.is_outermost old
    → stepped ≡ with_last (with_steps steps) pushed → bodied ≡ with_last (with_bodies bodies) stepped → bodied ≡ old ++ without_sites f ∷ []
bodied_is f old pushed stepped bodied steps bodies is_steps is_bodies is_pushed is_stepped is_bodied =
    is_bodied ∙ ap (λ bs. with_last (with_bodies bs) stepped) is_bodies
    ∙ ap (with_last (with_bodies f.bodies.items)) (is_stepped ∙ ap (λ ss. with_last (with_steps ss) pushed) is_steps ∙ ap (with_last (with_steps f.steps.items)) is_pushed ∙ last_added (with_steps f.steps.items) old (begun f))
    ∙ last_added (with_bodies f.bodies.items) old (with_steps f.steps.items (begun f))

pub claimed_without : (f : ReadFunction) (old pushed stepped bodied : List Function) (steps : List ClaimedStep) (bodies : List AddressRange) → steps ≡ f.steps.items → bodies ≡ f.bodies.items → pushed ≡ with_claim f.start f.end f.is_outermost old
    → stepped ≡ with_last (with_steps steps) pushed → bodied ≡ with_last (with_bodies bodies) stepped → f.sites ≡ None → bodied ≡ old ++ function_of f ∷ []
claimed_without f old pushed stepped bodied steps bodies is_steps is_bodies is_pushed is_stepped is_bodied none =
    rw none (bodied_is f old pushed stepped bodied steps bodies is_steps is_bodies is_pushed is_stepped is_bodied)

pub claimed_with : (f : ReadFunction) (old pushed stepped bodied tabled sited : List Function) (steps : List ClaimedStep) (bodies : List AddressRange) (vec : Vec ClaimedSite Global) (sites : List ClaimedSite) → steps ≡ f.steps.items → bodies ≡ f.bodies.items
    → sites ≡ vec.items → pushed ≡ with_claim f.start f.end f.is_outermost old → stepped ≡ with_last (with_steps steps) pushed → bodied ≡ with_last (with_bodies bodies) stepped → tabled ≡ with_last with_table bodied
    → sited ≡ with_last (with_sites sites) tabled → f.sites ≡ Some vec → sited ≡ old ++ function_of f ∷ []
claimed_with f old pushed stepped bodied tabled sited steps bodies vec sites is_steps is_bodies is_sites is_pushed is_stepped is_bodied is_tabled is_sited some =
    rw some
    (is_sited ∙ ap (λ ss. with_last (with_sites ss) tabled) is_sites
    ∙ ap (with_last (with_sites vec.items)) (is_tabled ∙ ap (with_last with_table) (bodied_is f old pushed stepped bodied steps bodies is_steps is_bodies is_pushed is_stepped is_bodied) ∙ last_added with_table old (without_sites f))
    ∙ last_added (with_sites vec.items) old (with_table (without_sites f)))
