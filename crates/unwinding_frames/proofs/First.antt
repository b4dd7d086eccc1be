-- What a search of call sites gives is what the first that decides says.
use Rattle.std.proofs.Common.{inl, inr, ◌≡◌, ◌≢◌, ℕ, zero, suc, ◌+◌, ◌<◌, ◌≤◌, ◌^◌, Bool, true, false, cond, eqb, List, [], ◌∷◌, length, Option, Some, None, Result, Ok, Err, refl, sym, ap, subst, ◌∙◌, arith}
use Rattle.std.specs.Prelude.{nat_lt, IfOk}
use Rattle.std.proofs.lemmas.Bool.{ltb-true, ltb-false, eqb-true, eqb-false}
use Rattle.memory_image.specs.Image.{Span}
use Rattle.unwind_definitions.specs.Faults.{◌>>=◌}
use Rattle.unwind_definitions.specs.declared.error.Error.TheVariants.{AddressOverflow}
use Rattle.unwind_definitions.specs.Input.{Input}
use Rattle.unwind_definitions.specs.Pointers.{Bases}
use Rattle.unwind_definitions.specs.Entries.{Fde}
use Rattle.unwind_definitions.specs.Function.{Action, NoAction, Terminate}
use Rattle.unwind_definitions.specs.LanguageTable.{input_at}
use Rattle.unwind_definitions.specs.Caller.{StepFault, Table}
use Rattle.unwind_definitions.specs.LanguageSearch.{Head, CallSite, head, call_site, site_action, sum_below, decision, decided_or, search_from, search, language_address, table_action, language_action, Says, SitesAsk, LanguageAsks}
use Rattle.unwinding_frames.specs.declared.frame.StepError.{StepError}
use Rattle.unwinding_frames.specs.declared.language_table.EhAction.{EhAction}
use Rattle.unwinding_frames.specs.LanguageViews.{action_of, answer_seen}
use Rattle.unwinding_frames.proofs.Taken.{site_takes}

abbrev acts : Action → Result Action StepFault
acts x = Ok x

abbrev addressed : ℕ → Result ℕ StepFault
addressed n = Ok n

same_action : (x y : Action) → acts x ≡ acts y → x ≡ y
same_action x y e = cc

no_bytes : (bytes : List ℕ) → length bytes ≡ 0 → bytes ≡ []
no_bytes [] e = refl
no_bytes (b ∷ bs) e = absurd (omega arith)

module _ (image : List Span) (bases : Bases) (start a : ℕ) (h : Head) where
  -- what a decision says of its call site
  abbrev IsDecision : CallSite → Result (Option Action) StepFault → Type 0
  IsDecision s (Ok (Some x)) = Says image bases start a h s x
  IsDecision s (Ok None) = start + s.from + s.size ≤ a
  IsDecision s (Err e) = Unit {0}

  abbrev chosen : Option Action → Result (Option Action) StepFault
  chosen x = Ok x

  abbrev overflow : Result ℕ StepFault
  overflow = Err (Table AddressOverflow)

  held : (s : CallSite) (r : Result Action StepFault) → site_action h s ≡ r → start + s.from ≤ a → a < start + s.from + s.size → IsDecision s (r >>= λ x. chosen (Some x))
  held s (Ok x) is low high = inr (low, high, is)
  held s (Err e) is low high = tt

  abbrev ended : CallSite → ℕ → Result (Option Action) StepFault
  ended s to = cond (nat_lt a to) (site_action h s >>= λ x. chosen (Some x)) (chosen None)

  abbrev begun : CallSite → ℕ → Result (Option Action) StepFault
  begun s from = cond (nat_lt a from) (chosen (Some Terminate)) (sum_below from s.size >>= ended s)

  by_range : (s : CallSite) → start + s.from ≤ a → (d : Bool) → nat_lt a (start + s.from + s.size) ≡ d → IsDecision s (cond d (site_action h s >>= λ x. chosen (Some x)) (chosen None))
  by_range s low true is = held s (site_action h s) refl low (ltb-true a (start + s.from + s.size) is)
  by_range s low false is = ltb-false a (start + s.from + s.size) is

  by_end : (s : CallSite) → start + s.from ≤ a → (b : Bool) → IsDecision s (cond b (Ok (start + s.from + s.size)) overflow >>= ended s)
  by_end s low false = tt
  by_end s low true = by_range s low (nat_lt a (start + s.from + s.size)) refl

  by_from : (s : CallSite) (d : Bool) → nat_lt a (start + s.from) ≡ d → IsDecision s (cond d (chosen (Some Terminate)) (sum_below (start + s.from) s.size >>= ended s))
  by_from s true is = inl (ltb-true a (start + s.from) is, refl)
  by_from s false is = by_end s (ltb-false a (start + s.from) is) (nat_lt (start + s.from + s.size) (2 ^ 64))

  by_start : (s : CallSite) (b : Bool) → IsDecision s (cond b (Ok (start + s.from)) overflow >>= begun s)
  by_start s false = tt
  by_start s true = by_from s (nat_lt a (start + s.from)) refl

  decision_is : (s : CallSite) → IsDecision s (decision start a h s)
  decision_is s = by_start s (nat_lt (start + s.from) (2 ^ 64))

  -- a call site that ends before the address, and what those after it ask
  after_it : (c d : Input) (s : CallSite) (x : Action) → call_site image bases h.site_encoding c ≡ Ok (s, d) → start + s.from + s.size ≤ a → SitesAsk image bases start a h d x → SitesAsk image bases start a h c x
  after_it c d s x reads ends (inl first) = inl (record { before = s ∷ first.before; place = first.place; precede = (d, reads, ends, first.precede); site = first.site; after = first.after; stands = first.stands; says = first.says })
  after_it c d s x reads ends (inr none) = inr (record { sites = s ∷ none.0.sites; end = none.0.end; precede = (d, reads, ends, none.0.precede); ends = none.0.ends }, none.1)

  at_end : (c : Input) (x : Action) → length c.bytes ≡ 0 → acts Terminate ≡ acts x → SitesAsk image bases start a h c x
  at_end c x none e = inr (record { sites = []; end = c; precede = refl; ends = no_bytes c.bytes none }, sym (same_action Terminate x e))

  abbrev later : ℕ → CallSite × Input → Result Action StepFault
  later turns s = decision start a h s.0 >>= λ d. decided_or d (search_from turns image bases start a h s.1)

  pub sites_ask : (turns : ℕ) (c : Input) (x : Action) → length c.bytes ≤ turns → search_from turns image bases start a h c ≡ Ok x → SitesAsk image bases start a h c x
  sites_ask zero c x enough e = at_end c x (omega arith) e
  sites_ask (suc turns) c x enough e = go (eqb (length c.bytes) 0) refl (call_site image bases h.site_encoding c) refl e (λ d few after. sites_ask turns d x few after)
    where
      decided : (s : CallSite) (d : Input) → call_site image bases h.site_encoding c ≡ Ok (s, d) → (r : Result (Option Action) StepFault) → IsDecision s r → (r >>= λ y. decided_or y (search_from turns image bases start a h d)) ≡ Ok x →
          (search_from turns image bases start a h d ≡ Ok x → SitesAsk image bases start a h d x) → SitesAsk image bases start a h c x
      decided s d reads (Err f) says e after = absurd cc
      decided s d reads (Ok None) says e after = after_it c d s x reads says (after e)
      decided s d reads (Ok (Some y)) says e after =
          inl (record { before = []; place = c; precede = refl; site = s; after = d; stands = reads; says = subst (Says image bases start a h s) (same_action y x e) says })

      go : (b : Bool) → eqb (length c.bytes) 0 ≡ b → (r : Result (CallSite × Input) StepFault) → call_site image bases h.site_encoding c ≡ r → cond b (acts Terminate) (r >>= later turns) ≡ Ok x →
          ((d : Input) → length d.bytes ≤ turns → search_from turns image bases start a h d ≡ Ok x → SitesAsk image bases start a h d x) → SitesAsk image bases start a h c x
      go true none r is e after = at_end c x (eqb-true (length c.bytes) 0 none) e
      go false some (Err f) is e after = absurd cc
      go false some (Ok s) is e after =
          let less = site_takes image bases h.site_encoding c s.1 s.0 is in
          decided s.0 s.1 is (decision start a h s.0) (decision_is s.0) e (after s.1 (omega arith))

-- What the language of a function asks is what its call sites do.
pub language_asks : (image : List Span) (bases : Bases) (fde : Fde) (a : ℕ) (x : Action) → language_action image bases fde a ≡ Ok x → LanguageAsks image bases fde a x
unfolding search
language_asks image bases fde a x e = go (language_address image fde) refl e
  where
    headed : (table : ℕ) → table ≢ 0 → language_address image fde ≡ Ok table → (r : Result Head StepFault) → head image (record bases { func = Some fde.start }) fde.start (input_at image table) ≡ r →
        (r >>= λ h. search_from (length h.sites.bytes) image (record bases { func = Some fde.start }) fde.start a h h.sites) ≡ Ok x → LanguageAsks image bases fde a x
    headed table some leads (Err f) is h = absurd cc
    headed table some leads (Ok t) is h = inr (table, some, leads, t, is, sites_ask image (record bases { func = Some fde.start }) fde.start a t (length t.sites.bytes) t.sites x (omega arith) h)

    tabled : (table : ℕ) → language_address image fde ≡ Ok table → (b : Bool) → eqb table 0 ≡ b → cond b (acts NoAction) (search image (record bases { func = Some fde.start }) fde.start a (input_at image table)) ≡ Ok x → LanguageAsks image bases fde a x
    tabled table leads true is h = let zero_is : table ≡ 0 = eqb-true table 0 is in inl (leads ∙ ap addressed zero_is, sym (same_action NoAction x h))
    tabled table leads false is h = headed table (eqb-false table 0 is) leads (head image (record bases { func = Some fde.start }) fde.start (input_at image table)) refl h

    go : (r : Result ℕ StepFault) → language_address image fde ≡ r → table_action image a (r >>= λ table. Ok (record { start = fde.start; lsda = table; bases = bases })) ≡ Ok x → LanguageAsks image bases fde a x
    go (Err f) is h = absurd cc
    go (Ok table) is h = tabled table is (eqb table 0) refl h

-- the same of the code's answer
pub result_asks : (image : List Span) (bases : Bases) (fde : Fde) (a : ℕ) (r : Result EhAction StepError) → answer_seen action_of r ≡ language_action image bases fde a → IfOk r (λ action. LanguageAsks image bases fde a (action_of action))
result_asks image bases fde a (Ok x) is = language_asks image bases fde a (action_of x) (sym is)
result_asks image bases fde a (Err e) is = tt
