-- The chain of action records: its answer and the record that decides.
use Rattle.std.proofs.Common.{inl, inr, ◌≡◌, ◌≢◌, ℕ, zero, suc, ◌<◌, Bool, true, false, Result, Ok, Err, List, [], ◌∷◌, ◌++◌, length, refl, sym, ap, ◌∙◌, eqb, ◌||◌, arith, ◌↔◌}
use Rattle.std.specs.Prelude.{◌⊎◌}
use Rattle.std.proofs.lemmas.Bool.{eqb-true, eqb-false}
use Rattle.std.specs.List.{AllByRecursion, list_any}
use Rattle.memory_image.specs.Image.{Span}
use Rattle.unwind_definitions.specs.Pointers.{Bases}
use Rattle.unwind_definitions.specs.Caller.{StepFault}
use Rattle.unwinding_frames.specs.declared.cxx.error.CxxError.{CxxError}
use Rattle.unwinding_frames.specs.CxxTables.{CxxAction, NoAction, Cleanup, Handler, Terminate, Exception, CxxTable, ActionRecord, cxx_fault, action_record, record_takes, next_record, untaken, chain_from}
use Rattle.unwinding_frames.specs.CxxRecords.{LeadTo, is_cleanup, Takes, Passes, TakesFirst, NoneTakes}
use Rattle.unwinding_frames.proofs.CxxChains.{record_fault, takes_fault, taken, last, next_fault, goes_on}
use Rattle.unwinding_frames.proofs.CxxLists.{is_zero, is_some}

or_false : (b : Bool) → (b || false) ≡ b
or_false true = refl
or_false false = refl

or_or : (a b c : Bool) → ((a || b) || c) ≡ (a || (b || c))
or_or true b c = refl
or_or false b c = refl

module _ (image : List Span) (bases : Bases) (x : Exception) (t : CxxTable) (pad : ℕ) where
  -- the answer from a place on, with at most so many records, where a cleanup was met before or not
  abbrev answer : ℕ → ℕ → Bool → Result CxxAction CxxError
  answer turns place met = chain_from turns image bases x t pad place met

  -- a record that takes the exception
  record IsTaken (turns place : ℕ) (a : CxxAction) : Type 0 where
    before : List ActionRecord
    taker : ActionRecord
    leads : LeadTo t.head.actions place before taker
    few : length before < turns
    pass : AllByRecursion (Passes image bases x t) before
    takes : Takes image bases x t taker
    same : Handler pad taker.filter ≡ a

  -- or none
  record IsPassed (turns place : ℕ) (met : Bool) (a : CxxAction) : Type 0 where
    before : List ActionRecord
    last : ActionRecord
    leads : LeadTo t.head.actions place before last
    few : length before < turns
    pass : AllByRecursion (Passes image bases x t) before
    passes : Passes image bases x t last
    ends : last.distance ≡ 0
    same : untaken pad (met || list_any is_cleanup (before ++ (last ∷ []))) ≡ a

  decide : (turns place : ℕ) (met : Bool) (a : CxxAction) → answer turns place met ≡ Ok a → IsTaken turns place a ⊎ IsPassed turns place met a
  decide zero place met a is = absurd cc
  decide (suc k) place met a is = by_read (λ next m says. decide k next m a says) (action_record t.head.actions place) refl
    where
      Later : Type 0
      Later = (next : ℕ) (m : Bool) → answer k next m ≡ Ok a → IsTaken k next a ⊎ IsPassed k next m a

      refused : (e : CxxError) → answer (suc k) place met ≡ Err e → IsTaken (suc k) place a ⊎ IsPassed (suc k) place met a
      refused e fails = let h : Err e ≡ Ok a = sym fails ∙ is in absurd cc

      longer : (r : ActionRecord) (next : ℕ) → action_record t.head.actions place ≡ Ok r → Passes image bases x t r → r.distance ≢ 0 → next_record (length t.head.actions.bytes) r ≡ Ok next
          → IsTaken k next a ⊎ IsPassed k next (met || eqb r.filter 0) a → IsTaken (suc k) place a ⊎ IsPassed (suc k) place met a
      longer r next reads passes some leads (inl it) = let few = it.few in inl (record {
        before = r ∷ it.before;
        taker = it.taker;
        leads = (reads, some, next, leads, it.leads);
        few = omega arith;
        pass = (passes, it.pass);
        takes = it.takes;
        same = it.same;
      })
      longer r next reads passes some leads (inr it) = let few = it.few in inr (record {
        before = r ∷ it.before;
        last = it.last;
        leads = (reads, some, next, leads, it.leads);
        few = omega arith;
        pass = (passes, it.pass);
        passes = it.passes;
        ends = it.ends;
        same = ap (untaken pad) (sym (or_or met (eqb r.filter 0) (list_any is_cleanup (it.before ++ (it.last ∷ []))))) ∙ it.same;
      })

      by_next : Later → (r : ActionRecord) → action_record t.head.actions place ≡ Ok r → Passes image bases x t r → eqb r.distance 0 ≡ false → (o : Result ℕ CxxError) → next_record (length t.head.actions.bytes) r ≡ o → IsTaken (suc k) place a ⊎ IsPassed (suc k) place met a
      by_next later r reads passes some (Err e) fails = refused e (next_fault image bases x t pad k (suc k) place met refl r reads passes some e fails)
      by_next later r reads passes some (Ok next) leads =
          longer r next reads passes (eqb-false r.distance 0 some) leads (later next (met || eqb r.filter 0) (sym (goes_on image bases x t pad k (suc k) place met refl r reads passes some next leads) ∙ is))

      by_end : Later → (r : ActionRecord) → action_record t.head.actions place ≡ Ok r → Passes image bases x t r → (b : Bool) → eqb r.distance 0 ≡ b → IsTaken (suc k) place a ⊎ IsPassed (suc k) place met a
      by_end later r reads passes false some = by_next later r reads passes some (next_record (length t.head.actions.bytes) r) refl
      by_end later r reads passes true none =
          let h : Ok (untaken pad (met || eqb r.filter 0)) ≡ Ok a = sym (last image bases x t pad k (suc k) place met refl r reads passes none) ∙ is in
          let said : untaken pad (met || eqb r.filter 0) ≡ a = cc in
          inr (record {
            before = [];
            last = r;
            leads = reads;
            few = omega arith;
            pass = tt;
            passes = passes;
            ends = eqb-true r.distance 0 none;
            same = ap (λ b. untaken pad (met || b)) (or_false (eqb r.filter 0)) ∙ said;
          })

      by_test : Later → (r : ActionRecord) → action_record t.head.actions place ≡ Ok r → (o : Result Bool CxxError) → record_takes image bases x t.types r.filter ≡ o → IsTaken (suc k) place a ⊎ IsPassed (suc k) place met a
      by_test later r reads (Err e) fails = refused e (takes_fault image bases x t pad k (suc k) place met refl r reads e fails)
      by_test later r reads (Ok false) passes = by_end later r reads passes (eqb r.distance 0) refl
      by_test later r reads (Ok true) takes =
          let h : Ok (Handler pad r.filter) ≡ Ok a = sym (taken image bases x t pad k (suc k) place met refl r reads takes) ∙ is in
          inl (record { before = []; taker = r; leads = reads; few = omega arith; pass = tt; takes = takes; same = cc })

      by_read : Later → (o : Result ActionRecord StepFault) → action_record t.head.actions place ≡ o → IsTaken (suc k) place a ⊎ IsPassed (suc k) place met a
      by_read later (Err e) fails = refused (cxx_fault e) (record_fault image bases x t pad k (suc k) place met refl e fails)
      by_read later (Ok r) reads = by_test later r reads (record_takes image bases x t.types r.filter) refl

  -- and back
  taken_by : (before : List ActionRecord) (turns place : ℕ) (met : Bool) (taker : ActionRecord) → LeadTo t.head.actions place before taker → length before < turns → AllByRecursion (Passes image bases x t) before
      → Takes image bases x t taker → answer turns place met ≡ Ok (Handler pad taker.filter)
  taken_by before zero place met taker leads few pass takes = absurd (omega arith)
  taken_by [] (suc k) place met taker leads few pass takes = taken image bases x t pad k (suc k) place met refl taker leads takes
  taken_by (r ∷ rs) (suc k) place met taker leads few pass takes =
      goes_on image bases x t pad k (suc k) place met refl r leads.0 pass.0 (is_some r.distance leads.1) leads.2 leads.3 ∙ taken_by rs k leads.2 (met || eqb r.filter 0) taker leads.4 (omega arith) pass.1 takes

  passed_by : (before : List ActionRecord) (turns place : ℕ) (met : Bool) (end : ActionRecord) → LeadTo t.head.actions place before end → length before < turns → AllByRecursion (Passes image bases x t) before
      → Passes image bases x t end → end.distance ≡ 0 → answer turns place met ≡ Ok (untaken pad (met || list_any is_cleanup (before ++ (end ∷ []))))
  passed_by before zero place met end leads few pass passes ends = absurd (omega arith)
  passed_by [] (suc k) place met end leads few pass passes ends =
      last image bases x t pad k (suc k) place met refl end leads passes (is_zero end.distance ends) ∙ ap (λ b. Ok (untaken pad (met || b))) (sym (or_false (eqb end.filter 0)))
  passed_by (r ∷ rs) (suc k) place met end leads few pass passes ends =
      goes_on image bases x t pad k (suc k) place met refl r leads.0 pass.0 (is_some r.distance leads.1) leads.2 leads.3 ∙ passed_by rs k leads.2 (met || eqb r.filter 0) end leads.4 (omega arith) pass.1 passes ends
      ∙ ap (λ b. Ok (untaken pad b)) (or_or met (eqb r.filter 0) (list_any is_cleanup (rs ++ (end ∷ []))))

  abbrev size : ℕ
  size = length t.head.actions.bytes

  no_handler : (b : Bool) (filter : ℕ) → untaken pad b ≡ Handler pad filter → ⊥
  no_handler true filter is = absurd cc
  no_handler false filter is = absurd cc

  cleans : (b : Bool) → untaken pad b ≡ Cleanup pad → b ≡ true
  cleans true is = refl
  cleans false is = absurd cc

  cleans_not : (b : Bool) → untaken pad b ≡ NoAction → b ≡ false
  cleans_not true is = absurd cc
  cleans_not false is = refl

  pub handled : (first filter : ℕ) → (answer size first false ≡ Ok (Handler pad filter)) ↔ TakesFirst image bases x t first filter
  handled first filter = (to, from)
    where
      to : answer size first false ≡ Ok (Handler pad filter) → TakesFirst image bases x t first filter
      to is = elim (decide size first false (Handler pad filter) is) [
        | inl it ↦ let same : Handler pad it.taker.filter ≡ Handler pad filter = it.same in
            record { before = it.before; taker = it.taker; met = record { leads = it.leads; few = it.few; pass = it.pass }; takes = it.takes; number = cc }
        | inr it ↦ absurd (no_handler (list_any is_cleanup (it.before ++ (it.last ∷ []))) filter it.same)
      ]

      from : TakesFirst image bases x t first filter → answer size first false ≡ Ok (Handler pad filter)
      from it = taken_by it.before size first false it.taker it.met.leads it.met.few it.met.pass it.takes ∙ ap (λ n. Ok (Handler pad n)) it.number

  none_by : (first : ℕ) (b : Bool) → NoneTakes image bases x t first b → answer size first false ≡ Ok (untaken pad b)
  none_by first b it = passed_by it.before size first false it.last it.met.leads it.met.few it.met.pass it.passes it.ends ∙ ap (λ c. Ok (untaken pad c)) it.cleanup

  none_of : (first : ℕ) (b : Bool) (a : CxxAction) → answer size first false ≡ Ok a → ((n : ℕ) → Handler pad n ≡ a → ⊥) → ((c : Bool) → untaken pad c ≡ a → c ≡ b) → NoneTakes image bases x t first b
  none_of first b a is other tells = elim (decide size first false a is) [
    | inl it ↦ absurd (other it.taker.filter it.same)
    | inr it ↦ record {
      before = it.before;
      last = it.last;
      met = record { leads = it.leads; few = it.few; pass = it.pass };
      passes = it.passes;
      ends = it.ends;
      cleanup = tells (list_any is_cleanup (it.before ++ (it.last ∷ []))) it.same;
    }
  ]

  pub cleaned : (first : ℕ) → (answer size first false ≡ Ok (Cleanup pad)) ↔ NoneTakes image bases x t first true
  cleaned first = (λ is. none_of first true (Cleanup pad) is (λ n e. absurd cc) cleans, none_by first true)

  pub passed : (first : ℕ) → (answer size first false ≡ Ok NoAction) ↔ NoneTakes image bases x t first false
  passed first = (λ is. none_of first false NoAction is (λ n e. absurd cc) cleans_not, none_by first false)

  no_end : (b : Bool) → untaken pad b ≡ Terminate → ⊥
  no_end true is = absurd cc
  no_end false is = absurd cc

  other_pad : (b : Bool) (q : ℕ) → untaken pad b ≡ Cleanup q → pad ≡ q
  other_pad true q is = cc
  other_pad false q is = absurd cc

  -- a chain's landing pad is that of its call site
  pub own_pad : (first q filter : ℕ) → answer size first false ≡ Ok (Handler q filter) → pad ≡ q
  own_pad first q filter is = elim (decide size first false (Handler q filter) is) [
    | inl it ↦ let same : Handler pad it.taker.filter ≡ Handler q filter = it.same in cc
    | inr it ↦ absurd (not_handler (list_any is_cleanup (it.before ++ (it.last ∷ []))) it.same)
  ]
    where
      not_handler : (b : Bool) → untaken pad b ≡ Handler q filter → ⊥
      not_handler true is = absurd cc
      not_handler false is = absurd cc

  pub own_pad_of_cleanup : (first q : ℕ) → answer size first false ≡ Ok (Cleanup q) → pad ≡ q
  own_pad_of_cleanup first q is = elim (decide size first false (Cleanup q) is) [
    | inl it ↦ let wrong : Handler pad it.taker.filter ≡ Cleanup q = it.same in absurd cc
    | inr it ↦ other_pad (list_any is_cleanup (it.before ++ (it.last ∷ []))) q it.same
  ]

  -- a chain doesn't end the program
  pub goes_on_or_lands : (first : ℕ) → answer size first false ≡ Ok Terminate → ⊥
  goes_on_or_lands first is = elim (decide size first false Terminate is) [
    | inl it ↦ let wrong : Handler pad it.taker.filter ≡ Terminate = it.same in absurd cc
    | inr it ↦ no_end (list_any is_cleanup (it.before ++ (it.last ∷ []))) it.same
  ]
