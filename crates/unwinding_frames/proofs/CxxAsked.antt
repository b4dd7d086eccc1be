-- What a C++ function asks, by the call site and the action record that decide.
use Rattle.std.proofs.Common.{inl, inr, ◌≡◌, ◌≢◌, ℕ, ◌-◌, Bool, true, false, Option, Some, None, Result, Ok, Err, List, length, refl, sym, ap, subst, ◌∙◌, eqb, ltb, arith, ◌↔◌}
use Rattle.std.specs.Prelude.{◌⊎◌, IsTrue, IsFalse}
use Rattle.std.proofs.lemmas.Bool.{eqb-true, eqb-false}
use Rattle.std.proofs.lemmas.Bool.Decides.{nat_tests}
use Rattle.memory_image.specs.Image.{Span}
use Rattle.memory_image.specs.Results.{result_map}
use Rattle.unwind_definitions.specs.Pointers.{Bases}
use Rattle.unwind_definitions.specs.Caller.{StepFault}
use Rattle.unwind_definitions.specs.LanguageTable.{input_at}
use Rattle.unwind_definitions.specs.LanguageSearch.{CallSite, LanguagePlace, sum_below}
use Rattle.unwinding_frames.specs.declared.cxx.error.CxxError.{CxxError}
use Rattle.unwinding_frames.specs.declared.cxx.error.CxxError.TheVariants.{RecordOutside}
use Rattle.unwinding_frames.specs.CxxTables.{CxxAction, NoAction, Cleanup, Handler, Terminate, Exception, CxxTable, cxx_fault, cxx_table, site_from, chain_from, indexed_action, cxx_site_action, cxx_search, cxx_place_search, cxx_place_action, ends_instead, entered}
use Rattle.unwinding_frames.specs.CxxRecords.{NoneTakes, bases_at, DecidesAt, LandsAt, IsIndexed, FindsHandler, LeavesNone, AsksHandler, AsksCleanup, AsksNothing, AsksEnd}
use Rattle.unwinding_frames.proofs.CxxLists.{is_zero, is_some}
use Rattle.unwinding_frames.proofs.CxxRecords as records

-- a value isn't a fault
not_fault : {A : Type 0} (e : CxxError) (a : CxxAction) → (r : Result CxxAction CxxError) → r ≡ Err e → r ≡ Ok a → A
not_fault e a r fails is = let h : Err e ≡ Ok a = sym fails ∙ is in absurd cc

module _ (image : List Span) (x : Exception) (p : LanguagePlace) (a : ℕ) where
  abbrev bases : Bases
  bases = bases_at p

  -- ---- the chain of an index

  record OfChain (t : CxxTable) (s : CallSite) (pad : ℕ) (asked : CxxAction) : Type 0 where
    indexed : IsIndexed t s
    says : chain_from (length t.head.actions.bytes) image bases x t pad (s.index - 1) false ≡ Ok asked

  by_index : (t : CxxTable) (s : CallSite) (pad : ℕ) (asked : CxxAction) → indexed_action image bases x t pad s.index ≡ Ok asked → ((s.index ≡ 0) × (Cleanup pad ≡ asked)) ⊎ OfChain t s pad asked
  by_index t s pad asked is = go (eqb s.index 0) refl
    where
      inside : (b : Bool) → eqb s.index 0 ≡ false → ltb (s.index - 1) (length t.head.actions.bytes) ≡ b → OfChain t s pad asked
      inside true some less =
          let says : indexed_action image bases x t pad s.index ≡ chain_from (length t.head.actions.bytes) image bases x t pad (s.index - 1) false = rw (some, less) refl in
          record { indexed = record { some = eqb-false s.index 0 some; inside = grind (arith, nat_tests) }; says = sym says ∙ is }
      inside false some more = not_fault RecordOutside asked (indexed_action image bases x t pad s.index) (rw (some, more) refl) is

      go : (b : Bool) → eqb s.index 0 ≡ b → ((s.index ≡ 0) × (Cleanup pad ≡ asked)) ⊎ OfChain t s pad asked
      go true none =
          let h : indexed_action image bases x t pad s.index ≡ Ok (Cleanup pad) = rw none refl in
          let same : Ok (Cleanup pad) ≡ Ok asked = sym h ∙ is in
          inl (eqb-true s.index 0 none, cc)
      go false some = inr (inside (ltb (s.index - 1) (length t.head.actions.bytes)) some refl)

  chain_is : (t : CxxTable) (s : CallSite) (pad : ℕ) → IsIndexed t s → indexed_action image bases x t pad s.index ≡ chain_from (length t.head.actions.bytes) image bases x t pad (s.index - 1) false
  chain_is t s pad i =
      let some : eqb s.index 0 ≡ false = is_some s.index i.some in
      let h = i.inside in
      let less : ltb (s.index - 1) (length t.head.actions.bytes) ≡ true = grind (arith, nat_tests) in
      rw (some, less) refl

  -- ---- the call site

  record OfPad (t : CxxTable) (s : CallSite) (asked : CxxAction) : Type 0 where
    pad : ℕ
    some : s.pad ≢ 0
    address : sum_below t.head.pad_base s.pad ≡ Ok pad
    says : indexed_action image bases x t pad s.index ≡ Ok asked

  by_site : (t : CxxTable) (s : CallSite) (asked : CxxAction) → cxx_site_action image bases x t (Some s) ≡ Ok asked → ((s.pad ≡ 0) × (NoAction ≡ asked)) ⊎ OfPad t s asked
  by_site t s asked is = go (eqb s.pad 0) refl
    where
      at : (r : Result ℕ StepFault) → eqb s.pad 0 ≡ false → sum_below t.head.pad_base s.pad ≡ r → OfPad t s asked
      at (Ok pad) some sums =
          let says : cxx_site_action image bases x t (Some s) ≡ indexed_action image bases x t pad s.index = rw (some, sums) refl in
          record { pad = pad; some = eqb-false s.pad 0 some; address = sums; says = sym says ∙ is }
      at (Err e) some fails = not_fault (cxx_fault e) asked (cxx_site_action image bases x t (Some s)) (rw (some, fails) refl) is

      go : (b : Bool) → eqb s.pad 0 ≡ b → ((s.pad ≡ 0) × (NoAction ≡ asked)) ⊎ OfPad t s asked
      go true none =
          let h : cxx_site_action image bases x t (Some s) ≡ Ok NoAction = rw none refl in
          let same : Ok NoAction ≡ Ok asked = sym h ∙ is in
          inl (eqb-true s.pad 0 none, cc)
      go false some = inr (at (sum_below t.head.pad_base s.pad) some refl)

  pad_is : (t : CxxTable) (s : CallSite) (pad : ℕ) → s.pad ≢ 0 → sum_below t.head.pad_base s.pad ≡ Ok pad → cxx_site_action image bases x t (Some s) ≡ indexed_action image bases x t pad s.index
  pad_is t s pad some sums = let b : eqb s.pad 0 ≡ false = is_some s.pad some in rw (b, sums) refl

  -- ---- the table

  record OfTable (asked : CxxAction) : Type 0 where
    table : CxxTable
    site : Option CallSite
    at : DecidesAt image p a table site
    says : cxx_site_action image bases x table site ≡ Ok asked

  by_place : (asked : CxxAction) → cxx_place_search image x p a ≡ Ok asked → ((p.lsda ≡ 0) × (NoAction ≡ asked)) ⊎ OfTable asked
  unfolding cxx_search
  by_place asked is = go (eqb p.lsda 0) refl
    where
      with_site : (t : CxxTable) → eqb p.lsda 0 ≡ false → cxx_table image bases p.start (input_at image p.lsda) ≡ Ok t
          → (r : Result (Option CallSite) StepFault) → site_from (length t.head.sites.bytes) image bases p.start a t.head.site_encoding t.head.sites ≡ r → OfTable asked
      with_site t some reads (Ok site) decides =
          let says : cxx_place_search image x p a ≡ cxx_site_action image bases x t site = rw (some, reads, decides) refl in
          record { table = t; site = site; at = record { there = eqb-false p.lsda 0 some; reads = reads; decides = decides }; says = sym says ∙ is }
      with_site t some reads (Err e) fails = not_fault (cxx_fault e) asked (cxx_place_search image x p a) (rw (some, reads, fails) refl) is

      with_table : eqb p.lsda 0 ≡ false → (r : Result CxxTable StepFault) → cxx_table image bases p.start (input_at image p.lsda) ≡ r → OfTable asked
      with_table some (Ok t) reads = with_site t some reads (site_from (length t.head.sites.bytes) image bases p.start a t.head.site_encoding t.head.sites) refl
      with_table some (Err e) fails = not_fault (cxx_fault e) asked (cxx_place_search image x p a) (rw (some, fails) refl) is

      go : (b : Bool) → eqb p.lsda 0 ≡ b → ((p.lsda ≡ 0) × (NoAction ≡ asked)) ⊎ OfTable asked
      go true none =
          let h : cxx_place_search image x p a ≡ Ok NoAction = rw none refl in
          let same : Ok NoAction ≡ Ok asked = sym h ∙ is in
          inl (eqb-true p.lsda 0 none, cc)
      go false some = inr (with_table some (cxx_table image bases p.start (input_at image p.lsda)) refl)

  site_is : (t : CxxTable) (site : Option CallSite) → DecidesAt image p a t site → cxx_place_search image x p a ≡ cxx_site_action image bases x t site
  unfolding cxx_search
  site_is t site at =
      let some : eqb p.lsda 0 ≡ false = is_some p.lsda at.there in
      let reads = at.reads in let decides = at.decides in
      rw (some, reads, decides) refl

  chain_at : (t : CxxTable) (s : CallSite) (pad : ℕ) → LandsAt image p a t s pad → IsIndexed t s → cxx_place_search image x p a ≡ chain_from (length t.head.actions.bytes) image bases x t pad (s.index - 1) false
  chain_at t s pad l i = site_is t (Some s) l.site ∙ pad_is t s pad l.some l.address ∙ chain_is t s pad i

  -- ---- each answer and what it comes from

  record OfLanding (asked : CxxAction) : Type 0 where
    table : CxxTable
    site : CallSite
    pad : ℕ
    lands : LandsAt image p a table site pad
    says : ((site.index ≡ 0) × (Cleanup pad ≡ asked)) ⊎ OfChain table site pad asked

  landing : (asked : CxxAction) → (NoAction ≡ asked → ⊥) → (Terminate ≡ asked → ⊥) → cxx_place_search image x p a ≡ Ok asked → OfLanding asked
  landing asked some goes is = elim (by_place asked is) [
    | inl it ↦ absurd (some it.1)
    | inr it ↦ of it.table it.site it.at it.says
  ]
    where
      of : (t : CxxTable) (site : Option CallSite) → DecidesAt image p a t site → cxx_site_action image bases x t site ≡ Ok asked → OfLanding asked
      of t None at says = let same : Terminate ≡ asked = cc in absurd (goes same)
      of t (Some s) at says = elim (by_site t s asked says) [
        | inl it ↦ absurd (some it.1)
        | inr it ↦ record { table = t; site = s; pad = it.pad; lands = record { site = at; some = it.some; address = it.address }; says = by_index t s it.pad asked it.says }
      ]

  found_handler : (pad filter : ℕ) → (cxx_place_search image x p a ≡ Ok (Handler pad filter)) ↔ FindsHandler image x p a pad filter
  found_handler pad filter = (to, from)
    where
      -- the chain's answer has its own pad
      of : (t : CxxTable) (s : CallSite) (own : ℕ) → LandsAt image p a t s own → OfChain t s own (Handler pad filter) → FindsHandler image x p a pad filter
      of t s own lands it =
          let same : own ≡ pad = records.own_pad image bases x t own (s.index - 1) pad filter it.says in
          let says : chain_from (length t.head.actions.bytes) image bases x t pad (s.index - 1) false ≡ Ok (Handler pad filter) =
          subst (λ q. chain_from (length t.head.actions.bytes) image bases x t q (s.index - 1) false ≡ Ok (Handler pad filter)) same it.says in
          (t, s, subst (λ q. LandsAt image p a t s q) same lands, it.indexed, (records.handled image bases x t pad (s.index - 1) filter).0 says)

      to : cxx_place_search image x p a ≡ Ok (Handler pad filter) → FindsHandler image x p a pad filter
      to is = let l = landing (Handler pad filter) (λ e. absurd cc) (λ e. absurd cc) is in elim l.says [
        | inl it ↦ let wrong : Cleanup l.pad ≡ Handler pad filter = it.1 in absurd cc
        | inr it ↦ of l.table l.site l.pad l.lands it
      ]

      from : FindsHandler image x p a pad filter → cxx_place_search image x p a ≡ Ok (Handler pad filter)
      from (t, s, lands, indexed, takes) = chain_at t s pad lands indexed ∙ (records.handled image bases x t pad (s.index - 1) filter).1 takes

  found_cleanup : (pad : ℕ) → (cxx_place_search image x p a ≡ Ok (Cleanup pad)) ↔ AsksCleanup image x p a pad
  found_cleanup pad = (to, from)
    where
      of : (t : CxxTable) (s : CallSite) (own : ℕ) → LandsAt image p a t s own → OfChain t s own (Cleanup pad) → AsksCleanup image x p a pad
      of t s own lands it =
          let same : own ≡ pad = records.own_pad_of_cleanup image bases x t own (s.index - 1) pad it.says in
          let says : chain_from (length t.head.actions.bytes) image bases x t pad (s.index - 1) false ≡ Ok (Cleanup pad) =
          subst (λ q. chain_from (length t.head.actions.bytes) image bases x t q (s.index - 1) false ≡ Ok (Cleanup pad)) same it.says in
          (t, s, subst (λ q. LandsAt image p a t s q) same lands, inr (it.indexed, (records.cleaned image bases x t pad (s.index - 1)).0 says))

      to : cxx_place_search image x p a ≡ Ok (Cleanup pad) → AsksCleanup image x p a pad
      to is = let l = landing (Cleanup pad) (λ e. absurd cc) (λ e. absurd cc) is in elim l.says [
        | inl it ↦ let e : Cleanup l.pad ≡ Cleanup pad = it.1 in let same : l.pad ≡ pad = cc in (l.table, l.site, subst (λ q. LandsAt image p a l.table l.site q) same l.lands, inl it.0)
        | inr it ↦ of l.table l.site l.pad l.lands it
      ]

      ends : (t : CxxTable) (s : CallSite) → LandsAt image p a t s pad → (s.index ≡ 0) ⊎ (IsIndexed t s × NoneTakes image bases x t (s.index - 1) true) → cxx_place_search image x p a ≡ Ok (Cleanup pad)
      ends t s lands (inl none) =
          let b : eqb s.index 0 ≡ true = is_zero s.index none in
          let alone : indexed_action image bases x t pad s.index ≡ Ok (Cleanup pad) = rw b refl in
          site_is t (Some s) lands.site ∙ pad_is t s pad lands.some lands.address ∙ alone
      ends t s lands (inr it) = chain_at t s pad lands it.0 ∙ (records.cleaned image bases x t pad (s.index - 1)).1 it.1

      from : AsksCleanup image x p a pad → cxx_place_search image x p a ≡ Ok (Cleanup pad)
      from (t, s, lands, index) = ends t s lands index

  found_nothing : (cxx_place_search image x p a ≡ Ok NoAction) ↔ AsksNothing image x p a
  found_nothing = (to, from)
    where
      of_pad : (t : CxxTable) (s : CallSite) → DecidesAt image p a t (Some s) → OfPad t s NoAction → AsksNothing image x p a
      of_pad t s at it = elim (by_index t s it.pad NoAction it.says) [
        | inl wrong ↦ let e : Cleanup it.pad ≡ NoAction = wrong.1 in absurd cc
        | inr chain ↦ inr (t, s, inr (it.pad, record { site = at; some = it.some; address = it.address }, chain.indexed, (records.passed image bases x t it.pad (s.index - 1)).0 chain.says))
      ]

      of_table : (t : CxxTable) (site : Option CallSite) → DecidesAt image p a t site → cxx_site_action image bases x t site ≡ Ok NoAction → AsksNothing image x p a
      of_table t None at says = absurd cc
      of_table t (Some s) at says = elim (by_site t s NoAction says) [
        | inl it ↦ inr (t, s, inl (at, it.0))
        | inr it ↦ of_pad t s at it
      ]

      to : cxx_place_search image x p a ≡ Ok NoAction → AsksNothing image x p a
      to is = elim (by_place NoAction is) [
        | inl it ↦ inl it.0
        | inr it ↦ of_table it.table it.site it.at it.says
      ]

      from : AsksNothing image x p a → cxx_place_search image x p a ≡ Ok NoAction
      from (inl none) = let b : eqb p.lsda 0 ≡ true = is_zero p.lsda none in rw b refl
      from (inr (t, s, inl (at, none))) =
          let b : eqb s.pad 0 ≡ true = is_zero s.pad none in
          let silent : cxx_site_action image bases x t (Some s) ≡ Ok NoAction = rw b refl in
          site_is t (Some s) at ∙ silent
      from (inr (t, s, inr (pad, lands, indexed, none))) = chain_at t s pad lands indexed ∙ (records.passed image bases x t pad (s.index - 1)).1 none

  found_end : (cxx_place_search image x p a ≡ Ok Terminate) ↔ LeavesNone image x p a
  found_end = (to, from)
    where
      of_pad : (t : CxxTable) (s : CallSite) → OfPad t s Terminate → LeavesNone image x p a
      of_pad t s it = elim (by_index t s it.pad Terminate it.says) [
        | inl wrong ↦ let e : Cleanup it.pad ≡ Terminate = wrong.1 in absurd cc
        | inr chain ↦ absurd (records.goes_on_or_lands image bases x t it.pad (s.index - 1) chain.says)
      ]

      of_table : (t : CxxTable) (site : Option CallSite) → DecidesAt image p a t site → cxx_site_action image bases x t site ≡ Ok Terminate → LeavesNone image x p a
      of_table t None at says = (t, at)
      of_table t (Some s) at says = elim (by_site t s Terminate says) [
        | inl it ↦ let e : NoAction ≡ Terminate = it.1 in absurd cc
        | inr it ↦ of_pad t s it
      ]

      to : cxx_place_search image x p a ≡ Ok Terminate → LeavesNone image x p a
      to is = elim (by_place Terminate is) [
        | inl it ↦ let e : NoAction ≡ Terminate = it.1 in absurd cc
        | inr it ↦ of_table it.table it.site it.at it.says
      ]

      from : LeavesNone image x p a → cxx_place_search image x p a ≡ Ok Terminate
      from (t, at) = site_is t None at

  -- ---- whether a landing pad is entered

  abbrev found : CxxAction → Result CxxAction CxxError
  found asked = Ok asked

  -- what is found, and what is done of it
  entered_pad : (pad filter : ℕ) (r : Result CxxAction CxxError) → result_map (entered x) r ≡ found (Handler pad filter) → (r ≡ found (Handler pad filter)) × IsFalse (ends_instead x filter)
  entered_pad pad filter (Err e) is = absurd cc
  entered_pad pad filter (Ok NoAction) is = absurd cc
  entered_pad pad filter (Ok (Cleanup other)) is = absurd cc
  entered_pad pad filter (Ok Terminate) is = absurd cc
  entered_pad pad filter (Ok (Handler other number)) is = go (ends_instead x number) refl
    where
      go : (b : Bool) → ends_instead x number ≡ b → (found (Handler other number) ≡ found (Handler pad filter)) × IsFalse (ends_instead x filter)
      go true ends = let wrong : found Terminate ≡ found (Handler pad filter) = rw ends at is in absurd cc
      go false enters =
          let same : found (Handler other number) ≡ found (Handler pad filter) = rw enters at is in
          let numbers : number ≡ filter = cc in
          (same, subst (λ n. ends_instead x n ≡ false) numbers enters)

  pub handler : (pad filter : ℕ) → (cxx_place_action image x p a ≡ found (Handler pad filter)) ↔ AsksHandler image x p a pad filter
  handler pad filter = (
    λ is. let e = entered_pad pad filter (cxx_place_search image x p a) is in ((found_handler pad filter).0 e.0, e.1),
    λ asks. let enters : ends_instead x filter ≡ false = asks.1 in ap (result_map (entered x)) ((found_handler pad filter).1 asks.0) ∙ rw enters refl,
  )

  kept_cleanup : (pad : ℕ) (r : Result CxxAction CxxError) → result_map (entered x) r ≡ found (Cleanup pad) → r ≡ found (Cleanup pad)
  kept_cleanup pad (Err e) is = absurd cc
  kept_cleanup pad (Ok NoAction) is = absurd cc
  kept_cleanup pad (Ok (Cleanup other)) is = is
  kept_cleanup pad (Ok Terminate) is = absurd cc
  kept_cleanup pad (Ok (Handler other number)) is = go (ends_instead x number) refl
    where
      go : (b : Bool) → ends_instead x number ≡ b → found (Handler other number) ≡ found (Cleanup pad)
      go true ends = let wrong : found Terminate ≡ found (Cleanup pad) = rw ends at is in absurd cc
      go false enters = rw enters at is

  pub cleanup : (pad : ℕ) → (cxx_place_action image x p a ≡ found (Cleanup pad)) ↔ AsksCleanup image x p a pad
  cleanup pad = (λ is. (found_cleanup pad).0 (kept_cleanup pad (cxx_place_search image x p a) is), λ asks. ap (result_map (entered x)) ((found_cleanup pad).1 asks))

  kept_nothing : (r : Result CxxAction CxxError) → result_map (entered x) r ≡ found NoAction → r ≡ found NoAction
  kept_nothing (Err e) is = absurd cc
  kept_nothing (Ok NoAction) is = refl
  kept_nothing (Ok (Cleanup other)) is = absurd cc
  kept_nothing (Ok Terminate) is = absurd cc
  kept_nothing (Ok (Handler other number)) is = go (ends_instead x number) refl
    where
      go : (b : Bool) → ends_instead x number ≡ b → found (Handler other number) ≡ found NoAction
      go true ends = let wrong : found Terminate ≡ found NoAction = rw ends at is in absurd cc
      go false enters = rw enters at is

  pub nothing : (cxx_place_action image x p a ≡ found NoAction) ↔ AsksNothing image x p a
  nothing = (λ is. found_nothing.0 (kept_nothing (cxx_place_search image x p a) is), λ asks. ap (result_map (entered x)) (found_nothing.1 asks))

  -- what ends the program
  ended_by : (r : Result CxxAction CxxError) → result_map (entered x) r ≡ found Terminate → (r ≡ found Terminate) ⊎ ((pad filter : ℕ) × (r ≡ found (Handler pad filter)) × IsTrue (ends_instead x filter))
  ended_by (Err e) is = absurd cc
  ended_by (Ok NoAction) is = absurd cc
  ended_by (Ok (Cleanup other)) is = absurd cc
  ended_by (Ok Terminate) is = inl refl
  ended_by (Ok (Handler pad filter)) is = go (ends_instead x filter) refl
    where
      go : (b : Bool) → ends_instead x filter ≡ b → (found (Handler pad filter) ≡ found Terminate) ⊎ ((q n : ℕ) × (found (Handler pad filter) ≡ found (Handler q n)) × IsTrue (ends_instead x n))
      go true ends = inr (pad, filter, refl, ends)
      go false enters = let wrong : found (Handler pad filter) ≡ found Terminate = rw enters at is in absurd cc

  pub end : (cxx_place_action image x p a ≡ found Terminate) ↔ AsksEnd image x p a
  end = (to, from)
    where
      to : cxx_place_action image x p a ≡ found Terminate → AsksEnd image x p a
      to is = elim (ended_by (cxx_place_search image x p a) is) [
        | inl none ↦ inl (found_end.0 none)
        | inr it ↦ inr (it.0, it.1, (found_handler it.0 it.1).0 it.2, it.3)
      ]

      from : AsksEnd image x p a → cxx_place_action image x p a ≡ found Terminate
      from (inl none) = ap (result_map (entered x)) (found_end.1 none)
      from (inr (pad, filter, finds, instead)) = let ends : ends_instead x filter ≡ true = instead in ap (result_map (entered x)) ((found_handler pad filter).1 finds) ∙ rw ends refl
