-- The search and the passes of a delivery over frames that are met at each context that shows their states.
use Rattle.std.proofs.Common.{◌+◌, ◌≡◌, ℕ, zero, suc, ◌-◌, ◌<◌, ◌≤◌, Bool, true, false, List, [], ◌∷◌, ◌++◌, length, Option, Some, None, Result, Ok, refl, sym, ap, subst, ◌∙◌, arith, eqb}
use Rattle.std.specs.Prelude.{IfSome, map}
use Rattle.std.specs.List.{filter_map, cons_option, find, before_first}
use Rattle.std.specs.Option.{option_map}
use Rattle.std.proofs.lemmas.Bool.Decides.{nat_tests}
use Rattle.unwind_definitions.specs.State.{State, Shows}
use Rattle.unwind_definitions.specs.Chain.{StacksRise}
use Rattle.unwind_definitions.specs.Delivery.{Landing, resume_of}
use Rattle.unwind_laws.proofs.OneChain.{before_cons, before_now}
use Rattle.unwind_arch.specs.declared.x86_64.Context.{Context}
use Rattle.unwind_arch.specs.ContextViews.{columns_of}
use Rattle.stack_steps.specs.declared.error.DeliverError.{DeliverError}
use Rattle.stack_steps.specs.Modules.{SpaceValue}
use Rattle.stack_steps.specs.declared.asking.FrameAction.{FrameAction}
use Rattle.stack_steps.specs.declared.asking.FrameAction.TheVariants.{Nothing, Cleanup, Handler, Terminate, TerminateAfterCleanups}
use Rattle.stack_steps.specs.KnownFrames.{MeetsAsked}
use Rattle.stack_steps.specs.Languages.{Languages, is_taken, pad_of, selector_of}
use Rattle.stack_steps.proofs.ContextLemmas.{IsWhole}
use Rattle.stack_walks.specs.declared.unwind.Phase.TheVariants as phase
use Rattle.stack_walks.specs.Walking.{EachShows}
use Rattle.stack_walks.specs.FrameVisits.{Line, Pass, Stop, cleaning, searching, stops, past_arguments, with_context, pass_of, mark_at, enters}
use Rattle.stack_walks.specs.ContextsMet.{contexts_met}
use Rattle.stack_walks.proofs.VisitLines.{stop_at}
use Rattle.stack_walks.proofs.VisitCounts.{line_met}
use Rattle.stack_deliver.specs.declared.outcome.Outcome.{Outcome}
use Rattle.stack_deliver.specs.declared.outcome.Outcome.TheVariants.{Installed, FatalPhase2}
use Rattle.stack_deliver.specs.KnownThrows.{AskingFrame, past, frame_decides, cleanup_pad, cleanup_asked, asking_states, lands_at}
use Rattle.stack_deliver.specs.declared.outcome.Ending.{Ending}
use Rattle.stack_deliver.specs.Passes.{ending_at, fatal, PassEnd, Finishes, Cleanup, end_at, end_of, cleanup_at, CleanupsRun, with_cleanup}
use Rattle.stack_deliver.specs.Resumes.{return_of}
use Rattle.stack_deliver.specs.Searches.{met_in_passes}
use Rattle.stack_deliver.specs.StateViews.{state_of, landing_of, pair_of}
use Rattle.stack_deliver.proofs.Chains.{shown_state}
use Rattle.stack_deliver.proofs.KnownVisits.{stops_there, goes_there, met_there, caller_whole, past_whole, past_shows, IsMet}
use Rattle.stack_deliver.proofs.PassRuns.{resume_same, passes, from_pass, by_pass, goes_on, met_from, met_by, by_count, one_more, finishes_met, cleans_met, finishes, cleans}
use Rattle.stack_deliver.proofs.FrameVisits.{returning, entered_shows, entered_sp, entered_rax, entered_rdx}

-- the first of frames that decides, and those before it
abbrev pub deciding : List AskingFrame → Option AskingFrame
deciding frames = find frame_decides frames

abbrev pub inside : List AskingFrame → List AskingFrame
inside frames = before_first frame_decides frames

-- the states up to the frame that decides, or all
abbrev pub seen : List State → List AskingFrame → Option AskingFrame → List State
seen states frames None = states
seen states frames (Some f) = asking_states (inside frames) ++ f.state ∷ []

-- where a pass stops is a frame
pub record StopIs (stop : Stop) (f : AskingFrame) : Type 0 where
  pub unmarked : stop.interrupted ≡ false
  pub shows : Shows (columns_of stop.context) f.state
  pub action : stop.action ≡ f.action

abbrev pub StopShows : Option Stop → Option AskingFrame → Type 0
StopShows None None = Unit {0}
StopShows (Some stop) (Some f) = StopIs stop f
StopShows None (Some f) = ⊥
StopShows (Some stop) None = ⊥

-- what a search meets is what the stack has up to the frame that decides
pub record SearchShows (r : Result Line DeliverError) (stack : List State) (frames : List AskingFrame) : Type 0 where
  pub line : Line
  pub is : r ≡ Ok line
  pub states : EachShows line.contexts (seen stack frames (deciding frames))
  pub stop : StopShows line.stop (deciding frames)

some_frame : (f g : AskingFrame) → ◌≡◌ {A = Option AskingFrame} (Some f) (Some g) → f ≡ g
some_frame f g e = cc

module _ (languages : Languages) (space : SpaceValue) where
  -- a pass ends at each context that shows a state
  abbrev pub EndsThere : State → Type 0
  EndsThere s = (c : Context) (p : Pass) (room : ℕ) → 0 < room → Shows (columns_of c) s → pass_of p space room c false ≡ Ok (record { contexts = c ∷ []; stop = None })

  -- the frames of a stack are met, one by one, up to its end
  abbrev pub AreMet : State → List State → List AskingFrame → Type 0
  AreMet s [] frames = (frames ≡ []) × EndsThere s
  AreMet s (t ∷ callers) [] = ⊥
  AreMet s (t ∷ callers) (f ∷ frames) = (f.state ≡ s) × IsMet languages space s f.action f.arguments t × AreMet t callers frames

  -- a frame goes on after its cleanup where nothing is asked
  abbrev pub GoesOnMet : List (ℕ × ℕ) → AskingFrame → State → Type 0
  GoesOnMet resumes f t = IfSome (cleanup_pad f.action) (λ pad. (ret : ℕ) × (resume_of resumes pad ≡ Some ret) × ((size : ℕ) × IsMet languages space (record (past f) { ra = ret }) Nothing size t))

  abbrev pub EachGoesOn : List (ℕ × ℕ) → List State → List AskingFrame → Type 0
  EachGoesOn resumes callers [] = Unit {0}
  EachGoesOn resumes [] (f ∷ frames) = ⊥
  EachGoesOn resumes (t ∷ callers) (f ∷ frames) = GoesOnMet resumes f t × EachGoesOn resumes callers frames

  -- ---- the search

  -- the states from a frame on that doesn't decide
  seen_more : (c : Context) (cs : List Context) (s t : State) (callers : List State) (f : AskingFrame) (frames : List AskingFrame) (o : Option AskingFrame) → frame_decides f ≡ false → f.state ≡ s → Shows (columns_of c) s →
      EachShows cs (seen (t ∷ callers) frames o) → EachShows (c ∷ cs) (seen (s ∷ t ∷ callers) (f ∷ frames) o)
  seen_more c cs s t callers f frames None none at shows rest = (shows, rest)
  seen_more c cs s t callers f frames (Some g) none at shows rest =
      subst (λ (fs : List AskingFrame). EachShows (c ∷ cs) (asking_states fs ++ g.state ∷ [])) (sym (before_cons frame_decides f frames none))
      (subst (λ (u : State). Shows (columns_of c) u) (sym at) shows, rest)

  pub search_shows : (s : State) (callers : List State) (frames : List AskingFrame) (c : Context) (room : ℕ) → AreMet s callers frames → Shows (columns_of c) s → length callers < room → SearchShows (pass_of (searching languages) space room c false) (s ∷ callers) frames
  search_shows s [] [] c room are shows less = record {
    line = record { contexts = c ∷ []; stop = None };
    is = are.1 c (searching languages) room (omega arith) shows;
    states = (shows, tt);
    stop = tt;
  }
  search_shows s [] (f ∷ frames) c room are shows less = let bad : f ∷ frames ≡ [] = are.0 in absurd cc
  search_shows s (t ∷ callers) [] c room are shows less = absurd are
  search_shows s (t ∷ callers) (f ∷ frames) c room are shows less =
      let here : MeetsAsked languages space c false f.action f.arguments t = are.1 c shows in
      go here (search_shows t callers frames here.next.context (room - 1) are.2 here.shows (omega arith)) (frame_decides f) refl
    where
      go : (here : MeetsAsked languages space c false f.action f.arguments t) → SearchShows (pass_of (searching languages) space (room - 1) here.next.context false) (t ∷ callers) frames → (b : Bool) → frame_decides f ≡ b →
          SearchShows (pass_of (searching languages) space room c false) (s ∷ t ∷ callers) (f ∷ frames)
      go here rest true asks =
          let decided : deciding (f ∷ frames) ≡ Some f = rw asks refl in
          let none : inside (f ∷ frames) ≡ [] = before_now frame_decides f frames asks in
          let same : Shows (columns_of c) f.state = subst (λ (u : State). Shows (columns_of c) u) (sym are.0) shows in
          let states : EachShows (c ∷ []) (seen (s ∷ t ∷ callers) (f ∷ frames) (Some f)) = subst (λ (fs : List AskingFrame). EachShows (c ∷ []) (asking_states fs ++ f.state ∷ [])) (sym none) (same, tt) in
          record {
            line = record { contexts = c ∷ []; stop = Some (stop_at c false f.action (past_arguments c f.arguments)) };
            is = stops_there languages space c f.action f.arguments t here phase.Search room (omega arith) asks;
            states = subst (λ (o : Option AskingFrame). EachShows (c ∷ []) (seen (s ∷ t ∷ callers) (f ∷ frames) o)) (sym decided) states;
            stop = subst (λ (o : Option AskingFrame). StopShows (Some (stop_at c false f.action (past_arguments c f.arguments))) o) (sym decided) (record { unmarked = refl; shows = same; action = refl });
          }
      go here rest false asks =
          let later : deciding (f ∷ frames) ≡ deciding frames = rw asks refl in
          record {
            line = record rest.line { contexts = c ∷ rest.line.contexts };
            is = goes_there languages space c f.action f.arguments t here phase.Search room (omega arith) asks ∙ ap (with_context c) rest.is;
            states = subst (λ (o : Option AskingFrame). EachShows (c ∷ rest.line.contexts) (seen (s ∷ t ∷ callers) (f ∷ frames) o)) (sym later)
                (seen_more c rest.line.contexts s t callers f frames (deciding frames) asks are.0 shows rest.states);
            stop = subst (λ (o : Option AskingFrame). StopShows rest.line.stop o) (sym later) rest.stop;
          }

  -- a frame that decides lies at or above the start of its stack
  above : (s : State) (callers : List State) (frames : List AskingFrame) (g : AskingFrame) → AreMet s callers frames → StacksRise (s ∷ callers) → deciding frames ≡ Some g → s.sp ≤ g.state.sp
  above s [] [] g are rise decided = absurd cc
  above s [] (f ∷ frames) g are rise decided = let bad : f ∷ frames ≡ [] = are.0 in absurd cc
  above s (t ∷ callers) [] g are rise decided = absurd are
  above s (t ∷ callers) (f ∷ frames) g are rise decided = go (λ e. above t callers frames g are.2 rise.1 e) (frame_decides f) refl
    where
      go : (deciding frames ≡ Some g → t.sp ≤ g.state.sp) → (b : Bool) → frame_decides f ≡ b → s.sp ≤ g.state.sp
      go outer true asks =
          let here : deciding (f ∷ frames) ≡ Some f = rw asks refl in
          let same : g ≡ f = some_frame g f (sym decided ∙ here) in
          let sp : g.state.sp ≡ s.sp = ap (λ (h : AskingFrame). h.state.sp) same ∙ ap (λ (u : State). u.sp) are.0 in
          omega arith
      go outer false asks =
          let later : deciding (f ∷ frames) ≡ deciding frames = rw asks refl in
          let rest = outer (sym later ∙ decided) in
          let up = rise.0 in
          omega arith

  -- ---- the passes
  module _ (exception kept : ℕ) (resumes : List (ℕ × ℕ)) (limit : ℕ) where
    abbrev from : ℕ → Result Line DeliverError → Result CleanupsRun DeliverError
    from = from_pass languages space exception kept resumes limit

    abbrev counted : ℕ → ℕ → Context → ℕ
    counted = met_by languages space exception kept resumes limit

    -- a pass that goes on at a frame meets one context more than from its caller on
    met_past : (places room : ℕ) (c : Context) (action : FrameAction) (size : ℕ) (t : State) (here : MeetsAsked languages space c false action size t) → 0 < room → stops phase.Cleanup action ≡ false →
        counted places room c ≡ suc (counted places (room - 1) here.next.context)
    met_past places room c action size t here some quiet =
        ap (λ (m : ℕ). met_from languages space exception kept resumes limit places m (pass_of (cleaning languages) space room c false)) (met_there languages space c action size t here phase.Cleanup room some quiet)
        ∙ ap (met_from languages space exception kept resumes limit places (suc (contexts_met (Some (cleaning languages)) space (room - 1) here.next.context false))) (goes_there languages space c action size t here phase.Cleanup room some quiet)
        ∙ one_more languages space exception kept resumes limit places (contexts_met (Some (cleaning languages)) space (room - 1) here.next.context false) c (pass_of (cleaning languages) space (room - 1) here.next.context false)

    -- where the handler is entered
    abbrev pub lands_in : State → FrameAction → Option Landing
    lands_in s (Handler pad number) = Some (lands_at exception s pad number)
    lands_in s _ = None

    -- and how the passes end
    abbrev pub ends_with : FrameAction → Outcome
    ends_with (Handler pad number) = Installed
    ends_with _ = FatalPhase2

    -- the passes run the cleanups of the frames inside the one that decides, and enter its handler, or the program ends there
    pub record PassesShow (frames : List AskingFrame) (f : AskingFrame) (places room : ℕ) (c : Context) : Type 0 where
      pub passed : CleanupsRun
      pub is : from places (pass_of (cleaning languages) space room c false) ≡ Ok passed
      -- each frame's context is met once, and that of a cleanup's again
      pub met : counted places room c ≡ length (inside frames) + 1 + length passed.trail
      pub trail : map pair_of passed.trail ≡ filter_map cleanup_asked (inside frames)
      pub outcome : passed.ending.outcome ≡ ends_with f.action
      pub landing : option_map landing_of passed.ending.landing ≡ lands_in (past f) f.action

    -- a pass that stops at a pad of a frame
    module _ (f : AskingFrame) (t : State) (c : Context) (room places : ℕ) (met : MeetsAsked languages space c false f.action f.arguments t) (shows : Shows (columns_of c) f.state) (whole : IsWhole c) (some : 0 < room) where
      abbrev over : Context
      over = past_arguments c f.arguments

      over_shows : Shows (columns_of over) (past f)
      over_shows = past_shows c f.state f.arguments shows whole

      over_whole : IsWhole over
      over_whole = past_whole c f.state f.arguments shows whole

      marked_here : mark_at c false ≡ f.state.sp
      marked_here = let e : columns_of c 7 ≡ Some f.state.sp = shows.sp in cc

      ends_here : (pad : ℕ) → stops phase.Cleanup f.action ≡ true → pad_of f.action ≡ Some pad →
          end_of exception kept (pass_of (cleaning languages) space room c false) ≡ Ok (end_at exception kept (stop_at c false f.action over) (Some pad))
      ends_here pad asks named =
          ap (end_of exception kept) (stops_there languages space c f.action f.arguments t met phase.Cleanup room some asks)
          ∙ ap (λ (o : Option ℕ). ok_end (end_at exception kept (stop_at c false f.action over) o)) named
        where
          ok_end : PassEnd → Result PassEnd DeliverError
          ok_end x = Ok x

      -- it meets one context
      met_once : stops phase.Cleanup f.action ≡ true → contexts_met (Some (cleaning languages)) space room c false ≡ 1
      met_once asks = line_met (Some (cleaning languages)) space room c false _ (stops_there languages space c f.action f.arguments t met phase.Cleanup room some asks)

      -- the number that a landing pad finds
      abbrev number : ℕ
      number = selector_of f.action

      landed_here : (pad : ℕ) → landing_of (enters over exception number pad) ≡ lands_at exception (past f) pad number
      landed_here pad =
          let state : state_of (enters over exception number pad) ≡ returning (past f) pad = shown_state (enters over exception number pad) (returning (past f) pad) (entered_shows over (past f) exception number pad over_shows pad) in
          rw (state, entered_rax over (past f) exception number pad over_shows over_whole, entered_rdx over (past f) exception number pad over_shows over_whole) refl

      -- the passes end with it
      ends_now : (frames : List AskingFrame) (ending : Ending) → end_of exception kept (pass_of (cleaning languages) space room c false) ≡ Ok (Finishes ending) → frame_decides f ≡ true → stops phase.Cleanup f.action ≡ true →
          ending.outcome ≡ ends_with f.action → option_map landing_of ending.landing ≡ lands_in (past f) f.action → PassesShow (f ∷ frames) f places room c
      ends_now frames ending ends decided asks outcome landing =
          let none : length (inside (f ∷ frames)) ≡ 0 = ap (λ (fs : List AskingFrame). length fs) (before_now frame_decides f frames decided) in
          let one = met_once asks in
          let all = finishes_met languages space exception kept resumes limit places (contexts_met (Some (cleaning languages)) space room c false) (pass_of (cleaning languages) space room c false) ending ends in
          record {
            passed = record { trail = []; ending = ending };
            met = omega arith;
            is = finishes languages space exception kept resumes limit places (pass_of (cleaning languages) space room c false) ending ends;
            trail = sym (ap (filter_map cleanup_asked) (before_now frame_decides f frames decided));
            outcome = outcome;
            landing = landing;
          }

      lands_now : (frames : List AskingFrame) (pad : ℕ) → kept ≡ f.state.sp → frame_decides f ≡ true → stops phase.Cleanup f.action ≡ true → pad_of f.action ≡ Some pad → ends_with f.action ≡ Installed → lands_in (past f) f.action ≡ Some (lands_at exception (past f) pad number) →
          PassesShow (f ∷ frames) f places room c
      lands_now frames pad at decided asks named outcome lands =
          let mark : mark_at c false ≡ f.state.sp = marked_here in
          let same : eqb (mark_at c false) kept ≡ true = grind (arith, nat_tests) in
          let ends : end_of exception kept (pass_of (cleaning languages) space room c false) ≡ Ok (Finishes (ending_at (enters over exception number pad))) = ends_here pad asks named ∙ rw same refl in
          ends_now frames (ending_at (enters over exception number pad)) ends decided asks (sym outcome) (ap (λ (l : Landing). Some l) (landed_here pad) ∙ sym lands)

      -- the program ends there
      fatal_now : (frames : List AskingFrame) → frame_decides f ≡ true → stops phase.Cleanup f.action ≡ true → pad_of f.action ≡ None → ends_with f.action ≡ FatalPhase2 → lands_in (past f) f.action ≡ None → PassesShow (f ∷ frames) f places room c
      fatal_now frames decided asks none outcome lands =
          let ends : end_of exception kept (pass_of (cleaning languages) space room c false) ≡ Ok (Finishes fatal) =
          ap (end_of exception kept) (stops_there languages space c f.action f.arguments t met phase.Cleanup room some asks)
          ∙ ap (λ (o : Option ℕ). ok_end (end_at exception kept (stop_at c false f.action over) o)) none in
          ends_now frames fatal ends decided asks (sym outcome) (sym lands)
        where
          ok_end : PassEnd → Result PassEnd DeliverError
          ok_end x = Ok x

      elsewhere_now : (pad : ℕ) → f.state.sp < kept → stops phase.Cleanup f.action ≡ true → pad_of f.action ≡ Some pad → end_of exception kept (pass_of (cleaning languages) space room c false) ≡ Ok (Cleanup pad (enters over exception number pad))
      elsewhere_now pad below asks named =
          let mark : mark_at c false ≡ f.state.sp = marked_here in
          let other : eqb (mark_at c false) kept ≡ false = grind (arith, nat_tests) in
          ends_here pad asks named ∙ rw other refl

    -- the passes from the callers outwards
    abbrev Later : State → List State → List AskingFrame → AskingFrame → Type 0
    Later t callers frames g = (d : Context) (room places : ℕ) → Shows (columns_of d) t → IsWhole d → length callers < room → length callers ≤ places → deciding frames ≡ Some g → EachGoesOn resumes callers (inside frames) →
        PassesShow frames g places room d

    -- The passes from a context that shows a state of the stack, the first of which may have another limit.
    pub passes_show : (s : State) (callers : List State) (frames : List AskingFrame) (c : Context) (room places : ℕ) (g : AskingFrame) → AreMet s callers frames → StacksRise (s ∷ callers) → Shows (columns_of c) s → IsWhole c →
        length callers < room → length callers < limit → length callers ≤ places → deciding frames ≡ Some g → is_taken g.action ≡ true → kept ≡ g.state.sp → EachGoesOn resumes callers (inside frames) → PassesShow frames g places room c
    passes_show s [] [] c room places g are rise shows whole less within fits decided accepted at resume = absurd cc
    passes_show s [] (f ∷ frames) c room places g are rise shows whole less within fits decided accepted at resume = let bad : f ∷ frames ≡ [] = are.0 in absurd cc
    passes_show s (t ∷ callers) [] c room places g are rise shows whole less within fits decided accepted at resume = absurd are
    passes_show s (t ∷ callers) (f ∷ frames) c room places g are rise shows whole less within fits decided accepted at resume =
        go (λ d room places shows whole less fits decided resume. passes_show t callers frames d room places g are.2 rise.1 shows whole less (omega arith) fits decided accepted at resume) f.action refl
      where
        here : MeetsAsked languages space c false f.action f.arguments t
        here = are.1 c shows

        same_shows : Shows (columns_of c) f.state
        same_shows = subst (λ (u : State). Shows (columns_of c) u) (sym are.0) shows

        some : 0 < room
        some = omega arith

        -- the frames after this one
        later : frame_decides f ≡ false → deciding frames ≡ Some g
        later asks = let e : deciding (f ∷ frames) ≡ deciding frames = rw asks refl in sym e ∙ decided

        inner : frame_decides f ≡ false → inside (f ∷ frames) ≡ f ∷ inside frames
        inner asks = before_cons frame_decides f frames asks

        resumes_inner : frame_decides f ≡ false → EachGoesOn resumes (t ∷ callers) (f ∷ inside frames)
        resumes_inner asks = subst (λ (fs : List AskingFrame). EachGoesOn resumes (t ∷ callers) fs) (inner asks) resume

        -- this frame decides
        now : frame_decides f ≡ true → g ≡ f
        now asks = let e : deciding (f ∷ frames) ≡ Some f = rw asks refl in some_frame g f (sym decided ∙ e)

        lands : (pad : ℕ) → frame_decides f ≡ true → stops phase.Cleanup f.action ≡ true → pad_of f.action ≡ Some pad → ends_with f.action ≡ Installed → lands_in (past f) f.action ≡ Some (lands_at exception (past f) pad (selector_of f.action)) → PassesShow (f ∷ frames) g places room c
        lands pad asks stopped named outcome landing =
            let same : g ≡ f = now asks in
            let kept_is : kept ≡ f.state.sp = at ∙ ap (λ (h : AskingFrame). h.state.sp) same in
            subst (λ (h : AskingFrame). PassesShow (f ∷ frames) h places room c) (sym same) (lands_now f t c room places here same_shows whole some frames pad kept_is asks stopped named outcome landing)

        ends : frame_decides f ≡ true → stops phase.Cleanup f.action ≡ true → pad_of f.action ≡ None → ends_with f.action ≡ FatalPhase2 → lands_in (past f) f.action ≡ None → PassesShow (f ∷ frames) g places room c
        ends asks stopped none outcome landing =
            subst (λ (h : AskingFrame). PassesShow (f ∷ frames) h places room c) (sym (now asks)) (fatal_now f t c room places here same_shows whole some frames asks stopped none outcome landing)

        -- after its cleanup the frame goes on
        cleaned : Later t callers frames g → (pad ret size n : ℕ) → f.action ≡ Cleanup pad → frame_decides f ≡ false → return_of resumes pad ≡ Some ret → IsMet languages space (record (past f) { ra = ret }) Nothing size t → places ≡ suc n →
            PassesShow (f ∷ frames) g places room c
        cleaned outer pad ret size n is asks found goes room_left =
            let stopped : stops phase.Cleanup f.action ≡ true = rw is refl in
            let named : pad_of f.action ≡ Some pad = rw is refl in
            let up = rise.0 in
            let high = above t callers frames g are.2 rise.1 (later asks) in
            let start_at : f.state.sp ≡ s.sp = ap (λ (u : State). u.sp) are.0 in
            let past_c : Context = past_arguments c f.arguments in
            let number : ℕ = selector_of f.action in
            let entered : Context = enters past_c exception number pad in
            let d : Context = record entered { ra = ret } in
            let past_too : Shows (columns_of past_c) (past f) = past_shows c f.state f.arguments same_shows whole in
            let shows_too : Shows (columns_of d) (record (past f) { ra = ret }) = entered_shows past_c (past f) exception number pad past_too ret in
            let again : MeetsAsked languages space d false Nothing size t = goes d shows_too in
            let rest : PassesShow frames g n (limit - 1) again.next.context =
            outer again.next.context (limit - 1) n again.shows (caller_whole again.next space.image d again.frame again.called) (omega arith) (omega arith) (later asks) (resumes_inner asks).1 in
            let first : from places (pass_of (cleaning languages) space room c false) ≡ with_cleanup (cleanup_at pad entered) (passes languages space exception kept resumes limit n d) =
            ap (λ (m : ℕ). from m (pass_of (cleaning languages) space room c false)) room_left
            ∙ cleans languages space exception kept resumes limit n pad ret entered (pass_of (cleaning languages) space room c false) (elsewhere_now f t c room places here same_shows whole some pad (omega arith) stopped named) found in
            let second : passes languages space exception kept resumes limit n d ≡ Ok rest.passed =
            by_pass languages space exception kept resumes limit n d ∙ ap (from n) (goes_there languages space d Nothing size t again phase.Cleanup limit (omega arith) refl)
            ∙ goes_on languages space exception kept resumes limit n d (pass_of (cleaning languages) space (limit - 1) again.next.context false) ∙ rest.is in
            let cleanup : cleanup_asked f ≡ Some (pad, (past f).sp) = rw is refl in
            let all : counted places room c ≡ contexts_met (Some (cleaning languages)) space room c false + met_in_passes languages space exception kept resumes limit n d =
            ap (λ (m : ℕ). counted m room c) room_left
            ∙ cleans_met languages space exception kept resumes limit n (contexts_met (Some (cleaning languages)) space room c false) pad ret entered (pass_of (cleaning languages) space room c false) (elsewhere_now f t c room places here same_shows whole some pad (omega arith) stopped named) found in
            let one = met_once f t c room places here same_shows whole some stopped in
            let onward : met_in_passes languages space exception kept resumes limit n d ≡ suc (counted n (limit - 1) again.next.context) =
            by_count languages space exception kept resumes limit n d ∙ met_past n limit d Nothing size t again (omega arith) refl in
            let long = ap (λ (fs : List AskingFrame). length fs) (inner asks) in
            let met_rest = rest.met in
            record {
              passed = record rest.passed { trail = cleanup_at pad entered ∷ rest.passed.trail };
              is = first ∙ ap (with_cleanup (cleanup_at pad entered)) second;
              met = omega arith;
              trail = ap (λ (sp : ℕ). (pad, sp) ∷ map pair_of rest.passed.trail) (entered_sp past_c (past f) exception number pad past_too) ∙ ap (λ (ts : List (ℕ × ℕ)). (pad, (past f).sp) ∷ ts) rest.trail
                  ∙ sym (ap (filter_map cleanup_asked) (inner asks) ∙ ap (λ (o : Option (ℕ × ℕ)). cons_option o (filter_map cleanup_asked (inside frames))) cleanup);
              outcome = rest.outcome;
              landing = rest.landing;
            }

        goes : Later t callers frames g → (pad : ℕ) → f.action ≡ Cleanup pad → frame_decides f ≡ false → (ret : ℕ) × (resume_of resumes pad ≡ Some ret) × ((size : ℕ) × IsMet languages space (record (past f) { ra = ret }) Nothing size t) → (m : ℕ) → places ≡ m →
            PassesShow (f ∷ frames) g places room c
        goes outer pad is asks on zero left = absurd (omega arith)
        goes outer pad is asks on (suc n) left = cleaned outer pad on.0 on.2.0 n is asks (sym (resume_same resumes pad) ∙ on.1) on.2.1 left

        go : Later t callers frames g → (a : FrameAction) → f.action ≡ a → PassesShow (f ∷ frames) g places room c
        go outer Nothing is =
            let asks : frame_decides f ≡ false = rw is refl in
            let quiet : stops phase.Cleanup f.action ≡ false = rw is refl in
            let rest : PassesShow frames g places (room - 1) here.next.context =
            outer here.next.context (room - 1) places here.shows (caller_whole here.next space.image c here.frame here.called) (omega arith) (omega arith) (later asks) (resumes_inner asks).1 in
            let nothing : cleanup_asked f ≡ None = rw is refl in
            let onward = met_past places room c f.action f.arguments t here some quiet in
            let long = ap (λ (fs : List AskingFrame). length fs) (inner asks) in
            let met_rest = rest.met in
            record {
              passed = rest.passed;
              met = omega arith;
              is = ap (from places) (goes_there languages space c f.action f.arguments t here phase.Cleanup room some quiet) ∙ goes_on languages space exception kept resumes limit places c (pass_of (cleaning languages) space (room - 1) here.next.context false) ∙ rest.is;
              trail = rest.trail ∙ sym (ap (filter_map cleanup_asked) (inner asks) ∙ ap (λ (o : Option (ℕ × ℕ)). cons_option o (filter_map cleanup_asked (inside frames))) nothing);
              outcome = rest.outcome;
              landing = rest.landing;
            }
        go outer (Cleanup pad) is =
            let asks : frame_decides f ≡ false = rw is refl in
            let each : GoesOnMet resumes f t = (resumes_inner asks).0 in
            let on : (ret : ℕ) × (resume_of resumes pad ≡ Some ret) × ((size : ℕ) × IsMet languages space (record (past f) { ra = ret }) Nothing size t) =
            subst (λ (x : FrameAction). IfSome (cleanup_pad x) (λ q. (ret : ℕ) × (resume_of resumes q ≡ Some ret) × ((size : ℕ) × IsMet languages space (record (past f) { ra = ret }) Nothing size t))) is each in
            goes outer pad is asks on places refl
        go outer (Handler pad number) is = lands pad (rw is refl) (rw is refl) (rw is refl) (rw is refl) (rw is refl)
        go outer TerminateAfterCleanups is = ends (rw is refl) (rw is refl) (rw is refl) (rw is refl) (rw is refl)
        go outer Terminate is =
            let same = now (rw is refl) in
            let ends : is_taken g.action ≡ false = ap (λ (h : AskingFrame). is_taken h.action) same ∙ rw is refl in
            absurd (never (is_taken g.action) accepted ends)
          where
            never : (b : Bool) → b ≡ true → b ≡ false → ⊥
            never true t e = absurd cc
            never false t e = absurd cc
