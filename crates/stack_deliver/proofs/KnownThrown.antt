-- What is delivered by the rules of languages to a stack, of each of whose frames it is known how its caller's state follows and what
-- it asks, is what the definition says of these frames.
use Rattle.std.proofs.Common.{inl, inr, ◌≡◌, ℕ, length, ◌+◌, ◌*◌, ◌≤◌, length-append, Bool, true, false, List, [], ◌∷◌, ◌++◌, get_or, Option, Some, None, Result, Ok, refl, sym, ap, subst, ◌∙◌, arith}
use Rattle.std.specs.Prelude.{IfSome, map}
use Rattle.std.specs.List.{filter_map}
use Rattle.std.specs.Option.{option_map_or}
use Rattle.memory_image.specs.Image.{IsLaidOut}
use Rattle.unwind_definitions.specs.State.{State, IsState}
use Rattle.unwind_definitions.specs.Delivery as described
use Rattle.unwind_arch.specs.declared.x86_64.Context.{Context}
use Rattle.unwind_arch.specs.ContextViews.{columns_of}
use Rattle.stack_steps.specs.declared.error.DeliverError.{DeliverError}
use Rattle.stack_steps.specs.declared.asking.FrameAction.{FrameAction}
use Rattle.stack_steps.specs.declared.asking.FrameAction.TheVariants.{Nothing, Cleanup, Handler, Terminate, TerminateAfterCleanups}
use Rattle.stack_steps.specs.Languages.{Languages, is_taken}
use Rattle.stack_steps.specs.Modules.{SpaceValue, AreApart}
use Rattle.stack_steps.specs.KnownStacks.{IsKnownStack, HasNoSignals}
use Rattle.stack_steps.proofs.ContextLemmas.{IsWhole}
use Rattle.stack_walks.specs.Walking.{EachShows}
use Rattle.stack_walks.specs.FrameVisits.{Stop, decides, mark_at, pass_of, searching}
use Rattle.stack_walks.proofs.KnownLines.{called_state, calls_rise}
use Rattle.stack_deliver.specs.declared.outcome.Outcome.TheVariants.{EndOfStack, FatalPhase1}
use Rattle.stack_deliver.specs.KnownThrows.{AskingFrame, AreAsked, MayGoOnAt, ResumesBy, EachResumesBy, StartsKnownThrow, ShowsKnownThrow, asking_states, cleanup_asked, cleanup_pad, decided_by, delivery_taken, frame_decides, lands_at, past}
use Rattle.stack_deliver.specs.KnownThrows as thrown
use Rattle.stack_deliver.specs.Passes.{CleanupsRun, passes_of}
use Rattle.stack_deliver.specs.Searches.{met_in_passes, met_after_stop, met_through}
use Rattle.stack_walks.proofs.VisitCounts.{line_met}
use Rattle.std.proofs.lemmas.List.{length-map}
use Rattle.stack_deliver.specs.StackDelivery.{DeliveryValue, delivery_after, no_delivery, delivery_at, delivery_to, delivery_through}
use Rattle.stack_deliver.specs.StateViews.{state_of, outcome_of}
use Rattle.stack_deliver.proofs.Chains.{shown_states}
use Rattle.stack_deliver.proofs.KnownPasses.{deciding, inside, seen, StopIs, StopShows, SearchShows, AreMet, GoesOnMet, EachGoesOn, search_shows, ends_with, lands_in, passes_show}
use Rattle.stack_deliver.proofs.KnownVisits.{IsMet, link_met}
use Rattle.stack_deliver.proofs.PassRuns.{by_pass, by_count}
use Rattle.stack_deliver.proofs.FrameVisits.{pass_ends_at}

-- ---- what is known of a stack is met

module _ (languages : Languages) (space : SpaceValue) (apart : AreApart 0 space.modules) (laid : IsLaidOut 0 space.image) where
  frames_met : (s : State) (callers : List State) (stack : IsKnownStack space false s callers) (frames : List AskingFrame) → AreAsked languages space s callers stack frames → AreMet languages space s callers frames
  frames_met s [] stack frames asks = (asks, λ c p room some shows. pass_ends_at space apart laid [] c s p room some shows (record { state = stack.state; ends = stack.ends }))
  frames_met s (t ∷ callers) stack [] asks = absurd asks
  frames_met s (t ∷ callers) (inl link, outer) (f ∷ frames) asks =
      (asks.0, link_met languages space apart laid s t link f.action f.arguments (called_state space t callers outer) asks.1, frames_met t callers outer frames asks.2)
  frames_met s (t ∷ callers) (inr signal, outer) (f ∷ frames) asks = absurd asks

  -- a stack whose frames ask has no signal's frame
  asked_by_calls : (s : State) (callers : List State) (stack : IsKnownStack space false s callers) (frames : List AskingFrame) → AreAsked languages space s callers stack frames → HasNoSignals space false s callers stack
  asked_by_calls s [] stack frames asks = tt
  asked_by_calls s (t ∷ callers) stack [] asks = absurd asks
  asked_by_calls s (t ∷ callers) (inl link, outer) (f ∷ frames) asks = (refl, asked_by_calls t callers outer frames asks.2)
  asked_by_calls s (t ∷ callers) (inr signal, outer) (f ∷ frames) asks = absurd asks

  resumes_met : (resumes : List (ℕ × ℕ)) (f : AskingFrame) (t : State) → IsState t → ResumesBy languages space resumes f t → GoesOnMet languages space resumes f t
  resumes_met resumes f t fits goes = go (cleanup_pad f.action) goes
    where
      go : (o : Option ℕ) → IfSome o (λ pad. (ret : ℕ) × (described.resume_of resumes pad ≡ Some ret) × MayGoOnAt languages space (record (past f) { ra = ret }) t) →
          IfSome o (λ pad. (ret : ℕ) × (described.resume_of resumes pad ≡ Some ret) × ((size : ℕ) × IsMet languages space (record (past f) { ra = ret }) Nothing size t))
      go None goes = tt
      go (Some pad) goes =
          let on : MayGoOnAt languages space (record (past f) { ra = goes.0 }) t = goes.2 in
          (goes.0, goes.1, (on.arguments, link_met languages space apart laid (record (past f) { ra = goes.0 }) t on.link Nothing on.arguments fits on.silent))

  each_met : (resumes : List (ℕ × ℕ)) (s : State) (callers : List State) (stack : IsKnownStack space false s callers) → HasNoSignals space false s callers stack → (frames : List AskingFrame) → EachResumesBy languages space resumes callers frames →
      EachGoesOn languages space resumes callers frames
  each_met resumes s [] stack calls [] each = tt
  each_met resumes s [] stack calls (f ∷ frames) each = absurd each
  each_met resumes s (t ∷ callers) (inl link, outer) calls [] each = tt
  each_met resumes s (t ∷ callers) (inl link, outer) calls (f ∷ frames) each = (resumes_met resumes f t (called_state space t callers outer) each.0, each_met resumes t callers outer calls.1 frames each.1)
  each_met resumes s (t ∷ callers) (inr signal, outer) calls frames each = let by_call : true ≡ false = calls.0 in absurd cc

-- ---- the delivery

-- a frame that is found decides
decides_found : (fs : List AskingFrame) (f : AskingFrame) → deciding fs ≡ Some f → frame_decides f ≡ true
decides_found [] f found = absurd cc
decides_found (g ∷ gs) f found = go (λ e. decides_found gs f e) (frame_decides g) refl
  where
    go : (deciding gs ≡ Some f → frame_decides f ≡ true) → (b : Bool) → frame_decides g ≡ b → frame_decides f ≡ true
    go later true is =
        let here : deciding (g ∷ gs) ≡ Some g = rw is refl in
        let both : ◌≡◌ {A = Option AskingFrame} (Some g) (Some f) = sym here ∙ found in
        let same : g ≡ f = cc in
        ap frame_decides (sym same) ∙ is
    go later false is = let beyond : deciding (g ∷ gs) ≡ deciding gs = rw is refl in later (sym beyond ∙ found)

abbrev made : List State → List (ℕ × ℕ) → Option described.Landing → described.Outcome → described.Delivery
made visited trail landing outcome = record { visited = visited; trail = trail; landing = landing; outcome = outcome }

same_made : (v w : List State) (t u : List (ℕ × ℕ)) (l m : Option described.Landing) (o q : described.Outcome) → v ≡ w → t ≡ u → l ≡ m → o ≡ q → made v t l o ≡ made w u m q
same_made v w t u l m o q a b c d = ap (λ x. made x t l o) a ∙ ap (λ x. made w x l o) b ∙ ap (λ x. made w u x o) c ∙ ap (λ x. made w u m x) d

-- a delivery that is what the definition says, and how many contexts it meets
pub record DeliversThrow (exception : ℕ) (s : State) (callers : List State) (frames : List AskingFrame) (r : Result DeliveryValue DeliverError) (met : ℕ) : Type 0 where
  pub delivered : DeliveryValue
  pub is : r ≡ Ok delivered
  pub shows : ShowsKnownThrow delivered exception s callers frames
  pub few : met ≤ 2 * length delivered.visited + length delivered.trail

module _ (languages : Languages) (space : SpaceValue) (c : Context) (exception : ℕ) (resumes : List (ℕ × ℕ)) (limit : ℕ) (s : State) (callers : List State) (frames : List AskingFrame) (apart : AreApart 0 space.modules) (laid : IsLaidOut 0 space.image) (whole : IsWhole c)
    (is : StartsKnownThrow languages space c resumes limit s callers frames) where
  are : AreMet languages space s callers frames
  are = frames_met languages space apart laid s callers is.starts.stack frames is.asked

  abbrev passes : ℕ → Result CleanupsRun DeliverError
  passes kept = passes_of languages space exception kept resumes limit limit c

  abbrev Delivers : Result DeliveryValue DeliverError → ℕ → Type 0
  Delivers = DeliversThrow exception s callers frames

  -- how many contexts are met by a search that visits these, and by the passes toward where it stopped
  abbrev met : List Context → Option Stop → ℕ
  met contexts stop = length contexts + met_after_stop stop (λ kept. met_in_passes languages space exception kept resumes limit limit c)

  due : Option AskingFrame → described.Delivery
  due o = option_map_or (λ (f : AskingFrame). decided_by exception (inside frames) f f.action) o (described.delivery_without_handler (s ∷ callers) described.EndOfStack)

  -- no frame decides
  undecided : (contexts : List Context) → deciding frames ≡ None → EachShows contexts (s ∷ callers) → Delivers (delivery_to contexts None passes) (met contexts None)
  unfolding due
  undecided contexts none states = record {
    delivered = no_delivery contexts EndOfStack;
    is = refl;
    shows = ap (λ (visited : List State). made visited [] None described.EndOfStack) (shown_states contexts (s ∷ callers) states) ∙ sym (ap due none);
    few = omega arith;
  }

  module _ (contexts : List Context) (stop : Stop) (f : AskingFrame) (decided : deciding frames ≡ Some f) (stops : StopIs stop f) (states : EachShows contexts (seen (s ∷ callers) frames (Some f))) where
    visited : map state_of contexts ≡ asking_states (inside frames) ++ f.state ∷ []
    visited = shown_states contexts (seen (s ∷ callers) frames (Some f)) states

    -- the frames inside the one that decides, and that one
    visited_count : length contexts ≡ length (inside frames) + 1
    visited_count =
        sym (length-map contexts state_of) ∙ ap (λ (ss : List State). length ss) visited
        ∙ length-append (asking_states (inside frames)) (f.state ∷ [])
        ∙ ap (λ (n : ℕ). n + 1) (length-map (inside frames) (λ (g : AskingFrame). g.state))

    due_is : (x : FrameAction) → f.action ≡ x → thrown.delivery_to exception (s ∷ callers) frames ≡ decided_by exception (inside frames) f x
    unfolding due
    due_is x acts = ap due decided ∙ ap (decided_by exception (inside frames) f) acts

    taken_is : (x : FrameAction) → f.action ≡ x → is_taken stop.action ≡ is_taken x
    taken_is x acts = ap is_taken (stops.action ∙ acts)

    terminates : (x : FrameAction) → f.action ≡ x → is_taken x ≡ false → decided_by exception (inside frames) f x ≡ described.delivery_without_handler (asking_states (inside frames) ++ f.state ∷ []) described.FatalPhase1 →
        Delivers (delivery_to contexts (Some stop) passes) (met contexts (Some stop))
    terminates x acts none ends = record {
      delivered = no_delivery contexts FatalPhase1;
      is = ap (λ (b : Bool). delivery_at contexts b (passes (mark_at stop.context stop.interrupted))) (taken_is x acts ∙ none);
      shows = ap (λ (v : List State). made v [] None described.FatalPhase1) visited ∙ sym (due_is x acts ∙ ends);
      few = let here : met_after_stop (Some stop) (λ kept. met_in_passes languages space exception kept resumes limit limit c) ≡ 0 = rw (taken_is x acts, none) refl in omega arith;
    }

    kept_is : mark_at stop.context stop.interrupted ≡ f.state.sp
    kept_is = ap (mark_at stop.context) stops.unmarked ∙ sp
      where
        sp : get_or stop.context.registers 7 0 ≡ f.state.sp
        sp = let e : columns_of stop.context 7 ≡ Some f.state.sp = stops.shows.sp in cc

    abbrev kept : ℕ
    kept = mark_at stop.context stop.interrupted

    accepted : (x : FrameAction) → f.action ≡ x → is_taken x ≡ true → decided_by exception (inside frames) f x ≡ delivery_taken (inside frames) f (lands_in languages space exception kept resumes limit (past f) x) →
        outcome_of (ends_with languages space exception kept resumes limit x) ≡ (delivery_taken (inside frames) f (lands_in languages space exception kept resumes limit (past f) x)).outcome →
        Delivers (delivery_to contexts (Some stop) passes) (met contexts (Some stop))
    accepted x acts takes handles outcome =
        let accepting : is_taken f.action ≡ true = ap is_taken acts ∙ takes in
        let within = is.starts.shorter in
        let calls = asked_by_calls languages space apart laid s callers is.starts.stack frames is.asked in
        let shown = passes_show languages space exception kept resumes limit s callers frames c limit limit f are (calls_rise space false s callers is.starts.stack calls) is.starts.shows whole within within (omega arith) decided accepting kept_is
        (each_met languages space apart laid resumes s callers is.starts.stack calls (inside frames) (is.resumed f decided accepting)) in
        let toward : met_after_stop (Some stop) (λ kept. met_in_passes languages space exception kept resumes limit limit c) ≡ met_in_passes languages space exception kept resumes limit limit c = rw (taken_is x acts, takes) refl in
        let counted = by_count languages space exception kept resumes limit limit c in
        let run_met = shown.met in
        let long = visited_count in
        let run : passes kept ≡ Ok shown.passed = by_pass languages space exception kept resumes limit limit c ∙ shown.is in
        let due : described.Delivery = delivery_taken (inside frames) f (lands_in languages space exception kept resumes limit (past f) x) in
        record {
          delivered = record { visited = contexts; trail = shown.passed.trail; outcome = shown.passed.ending.outcome; landing = shown.passed.ending.landing };
          is = ap (λ (b : Bool). delivery_at contexts b (passes kept)) (taken_is x acts ∙ takes) ∙ ap (delivery_after contexts) run;
          shows = same_made _ _ _ _ _ _ _ _ visited shown.trail (shown.landing ∙ ap (lands_in languages space exception kept resumes limit (past f)) acts)
              (ap outcome_of (shown.outcome ∙ ap (ends_with languages space exception kept resumes limit) acts) ∙ outcome) ∙ taken_made (lands_in languages space exception kept resumes limit (past f) x) ∙ sym (due_is x acts ∙ handles);
          few = omega arith;
        }
      where
        -- field by field
        taken_made : (o : Option described.Landing) → made (asking_states (inside frames) ++ f.state ∷ []) (filter_map cleanup_asked (inside frames)) o (delivery_taken (inside frames) f o).outcome ≡ delivery_taken (inside frames) f o
        taken_made None = refl
        taken_made (Some landing) = refl

    -- the frame that decides
    by_action : (x : FrameAction) → f.action ≡ x → Delivers (delivery_to contexts (Some stop) passes) (met contexts (Some stop))
    by_action Nothing acts =
        let found : frame_decides f ≡ true = decides_found frames f decided in
        let none : frame_decides f ≡ false = ap decides acts in
        absurd cc
    by_action (Cleanup pad) acts =
        let found : frame_decides f ≡ true = decides_found frames f decided in
        let none : frame_decides f ≡ false = ap decides acts in
        absurd cc
    by_action (Handler pad number) acts = accepted (Handler pad number) acts refl refl refl
    by_action TerminateAfterCleanups acts = accepted TerminateAfterCleanups acts refl refl refl
    by_action Terminate acts = terminates Terminate acts refl refl

  by_stop : (contexts : List Context) (o : Option AskingFrame) (stop : Option Stop) → deciding frames ≡ o → StopShows stop o → EachShows contexts (seen (s ∷ callers) frames o) → Delivers (delivery_to contexts stop passes) (met contexts stop)
  by_stop contexts None None decided stops states = undecided contexts decided states
  by_stop contexts (Some f) (Some stop) decided stops states = by_action contexts stop f decided stops states f.action refl
  by_stop contexts None (Some stop) decided stops states = absurd stops
  by_stop contexts (Some f) None decided stops states = absurd stops

  -- What is delivered is what the definition says.
  pub throw_delivered : Delivers (delivery_through languages space c exception resumes limit) (met_through languages space c exception resumes limit)
  unfolding delivery_through met_through
  throw_delivered =
      let search : SearchShows (pass_of (searching languages) space limit c false) (s ∷ callers) frames = search_shows languages space s callers frames c limit are is.starts.shows is.starts.shorter in
      let counted = line_met (Some (searching languages)) space limit c false search.line search.is in
      rw (search.is, counted) (by_stop search.line.contexts (deciding frames) search.line.stop refl search.stop search.states)
