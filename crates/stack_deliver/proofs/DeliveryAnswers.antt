-- How a delivery ends and why it is refused, in the words of what its search and its passes meet.
use Rattle.std.proofs.Common.{inl, inr, ◌≡◌, ◌≢◌, ℕ, zero, suc, Bool, true, false, List, Option, Some, None, Result, Ok, Err, refl, sym, ap, subst, ◌∙◌}
use Rattle.std.specs.Prelude.{◌⊎◌}
use Rattle.unwind_arch.specs.declared.x86_64.Context.{Context}
use Rattle.stack_deliver.specs.declared.outcome.Ending.{Ending}
use Rattle.stack_deliver.specs.declared.outcome.Outcome.{Outcome}
use Rattle.stack_deliver.specs.declared.outcome.Outcome.TheVariants.{Installed, EndOfStack, FatalPhase1, FatalPhase2}
use Rattle.stack_steps.specs.declared.error.DeliverError.{DeliverError}
use Rattle.stack_steps.specs.declared.error.DeliverError.TheVariants.{NoMemory, Unmapped, FrameLimit, PassLimit, NoResume, Table, MachO, CompactForm, PeInfo, ChainLimit}
use Rattle.stack_steps.specs.Languages.{Languages, is_taken}
use Rattle.stack_steps.specs.Modules.{SpaceValue}
use Rattle.stack_walks.proofs.LineAnswers.{IsStepFault}
use Rattle.stack_walks.specs.FrameVisits.{Line, Pass, Stop, cleaning, pass_of, mark_at, searching}
use Rattle.stack_deliver.specs.Passes.{cleanup_of, CleanupsRun, passes_of}
use Rattle.stack_walks.proofs.VisitLines.{stop_in}
use Rattle.stack_deliver.specs.StackDelivery.{DeliveryValue, delivery_after, no_delivery, delivery_at, delivery_to, delivery_by, delivery_through}
use Rattle.stack_deliver.specs.Causes.{CantRead, Meets, GoesOnFrom}
use Rattle.stack_deliver.specs.Causes.{TakenAt, SomePass, NeedMore, MeetFault, IsRefusedThrough, EndsThrough}
use Rattle.stack_deliver.proofs.MeetAnswers.{visit_fails, more_pass, meets_never}
use Rattle.stack_deliver.proofs.CauseAnswers.{RefusesNow, refused_in, some_refused, some_pass, visit_faults, refused_either, search_refuses, refuses, limit_met, met_limit, unresumed, no_return}
use Rattle.stack_deliver.proofs.DeliverFaults.{delivery_memory}
use Rattle.stack_walks.proofs.LineAnswers.{IsStepFault, OnStepFault}
use Rattle.stack_deliver.proofs.OutcomeAnswers.{line_stops, line_fails, stop_of, ended_meets, meets_ended, failed_meets, meets_failed, limit_goes, fatal_meets, meets_fatal, Finished, finished, finishes, cleanup_refused, refuses_cleanup, FinishesSo, finished_in, finish_all, some_holds}

-- what can't be read has a fault of tables or of memory
read_faults : (p : Pass) (space : SpaceValue) (e : DeliverError) → (IsStepFault e → ⊥) → (c : Context) (interrupted : Bool) → CantRead p e space c interrupted → ⊥
read_faults p space e other c interrupted fails = other (subst OnStepFault (visit_fails p space c interrupted e fails) (visit_faults space p c interrupted))

module _ (languages : Languages) (space : SpaceValue) (c : Context) (exception : ℕ) (resumes : List (ℕ × ℕ)) (limit : ℕ) where
  abbrev pub delivery : Result DeliveryValue DeliverError
  delivery = delivery_through languages space c exception resumes limit

  abbrev passes : ℕ → Result CleanupsRun DeliverError
  passes kept = passes_of languages space exception kept resumes limit limit c

  abbrev search_stop : Result (Option Stop) DeliverError
  search_stop = stop_of (searching languages) space limit c

  -- ---- outcomes

  -- how a delivery that isn't refused goes: the search comes to the end of the stack, or to that of the program, or the passes go
  data Course (d : DeliveryValue) : Type 0 where
    AtEnd : search_stop ≡ Ok None → d.outcome ≡ EndOfStack → Course d
    AtFatal : (stop : Stop) → search_stop ≡ Ok (Some stop) → is_taken stop.action ≡ false → d.outcome ≡ FatalPhase1 → Course d
    InPass : (kept : ℕ) → TakenAt languages space limit c kept → (passed : CleanupsRun) → passes kept ≡ Ok passed → d.outcome ≡ passed.ending.outcome → Course d

  course : (d : DeliveryValue) → delivery ≡ Ok d → Course d
  unfolding delivery_through
  course d is = go (pass_of (searching languages) space limit c false) refl is
    where
      by_passes : (line : Line) → pass_of (searching languages) space limit c false ≡ Ok line → (stop : Stop) → line.stop ≡ Some stop → is_taken stop.action ≡ true → (r : Result CleanupsRun DeliverError) → passes (mark_at stop.context stop.interrupted) ≡ r →
          delivery_after line.contexts r ≡ Ok d → Course d
      by_passes line at stop stops named (Ok passed) run h =
          let out : d.outcome ≡ passed.ending.outcome = cc in
          InPass (mark_at stop.context stop.interrupted) (record { line = line; searched = at; stop = stop; stops = stops; takes = named; mark = refl }) passed run out
      by_passes line at stop stops named (Err e) run h = absurd cc

      by_pad : (line : Line) → pass_of (searching languages) space limit c false ≡ Ok line → (stop : Stop) → line.stop ≡ Some stop → (b : Bool) → is_taken stop.action ≡ b → delivery_at line.contexts b (passes (mark_at stop.context stop.interrupted)) ≡ Ok d → Course d
      by_pad line at stop stops false none h =
          let out : d.outcome ≡ FatalPhase1 = cc in
          let stopped : search_stop ≡ Ok (Some stop) = ap stop_in at ∙ ap stopped_at stops in
          AtFatal stop stopped none out
        where
          stopped_at : Option Stop → Result (Option Stop) DeliverError
          stopped_at o = Ok o
      by_pad line at stop stops true named h = by_passes line at stop stops named (passes (mark_at stop.context stop.interrupted)) refl h

      by_stop : (line : Line) → pass_of (searching languages) space limit c false ≡ Ok line → (o : Option Stop) → line.stop ≡ o → delivery_to line.contexts o passes ≡ Ok d → Course d
      by_stop line at None none h =
          let out : d.outcome ≡ EndOfStack = cc in
          let ended : search_stop ≡ Ok None = ap stop_in at ∙ ap stopped_at none in
          AtEnd ended out
        where
          stopped_at : Option Stop → Result (Option Stop) DeliverError
          stopped_at o = Ok o
      by_stop line at (Some stop) stops h = by_pad line at stop stops (is_taken stop.action) refl h

      go : (r : Result Line DeliverError) → pass_of (searching languages) space limit c false ≡ r → delivery_by r passes ≡ Ok d → Course d
      go (Ok line) at h = by_stop line at line.stop refl h
      go (Err e) at h = absurd cc

  -- what is so of a delivery that ends with an outcome
  abbrev pub Ends : Outcome → Type 0
  Ends = EndsThrough languages space c exception resumes limit

  -- the pass that ends the passes finishes with an outcome of passes
  in_pass : (kept : ℕ) → TakenAt languages space limit c kept → (ending : Ending) → SomePass languages space exception kept resumes limit (FinishesSo languages space exception kept resumes limit ending) limit c → Ends ending.outcome
  in_pass kept taken ending some = go ending.outcome refl
    where
      Meeting : Outcome → ℕ → Context → Type 0
      Meeting o n d = Finished languages space exception kept limit d o

      met : (o : Outcome) → ending.outcome ≡ o → SomePass languages space exception kept resumes limit (Meeting o) limit c
      met o is = some_pass languages space exception kept resumes limit (FinishesSo languages space exception kept resumes limit ending) (Meeting o) (λ n d at. subst (Finished languages space exception kept limit d) is (finished languages space exception kept limit d ending at)) limit c some

      go : (o : Outcome) → ending.outcome ≡ o → Ends o
      go Installed is = (kept, taken, met Installed is)
      go FatalPhase2 is = (kept, taken, met FatalPhase2 is)
      go EndOfStack is = absurd (some_holds languages space exception kept resumes limit (Meeting EndOfStack) ⊥ (λ n d never. never) limit c (met EndOfStack is))
      go FatalPhase1 is = absurd (some_holds languages space exception kept resumes limit (Meeting FatalPhase1) ⊥ (λ n d never. never) limit c (met FatalPhase1 is))

  pub ended_by : (d : DeliveryValue) → delivery ≡ Ok d → Ends d.outcome
  ended_by d is = go (course d is)
    where
      go : Course d → Ends d.outcome
      go (AtEnd ended out) = subst Ends (sym out) (ended_meets (searching languages) space limit c ended)
      go (AtFatal stop stopped none out) = subst Ends (sym out) (fatal_meets languages space limit c stop stopped none)
      go (InPass kept taken passed run out) = subst Ends (sym out) (in_pass kept taken passed.ending (finished_in languages space exception kept resumes limit limit c passed run))

  abbrev pub Delivers : Outcome → Type 0
  Delivers o = (d : DeliveryValue) × (delivery ≡ Ok d) × (d.outcome ≡ o)

  by_search : (o : Option Stop) → search_stop ≡ Ok o → (line : Line) × (delivery ≡ delivery_to line.contexts o passes)
  unfolding delivery_through
  by_search o is =
      let r = line_stops (pass_of (searching languages) space limit c false) o is in
      let line : Line = r.0 in
      (line, ap (λ x. delivery_by x passes) r.1 ∙ ap (λ x. delivery_to line.contexts x passes) r.2)

  by_taken : (kept : ℕ) → TakenAt languages space limit c kept → (passed : CleanupsRun) → passes kept ≡ Ok passed → (d : DeliveryValue) × (delivery ≡ Ok d) × (d.outcome ≡ passed.ending.outcome)
  unfolding delivery_through
  by_taken kept taken passed run =
      let own : passes (mark_at taken.stop.context taken.stop.interrupted) ≡ Ok passed = ap passes (sym taken.mark) ∙ run in (
        record { visited = taken.line.contexts; trail = passed.trail; outcome = passed.ending.outcome; landing = passed.ending.landing },
        ap (λ r. delivery_by r passes) taken.searched ∙ ap (λ o. delivery_to taken.line.contexts o passes) taken.stops
            ∙ ap (λ o. delivery_at taken.line.contexts o (passes (mark_at taken.stop.context taken.stop.interrupted))) taken.takes ∙ ap (delivery_after taken.line.contexts) own,
        refl,
      )

  by_pass : (o : Outcome) (kept : ℕ) → TakenAt languages space limit c kept → SomePass languages space exception kept resumes limit (λ n d. Finished languages space exception kept limit d o) limit c → Delivers o
  by_pass o kept taken some =
      let r = first limit c some in
      let ending : Ending = r.0 in
      let all = finish_all languages space exception kept resumes limit ending limit c r.2 in
      let d = by_taken kept taken all.0 all.1 in
      (d.0, d.1, d.2 ∙ ap outcome_of all.2 ∙ r.1)
    where
      outcome_of : Ending → Outcome
      outcome_of x = x.outcome

      first : (places : ℕ) (e : Context) → SomePass languages space exception kept resumes limit (λ n d. Finished languages space exception kept limit d o) places e → (ending : Ending) × (ending.outcome ≡ o) × SomePass languages space exception kept resumes limit (FinishesSo languages space exception kept resumes limit ending) places e
      first zero e met = let r = finishes languages space exception kept limit e o met in (r.0, r.2, r.1)
      first (suc n) e (inl met) = let r = finishes languages space exception kept limit e o met in (r.0, r.2, inl r.1)
      first (suc n) e (inr later) = let r = first n (record later.1 { ra = later.2 }) later.5 in (r.0, r.1, inr (later.0, later.1, later.2, later.3, later.4, r.2))

  pub by_end : (o : Outcome) → Ends o → Delivers o
  by_end Installed ends = by_pass Installed ends.0 ends.1 ends.2
  by_end FatalPhase2 ends = by_pass FatalPhase2 ends.0 ends.1 ends.2
  by_end EndOfStack ends =
      let r = by_search None (meets_ended (searching languages) space limit c ends) in
      (no_delivery r.0.contexts EndOfStack, r.1, refl)
  by_end FatalPhase1 ends =
      let stop = meets_fatal languages space limit c ends in
      let r = by_search (Some stop.0) stop.1 in
      (no_delivery r.0.contexts FatalPhase1, r.1 ∙ ap (λ (b : Bool). delivery_at r.0.contexts b (passes (mark_at stop.0.context stop.0.interrupted))) stop.2, refl)

  -- ---- refusals

  -- a cleanup pass that is refused so, where the passes are for no other cause
  narrow : (kept : ℕ) (e : DeliverError) → e ≢ PassLimit → ((pad : ℕ) → e ≢ NoResume pad) → (P : Context → Type 0) → ((d : Context) → cleanup_of languages space exception kept limit d ≡ Err e → P d) → (places : ℕ) (d : Context) → RefusesNow languages space exception kept resumes limit e places d → P d
  narrow kept e not_full not_resumed P each places d (inl is) = each d is
  narrow kept e not_full not_resumed P each places d (inr (inl full)) = absurd (not_full full.0)
  narrow kept e not_full not_resumed P each places d (inr (inr none)) = absurd (not_resumed none.0 none.1)

  abbrev Reads : Pass → DeliverError → Context → Type 0
  Reads p e d = Meets p space (CantRead p e space) limit d false

  faults : (e : DeliverError) → e ≢ FrameLimit → e ≢ PassLimit → ((pad : ℕ) → e ≢ NoResume pad) → delivery ≡ Err e → MeetFault languages space c exception resumes limit e
  faults e not_limit not_full not_resumed fails = go (refused_either languages space c exception resumes limit e fails)
    where
      go : (pass_of (searching languages) space limit c false ≡ Err e) ⊎ ((kept : ℕ) × TakenAt languages space limit c kept × (passes kept ≡ Err e)) → MeetFault languages space c exception resumes limit e
      go (inl is) = inl (failed_meets (searching languages) space limit c e not_limit (ap stop_in is))
      go (inr r) =
          let kept = r.0 in
          inr (
            kept,
            r.1,
            some_pass languages space exception kept resumes limit (RefusesNow languages space exception kept resumes limit e) (λ places. Reads (cleaning languages) e)
                (narrow kept e not_full not_resumed (Reads (cleaning languages) e) (λ d is. failed_meets (cleaning languages) space limit d e not_limit (cleanup_refused languages space exception kept limit d e is))) limit c
                (refused_in languages space exception kept resumes limit limit c e r.2),
          )

  fault_meets : (e : DeliverError) → MeetFault languages space c exception resumes limit e → delivery ≡ Err e
  fault_meets e (inl meets) = search_refuses languages space c exception resumes limit e (line_fails (pass_of (searching languages) space limit c false) e (meets_failed (searching languages) space limit c e meets))
  fault_meets e (inr r) =
      let kept = r.0 in
      refuses languages space c exception resumes limit e kept r.1 (some_refused languages space exception kept resumes limit (λ places. Reads (cleaning languages) e) e each limit c r.2)
    where
      each : (places : ℕ) (d : Context) → Reads (cleaning languages) e d → passes_of languages space exception r.0 resumes limit places d ≡ Err e
      each places d meets = refused_now places d (refuses_cleanup languages space exception r.0 limit d e (meets_failed (cleaning languages) space limit d e meets))
        where
          refused_now : (n : ℕ) (x : Context) → cleanup_of languages space exception r.0 limit x ≡ Err e → passes_of languages space exception r.0 resumes limit n x ≡ Err e
          refused_now zero x is = rw is refl
          refused_now (suc n) x is = rw is refl

  needs_more : delivery ≡ Err FrameLimit → NeedMore languages space c exception resumes limit
  needs_more fails = go (refused_either languages space c exception resumes limit FrameLimit fails)
    where
      never : (p : Pass) (d : Context) → Reads p FrameLimit d → ⊥
      never p d = meets_never p space (CantRead p FrameLimit space) (read_faults p space FrameLimit (λ x. x)) limit d false

      go : (pass_of (searching languages) space limit c false ≡ Err FrameLimit) ⊎ ((kept : ℕ) × TakenAt languages space limit c kept × (passes kept ≡ Err FrameLimit)) → NeedMore languages space c exception resumes limit
      go (inl is) = inl (limit_goes (searching languages) space limit c (ap stop_in is) (never (searching languages) c))
      go (inr r) =
          let kept = r.0 in
          inr (
            kept,
            r.1,
            some_pass languages space exception kept resumes limit (RefusesNow languages space exception kept resumes limit FrameLimit) (λ places d. GoesOnFrom (cleaning languages) space limit d false)
                (narrow kept FrameLimit (λ e. cc) (λ pad e. cc) (λ d. GoesOnFrom (cleaning languages) space limit d false) (λ d is. limit_goes (cleaning languages) space limit d (cleanup_refused languages space exception kept limit d FrameLimit is) (never (cleaning languages) d))) limit c
                (refused_in languages space exception kept resumes limit limit c FrameLimit r.2),
          )

  more_needed : NeedMore languages space c exception resumes limit → delivery ≡ Err FrameLimit
  more_needed (inl more) = search_refuses languages space c exception resumes limit FrameLimit (line_fails (pass_of (searching languages) space limit c false) FrameLimit (more_pass (searching languages) space limit c false more))
  more_needed (inr r) =
      let kept = r.0 in
      refuses languages space c exception resumes limit FrameLimit kept r.1 (some_refused languages space exception kept resumes limit (λ places d. GoesOnFrom (cleaning languages) space limit d false) FrameLimit each limit c r.2)
    where
      each : (places : ℕ) (d : Context) → GoesOnFrom (cleaning languages) space limit d false → passes_of languages space exception r.0 resumes limit places d ≡ Err FrameLimit
      each places d more = refused_now places d (refuses_cleanup languages space exception r.0 limit d FrameLimit (more_pass (cleaning languages) space limit d false more))
        where
          refused_now : (n : ℕ) (x : Context) → cleanup_of languages space exception r.0 limit x ≡ Err FrameLimit → passes_of languages space exception r.0 resumes limit n x ≡ Err FrameLimit
          refused_now zero x is = rw is refl
          refused_now (suc n) x is = rw is refl

  pub refused_why : (e : DeliverError) → delivery ≡ Err e → IsRefusedThrough languages space c exception resumes limit e
  refused_why NoMemory fails = delivery_memory space languages c exception resumes limit fails
  refused_why FrameLimit fails = needs_more fails
  refused_why PassLimit fails = limit_met languages space c exception resumes limit fails
  refused_why (NoResume pad) fails = unresumed languages space c exception resumes limit pad fails
  refused_why (Unmapped a) fails = faults (Unmapped a) (λ e. cc) (λ e. cc) (λ pad e. cc) fails
  refused_why (Table f) fails = faults (Table f) (λ e. cc) (λ e. cc) (λ pad e. cc) fails
  refused_why (MachO f) fails = faults (MachO f) (λ e. cc) (λ e. cc) (λ pad e. cc) fails
  refused_why CompactForm fails = faults CompactForm (λ e. cc) (λ e. cc) (λ pad e. cc) fails
  refused_why PeInfo fails = faults PeInfo (λ e. cc) (λ e. cc) (λ pad e. cc) fails
  refused_why ChainLimit fails = faults ChainLimit (λ e. cc) (λ e. cc) (λ pad e. cc) fails

  pub why_refused : (e : DeliverError) → IsRefusedThrough languages space c exception resumes limit e → delivery ≡ Err e
  why_refused NoMemory is = absurd is
  why_refused FrameLimit is = more_needed is
  why_refused PassLimit is = met_limit languages space c exception resumes limit is
  why_refused (NoResume pad) is = no_return languages space c exception resumes limit pad is
  why_refused (Unmapped a) is = fault_meets (Unmapped a) is
  why_refused (Table f) is = fault_meets (Table f) is
  why_refused (MachO f) is = fault_meets (MachO f) is
  why_refused CompactForm is = fault_meets CompactForm is
  why_refused PeInfo is = fault_meets PeInfo is
  why_refused ChainLimit is = fault_meets ChainLimit is
