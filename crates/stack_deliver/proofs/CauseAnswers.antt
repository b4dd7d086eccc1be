-- When a delivery answers that the trail is full or a cleanup has no return address.
use Rattle.std.proofs.Common.{inl, inr, ◌≡◌, ℕ, zero, suc, Bool, true, false, cond, List, Option, Some, None, Result, Ok, Err, refl, sym, ap, subst, ◌∙◌, arith}
use Rattle.std.specs.Prelude.{◌⊎◌}
use Rattle.stack_steps.specs.declared.asking.FrameAction.{FrameAction}
use Rattle.stack_steps.specs.Languages.{Languages, asks_if_named, frame_asks, is_taken, routine_of}
use Rattle.memory_image.specs.Results.{result_map}
use Rattle.unwind_definitions.specs.LanguageSearch.{LanguagePlace, address_of_call, personality_address}
use Rattle.unwind_definitions.specs.Caller as calls
use Rattle.unwind_arch.specs.declared.x86_64.Context.{Context}
use Rattle.fde_finders.specs.Finding.{FoundFde}
use Rattle.stack_walks.specs.declared.room.Trail.{Trail}
use Rattle.format_frames.specs.declared.machine.Stepped.{Stepped}
use Rattle.stack_steps.specs.declared.error.DeliverError.{DeliverError}
use Rattle.stack_steps.specs.declared.error.DeliverError.TheVariants.{FrameLimit, PassLimit, NoResume}
use Rattle.stack_steps.specs.Modules.{SpaceValue}
use Rattle.stack_deliver.specs.Resumes.{return_of}
use Rattle.stack_steps.specs.Stepping.{step_of, frame_of, caller_by}
use Rattle.stack_steps.specs.Frames.{refusal_of, FrameAt, Described, Compact, Recorded}
use Rattle.stack_steps.specs.Pe.{frame_refusal}
use Rattle.pe_unwind_info.specs.declared.x86_64.fault.FrameFault.{FrameFault}
use Rattle.pe_unwind_info.specs.declared.x86_64.fault.FrameFault.TheVariants as pe
use Rattle.macho_unwind_info.specs.declared.error.Error.{Error}
use Rattle.format_frames.specs.Handlers.{macho_place, pe_place}
use Rattle.stack_steps.specs.Macho.{compact_table}
use Rattle.stack_steps.specs.Asking.{named_table}
use Rattle.stack_steps.specs.Pe.{recorded_table}
use Rattle.stack_steps.specs.Elf.{table_if_named}
use Rattle.stack_walks.specs.FrameVisits.{Pass, cleaning, searching, visit_at, stops, Line, Stop, FrameVisit, Ends, Stops, Goes, visit_of, with_context, line_visit, pass_of, mark_at, visit_for}
use Rattle.stack_deliver.specs.Passes.{PassEnd, Finishes, Cleanup, end_of, cleanup_of, cleanup_at, resume_at, CleanupsRun, with_cleanup, cleanup_and_rest, after_pass, passes_of}
use Rattle.stack_deliver.specs.StackDelivery.{delivery_after, delivery_at, delivery_to, delivery_by, delivery_through}
use Rattle.stack_steps.proofs.StepParts.{some_next, stepped_by, step_is}
use Rattle.stack_deliver.proofs.VisitParts.{goes, visit_asked, visit_by}
use Rattle.stack_walks.proofs.LineAnswers.{IsStepFault, OnStepFault, step_faults}
use Rattle.stack_deliver.specs.Causes.{TakenAt, SomePass, TrailIsFull, HasNoReturn, InPasses}

module _ (languages : Languages) (space : SpaceValue) (exception kept : ℕ) (resumes : List (ℕ × ℕ)) (limit : ℕ) where
  abbrev passes : ℕ → Context → Result CleanupsRun DeliverError
  passes = passes_of languages space exception kept resumes limit

  abbrev later : ℕ → ℕ → Context → Result CleanupsRun DeliverError
  later n pad entered = cleanup_and_rest (cleanup_at pad entered) (resume_at pad entered (return_of resumes pad)) (passes n)

  -- the pass from a context is refused so, or the cleanup that it enters is
  abbrev pub RefusesNow : DeliverError → ℕ → Context → Type 0
  RefusesNow e places c = (cleanup_of languages space exception kept limit c ≡ Err e) ⊎ ((e ≡ PassLimit) × TrailIsFull languages space exception kept resumes limit places c) ⊎ ((pad : ℕ) × (e ≡ NoResume pad) × HasNoReturn languages space exception kept resumes limit pad places c)

  cleanup_error : (t : Trail) (r : Result CleanupsRun DeliverError) (e : DeliverError) → with_cleanup t r ≡ Err e → r ≡ Err e
  cleanup_error t (Ok x) e is = absurd cc
  cleanup_error t (Err x) e is = cc

  same_error : (x e : DeliverError) → ◌≡◌ {A = Result CleanupsRun DeliverError} (Err x) (Err e) → x ≡ e
  same_error x e is = cc

  -- what refuses passes refuses one of them
  pub refused_in : (places : ℕ) (c : Context) (e : DeliverError) → passes places c ≡ Err e → SomePass languages space exception kept resumes limit (RefusesNow e) places c
  refused_in zero c e fails = go (cleanup_of languages space exception kept limit c) refl fails
    where
      go : (r : Result PassEnd DeliverError) → cleanup_of languages space exception kept limit c ≡ r → after_pass r (λ pad entered. Err PassLimit) ≡ Err e → RefusesNow e zero c
      go (Ok (Finishes ending)) is h = absurd cc
      go (Ok (Cleanup pad entered)) is h = inr (inl (sym (same_error PassLimit e h), (refl, (pad, entered, is))))
      go (Err x) is h = inl (is ∙ ap (λ (y : DeliverError). failed y) (same_error x e h))
        where
          failed : DeliverError → Result PassEnd DeliverError
          failed y = Err y
  refused_in (suc n) c e fails = go (cleanup_of languages space exception kept limit c) refl (λ d h. refused_in n d e h) fails
    where
      at_return : (pad : ℕ) (entered : Context) (o : Option ℕ) → cleanup_of languages space exception kept limit c ≡ Ok (Cleanup pad entered) → return_of resumes pad ≡ o → ((d : Context) → passes n d ≡ Err e → SomePass languages space exception kept resumes limit (RefusesNow e) n d) →
          cleanup_and_rest (cleanup_at pad entered) (resume_at pad entered o) (passes n) ≡ Err e → SomePass languages space exception kept resumes limit (RefusesNow e) (suc n) c
      at_return pad entered None is found outer h = inl (inr (inr (pad, sym (same_error (NoResume pad) e h), (omega arith, (entered, is, found)))))
      at_return pad entered (Some ret) is found outer h = inr (pad, entered, ret, is, found, outer (record entered { ra = ret }) (cleanup_error (cleanup_at pad entered) (passes n (record entered { ra = ret })) e h))

      failed : DeliverError → Result PassEnd DeliverError
      failed y = Err y

      go : (r : Result PassEnd DeliverError) → cleanup_of languages space exception kept limit c ≡ r → ((d : Context) → passes n d ≡ Err e → SomePass languages space exception kept resumes limit (RefusesNow e) n d) → after_pass r (later n) ≡ Err e →
          SomePass languages space exception kept resumes limit (RefusesNow e) (suc n) c
      go (Ok (Finishes ending)) is outer h = absurd cc
      go (Ok (Cleanup pad entered)) is outer h = at_return pad entered (return_of resumes pad) is refl outer h
      go (Err x) is outer h = inl (inl (is ∙ ap failed (same_error x e h)))

  -- a pass that is refused refuses all
  pub some_refused : (P : ℕ → Context → Type 0) (e : DeliverError) → ((places : ℕ) (d : Context) → P places d → passes places d ≡ Err e) → (places : ℕ) (c : Context) → SomePass languages space exception kept resumes limit P places c → passes places c ≡ Err e
  some_refused P e each zero c holds = each zero c holds
  some_refused P e each (suc n) c (inl holds) = each (suc n) c holds
  some_refused P e each (suc n) c (inr r) =
      let pad = r.0 in let entered : Context = r.1 in let ret = r.2 in
      let d : Context = record entered { ra = ret } in
      let rest : passes n d ≡ Err e = some_refused P e each n d r.5 in
      ap (λ x. after_pass x (later n)) r.3 ∙ ap (λ (o : Option ℕ). cleanup_and_rest (cleanup_at pad entered) (resume_at pad entered o) (passes n)) r.4 ∙ ap (with_cleanup (cleanup_at pad entered)) rest

  pub full_refuses : (places : ℕ) (c : Context) → TrailIsFull languages space exception kept resumes limit places c → passes places c ≡ Err PassLimit
  full_refuses zero c full = ap (λ x. after_pass x (λ pad entered. Err PassLimit)) full.1.2
  full_refuses (suc n) c full = let none = full.0 in absurd (omega arith)

  pub no_return_refuses : (pad places : ℕ) (c : Context) → HasNoReturn languages space exception kept resumes limit pad places c → passes places c ≡ Err (NoResume pad)
  no_return_refuses pad zero c none = let some = none.0 in absurd (omega arith)
  no_return_refuses pad (suc n) c none =
      let entered : Context = none.1.0 in
      ap (λ x. after_pass x (later n)) none.1.1 ∙ ap (λ (o : Option ℕ). cleanup_and_rest (cleanup_at pad entered) (resume_at pad entered o) (passes n)) none.1.2

  -- one pass is of a kind where one of another is
  pub some_pass : (P Q : ℕ → Context → Type 0) → ((places : ℕ) (d : Context) → P places d → Q places d) → (places : ℕ) (c : Context) → SomePass languages space exception kept resumes limit P places c → SomePass languages space exception kept resumes limit Q places c
  some_pass P Q each zero c holds = each zero c holds
  some_pass P Q each (suc n) c (inl holds) = inl (each (suc n) c holds)
  some_pass P Q each (suc n) c (inr r) = inr (r.0, r.1, r.2, r.3, r.4, some_pass P Q each n (record r.1 { ra = r.2 }) r.5)

-- ---- a pass's own errors are faults and its limit

module _ (space : SpaceValue) where
  pub visit_faults : (p : Pass) (c : Context) (interrupted : Bool) → OnStepFault (visit_of p space c interrupted)
  unfolding visit_for
  visit_faults p c interrupted = by_frame (frame_of space c interrupted) refl
    where
      of_step : (e : DeliverError) → step_of space c interrupted ≡ Err e → IsStepFault e
      of_step e fails = subst OnStepFault fails (step_faults space c interrupted)

      by_caller : (f : FrameAt) → frame_of space c interrupted ≡ Ok (Some f) → (r : Result Stepped DeliverError) → caller_by space.image c f ≡ r → OnStepFault (goes r)
      by_caller f framed (Ok next) is = tt
      by_caller f framed (Err e) is = of_step e (step_is space c interrupted ∙ ap (stepped_by space.image c) framed ∙ ap some_next is)

      by_test : (f : FrameAt) → frame_of space c interrupted ≡ Ok (Some f) → (asked : FrameAction) (b : Bool) → OnStepFault (visit_at space.image c f (cond b (Some asked) None))
      by_test f framed asked true = tt
      by_test f framed asked false = by_caller f framed (caller_by space.image c f) refl

      by_action : (f : FrameAt) → frame_of space c interrupted ≡ Ok (Some f) → (r : Result FrameAction DeliverError) → OnStepFault r → OnStepFault (visit_asked p space.image c f r)
      by_action f framed (Ok asked) on = by_test f framed asked (stops p.phase asked)
      by_action f framed (Err e) on = on

      refused : (e : calls.StepFault) → IsStepFault (refusal_of e)
      refused (calls.Table f) = tt
      refused (calls.Unmapped a) = tt

      framed_refused : (e : FrameFault) → IsStepFault (frame_refusal e)
      framed_refused (pe.Memory rva) = tt
      framed_refused (pe.Info rva) = tt
      framed_refused pe.EpilogBytes = tt
      framed_refused (pe.Stack a) = tt
      framed_refused pe.ChainLimit = tt

      described : (found : FoundFde) (r : Result (Option ℕ) calls.StepFault) → OnStepFault (table_if_named space.image found r)
      described found (Ok None) = tt
      described found (Ok (Some routine)) = tt
      described found (Err e) = refused e

      compacted : (r : Result (Option LanguagePlace) Error) → OnStepFault (compact_table r)
      compacted (Ok place) = tt
      compacted (Err e) = tt

      recorded : (r : Result (Option LanguagePlace) FrameFault) → OnStepFault (recorded_table r)
      recorded (Ok place) = tt
      recorded (Err e) = framed_refused e

      named : (f : FrameAt) → OnStepFault (named_table space.image f)
      named (Described f) = described f.found (personality_address space.image f.found.fde)
      named (Compact m listed) = compacted (macho_place space.image m listed)
      named (Recorded m rva function) = recorded (pe_place space.image m function)

      by_named : (f : FrameAt) (r : Result (Option (Result LanguagePlace calls.StepFault)) DeliverError) → OnStepFault r → OnStepFault (result_map (asks_if_named p.languages space.image (address_of_call c.ra interrupted) (routine_of space.image f)) r)
      by_named f (Ok place) on = tt
      by_named f (Err e) on = on

      asks : (f : FrameAt) → OnStepFault (frame_asks p.languages space.image c interrupted f)
      asks f = by_named f (named_table space.image f) (named f)

      by_frame : (r : Result (Option FrameAt) DeliverError) → frame_of space c interrupted ≡ r → OnStepFault (visit_by p space.image c interrupted r)
      by_frame (Ok None) is = tt
      by_frame (Ok (Some f)) is = by_action f is (frame_asks p.languages space.image c interrupted f) (asks f)
      by_frame (Err e) is = of_step e (step_is space c interrupted ∙ ap (stepped_by space.image c) is)

  abbrev IsOfPass : DeliverError → Type 0
  IsOfPass e = (e ≡ FrameLimit) ⊎ IsStepFault e

  abbrev OnPass : {A : Type 0} → Result A DeliverError → Type 0
  OnPass (Ok x) = Unit {0}
  OnPass (Err e) = IsOfPass e

  context_on : (c : Context) (r : Result Line DeliverError) → OnPass r → OnPass (with_context c r)
  context_on c (Ok line) on = tt
  context_on c (Err e) on = on

  pass_faults_only : (p : Pass) (room : ℕ) (c : Context) (interrupted : Bool) → OnPass (pass_of p space room c interrupted)
  pass_faults_only p zero c interrupted = inl refl
  pass_faults_only p (suc room) c interrupted = go (visit_of p space c interrupted) (visit_faults p c interrupted) (λ d mark. pass_faults_only p room d mark)
    where
      go : (r : Result FrameVisit DeliverError) → OnStepFault r → ((d : Context) (mark : Bool) → OnPass (pass_of p space room d mark)) → OnPass (line_visit c interrupted r (pass_of p space room))
      go (Ok Ends) on outer = tt
      go (Ok (Stops asked past)) on outer = tt
      go (Ok (Goes next)) on outer = context_on c (pass_of p space room next.context next.signal) (outer next.context next.signal)
      go (Err e) on outer = inr on

  pass_error : (p : Pass) (room : ℕ) (c : Context) (e : DeliverError) → pass_of p space room c false ≡ Err e → IsOfPass e
  pass_error p room c e is = subst (λ (r : Result Line DeliverError). OnPass r) is (pass_faults_only p room c false)

  pub never_pass : (p : Pass) (room : ℕ) (c : Context) (e : DeliverError) → (IsOfPass e → ⊥) → pass_of p space room c false ≡ Err e → ⊥
  never_pass p room c e never is = never (pass_error p room c e is)

  pub never_cleanup : (languages : Languages) (exception kept limit : ℕ) (c : Context) (e : DeliverError) → (IsOfPass e → ⊥) → cleanup_of languages space exception kept limit c ≡ Err e → ⊥
  never_cleanup languages exception kept limit c e never is = go (pass_of (cleaning languages) space limit c false) refl is
    where
      go : (r : Result Line DeliverError) → pass_of (cleaning languages) space limit c false ≡ r → end_of exception kept r ≡ Err e → ⊥
      go (Ok line) at h = absurd cc
      go (Err x) at h = let same : x ≡ e = cc in never_pass (cleaning languages) limit c e never (at ∙ ap failed same)
        where
          failed : DeliverError → Result Line DeliverError
          failed y = Err y

  pub not_full : IsOfPass PassLimit → ⊥
  not_full (inl e) = absurd cc
  not_full (inr f) = f

  pub not_resumed : (pad : ℕ) → IsOfPass (NoResume pad) → ⊥
  not_resumed pad (inl e) = absurd cc
  not_resumed pad (inr f) = f

-- ---- the delivery

module _ (languages : Languages) (space : SpaceValue) (c : Context) (exception : ℕ) (resumes : List (ℕ × ℕ)) (limit : ℕ) where
  abbrev pub toward : ℕ → Result CleanupsRun DeliverError
  toward kept = passes_of languages space exception kept resumes limit limit c

  after_error : (visited : List Context) (r : Result CleanupsRun DeliverError) (e : DeliverError) → delivery_after visited r ≡ Err e → r ≡ Err e
  after_error visited (Ok x) e is = absurd cc
  after_error visited (Err x) e is = cc

  -- what refuses a delivery refuses the search or the passes
  pub refused_either : (e : DeliverError) → delivery_through languages space c exception resumes limit ≡ Err e → (pass_of (searching languages) space limit c false ≡ Err e) ⊎ ((kept : ℕ) × TakenAt languages space limit c kept × (toward kept ≡ Err e))
  unfolding delivery_through
  refused_either e fails = go (pass_of (searching languages) space limit c false) refl fails
    where
      at_pad : (line : Line) → pass_of (searching languages) space limit c false ≡ Ok line → (stop : Stop) → line.stop ≡ Some stop → (b : Bool) → is_taken stop.action ≡ b → delivery_at line.contexts b (toward (mark_at stop.context stop.interrupted)) ≡ Err e →
          (kept : ℕ) × TakenAt languages space limit c kept × (toward kept ≡ Err e)
      at_pad line is stop stops false named h = absurd cc
      at_pad line is stop stops true named h = (
        mark_at stop.context stop.interrupted,
        record { line = line; searched = is; stop = stop; stops = stops; takes = named; mark = refl },
        after_error line.contexts (toward (mark_at stop.context stop.interrupted)) e h,
      )

      at_stop : (line : Line) → pass_of (searching languages) space limit c false ≡ Ok line → (o : Option Stop) → line.stop ≡ o → delivery_to line.contexts o toward ≡ Err e → (kept : ℕ) × TakenAt languages space limit c kept × (toward kept ≡ Err e)
      at_stop line is None stops h = absurd cc
      at_stop line is (Some stop) stops h = at_pad line is stop stops (is_taken stop.action) refl h

      go : (r : Result Line DeliverError) → pass_of (searching languages) space limit c false ≡ r → delivery_by r toward ≡ Err e → (pass_of (searching languages) space limit c false ≡ Err e) ⊎ ((kept : ℕ) × TakenAt languages space limit c kept × (toward kept ≡ Err e))
      go (Ok line) is h = inr (at_stop line is line.stop refl h)
      go (Err x) is h = let same : x ≡ e = cc in inl (is ∙ ap failed same)
        where
          failed : DeliverError → Result Line DeliverError
          failed y = Err y

  refused_by : (e : DeliverError) → (pass_of (searching languages) space limit c false ≡ Err e → ⊥) → delivery_through languages space c exception resumes limit ≡ Err e → (kept : ℕ) × TakenAt languages space limit c kept × (toward kept ≡ Err e)
  refused_by e never fails = go (refused_either e fails)
    where
      go : (pass_of (searching languages) space limit c false ≡ Err e) ⊎ ((kept : ℕ) × TakenAt languages space limit c kept × (toward kept ≡ Err e)) → (kept : ℕ) × TakenAt languages space limit c kept × (toward kept ≡ Err e)
      go (inl is) = absurd (never is)
      go (inr r) = r

  pub search_refuses : (e : DeliverError) → pass_of (searching languages) space limit c false ≡ Err e → delivery_through languages space c exception resumes limit ≡ Err e
  unfolding delivery_through
  search_refuses e is = ap (λ r. delivery_by r toward) is

  pub refuses : (e : DeliverError) (kept : ℕ) → TakenAt languages space limit c kept → toward kept ≡ Err e → delivery_through languages space c exception resumes limit ≡ Err e
  unfolding delivery_through
  refuses e kept taken fails =
      let own : toward (mark_at taken.stop.context taken.stop.interrupted) ≡ Err e = ap toward (sym taken.mark) ∙ fails in
      ap (λ r. delivery_by r toward) taken.searched ∙ ap (λ o. delivery_to taken.line.contexts o toward) taken.stops
      ∙ ap (λ o. delivery_at taken.line.contexts o (toward (mark_at taken.stop.context taken.stop.interrupted))) taken.takes ∙ ap (delivery_after taken.line.contexts) own

  abbrev full_at : ℕ → ℕ → Context → Type 0
  full_at kept = TrailIsFull languages space exception kept resumes limit

  abbrev without_return : ℕ → ℕ → ℕ → Context → Type 0
  without_return pad kept = HasNoReturn languages space exception kept resumes limit pad

  pub limit_met : delivery_through languages space c exception resumes limit ≡ Err PassLimit → InPasses languages space c exception resumes limit full_at
  limit_met fails =
      let r = refused_by PassLimit (never_pass space (searching languages) limit c PassLimit (not_full space)) fails in
      (r.0, r.1, some_pass languages space exception r.0 resumes limit (RefusesNow languages space exception r.0 resumes limit PassLimit) (full_at r.0) (narrow r.0) limit c (refused_in languages space exception r.0 resumes limit limit c PassLimit r.2))
    where
      narrow : (kept places : ℕ) (d : Context) → RefusesNow languages space exception kept resumes limit PassLimit places d → full_at kept places d
      narrow kept places d (inl is) = absurd (never_cleanup space languages exception kept limit d PassLimit (not_full space) is)
      narrow kept places d (inr (inl full)) = full.1
      narrow kept places d (inr (inr none)) = let bad = none.1 in absurd cc

  pub met_limit : InPasses languages space c exception resumes limit full_at → delivery_through languages space c exception resumes limit ≡ Err PassLimit
  met_limit r = refuses PassLimit r.0 r.1 (some_refused languages space exception r.0 resumes limit (full_at r.0) PassLimit (full_refuses languages space exception r.0 resumes limit) limit c r.2)

  pub unresumed : (pad : ℕ) → delivery_through languages space c exception resumes limit ≡ Err (NoResume pad) → InPasses languages space c exception resumes limit (without_return pad)
  unresumed pad fails =
      let r = refused_by (NoResume pad) (never_pass space (searching languages) limit c (NoResume pad) (not_resumed space pad)) fails in
      (r.0, r.1, some_pass languages space exception r.0 resumes limit (RefusesNow languages space exception r.0 resumes limit (NoResume pad)) (without_return pad r.0) (narrow r.0) limit c (refused_in languages space exception r.0 resumes limit limit c (NoResume pad) r.2))
    where
      narrow : (kept places : ℕ) (d : Context) → RefusesNow languages space exception kept resumes limit (NoResume pad) places d → without_return pad kept places d
      narrow kept places d (inl is) = absurd (never_cleanup space languages exception kept limit d (NoResume pad) (not_resumed space pad) is)
      narrow kept places d (inr (inl full)) = let bad = full.0 in absurd cc
      narrow kept places d (inr (inr none)) = let e = none.1 in let named : pad ≡ none.0 = cc in subst (λ (q : ℕ). without_return q kept places d) (sym named) none.2

  pub no_return : (pad : ℕ) → InPasses languages space c exception resumes limit (without_return pad) → delivery_through languages space c exception resumes limit ≡ Err (NoResume pad)
  no_return pad r = refuses (NoResume pad) r.0 r.1 (some_refused languages space exception r.0 resumes limit (without_return pad r.0) (NoResume pad) (no_return_refuses languages space exception r.0 resumes limit pad) limit c r.2)
