-- How a delivery ends and why it is refused, in the words of what its passes meet.
use Rattle.std.proofs.Common.{inl, inr, ◌≡◌, ◌≢◌, ℕ, zero, suc, Bool, true, false, cond, eqb, List, [], ◌∷◌, Option, Some, None, Result, Ok, Err, refl, ap, subst, ◌∙◌, arith}
use Rattle.std.proofs.lemmas.Bool.Decides.{nat_tests}
use Rattle.std.specs.Prelude.{◌⊎◌}
use Rattle.unwind_arch.specs.declared.x86_64.Context.{Context}
use Rattle.stack_walks.specs.declared.room.Trail.{Trail}
use Rattle.stack_deliver.specs.declared.outcome.Ending.{Ending}
use Rattle.stack_deliver.specs.declared.outcome.Outcome.{Outcome}
use Rattle.stack_deliver.specs.declared.outcome.Outcome.TheVariants.{Installed, EndOfStack, FatalPhase1, FatalPhase2}
use Rattle.stack_steps.specs.declared.error.DeliverError.{DeliverError}
use Rattle.stack_steps.specs.declared.error.DeliverError.TheVariants.{FrameLimit, PassLimit}
use Rattle.stack_steps.specs.declared.asking.FrameAction.{FrameAction}
use Rattle.stack_steps.specs.declared.asking.FrameAction.TheVariants.{Nothing, Cleanup, Handler, Terminate, TerminateAfterCleanups}
use Rattle.stack_steps.specs.Languages.{Languages, is_taken, pad_of, selector_of}
use Rattle.stack_walks.specs.declared.unwind.Phase.{Phase}
use Rattle.stack_walks.specs.declared.unwind.Phase.TheVariants as phase
use Rattle.stack_steps.specs.Modules.{SpaceValue}
use Rattle.stack_deliver.specs.Resumes.{return_of}
use Rattle.stack_walks.specs.FrameVisits.{stops, Line, Pass, Stop, Ends, Stops, cleaning, visit_of, pass_of, mark_at, enters, searching}
use Rattle.stack_deliver.specs.Passes.{fatal, ending_at, PassEnd, Finishes, Cleanup, end_at, end_by, end_of, cleanup_of, cleanup_at, resume_at, CleanupsRun, with_cleanup, cleanup_and_rest, after_pass, passes_of}
use Rattle.stack_walks.proofs.VisitLines.{stop_in}
use Rattle.stack_deliver.specs.Causes.{Asks, EndsProgram, EndsProgramLater, StackEnds, CantRead, Meets, GoesOnFrom, TakesAt, Fails}
use Rattle.stack_deliver.specs.Causes.{SomePass}
use Rattle.stack_deliver.proofs.MeetAnswers.{Last, visit_meets, visit_ends, visit_fails, ends_asks, asks_ends, ends_later_asks, asks_ends_later, pass_last, last_pass, meets_too, meets_either, StopsFor, meets_stop}

is_same : (m n : ℕ) → eqb m n ≡ true → m ≡ n
is_same m n same = grind (arith, nat_tests)

same_is : (m n : ℕ) → m ≡ n → eqb m n ≡ true
same_is m n same = grind (arith, nat_tests)

-- ---- lines and where they stop

pub line_stops : (r : Result Line DeliverError) (o : Option Stop) → stop_in r ≡ Ok o → (line : Line) × (r ≡ Ok line) × (line.stop ≡ o)
line_stops (Ok line) o is = (line, refl, cc)
line_stops (Err e) o is = absurd cc

pub line_fails : (r : Result Line DeliverError) (e : DeliverError) → stop_in r ≡ Err e → r ≡ Err e
line_fails (Ok line) e is = absurd cc
line_fails (Err x) e is = let same : x ≡ e = cc in ap failed same
  where
    failed : DeliverError → Result Line DeliverError
    failed y = Err y

-- ---- where a pass stops

module _ (p : Pass) (space : SpaceValue) (room : ℕ) (c : Context) where
  abbrev pub stop_of : Result (Option Stop) DeliverError
  stop_of = stop_in (pass_of p space room c false)

  -- an answer that isn't the limit's is that of the last turn
  last_of : (r : Result (Option Stop) DeliverError) → r ≢ Err FrameLimit → stop_of ≡ r → Meets p space (Last p space r) room c false
  last_of r other is = go (pass_last p space room c false r is)
    where
      go : ((r ≡ Err FrameLimit) × GoesOnFrom p space room c false) ⊎ Meets p space (Last p space r) room c false → Meets p space (Last p space r) room c false
      go (inl more) = absurd (other more.0)
      go (inr meets) = meets

  -- the end of the stack
  pub ended_meets : stop_of ≡ Ok None → Meets p space (StackEnds space) room c false
  ended_meets is = meets_too p space (Last p space (Ok None)) (StackEnds space) (λ d mark last. visit_meets p space d mark (Ok Ends) last) room c false (last_of (Ok None) (λ e. cc) is)

  pub meets_ended : Meets p space (StackEnds space) room c false → stop_of ≡ Ok None
  meets_ended meets = last_pass p space room c false (Ok None) (meets_too p space (StackEnds space) (Last p space (Ok None)) (λ d mark ends. visit_ends p space d mark ends) room c false meets)

  -- what can't be read
  pub failed_meets : (e : DeliverError) → e ≢ FrameLimit → stop_of ≡ Err e → Meets p space (CantRead p e space) room c false
  failed_meets e other is = meets_too p space (Last p space (Err e)) (CantRead p e space) (λ d mark last. visit_meets p space d mark (Err e) last) room c false (last_of (Err e) (λ same. other (inner same)) is)
    where
      inner : ◌≡◌ {A = Result (Option Stop) DeliverError} (Err e) (Err FrameLimit) → e ≡ FrameLimit
      inner same = cc

  pub meets_failed : (e : DeliverError) → Meets p space (CantRead p e space) room c false → stop_of ≡ Err e
  meets_failed e meets = last_pass p space room c false (Err e) (meets_too p space (CantRead p e space) (Last p space (Err e)) (λ d mark fails. visit_fails p space d mark e fails) room c false meets)

  -- the limit
  pub limit_goes : stop_of ≡ Err FrameLimit → (Meets p space (CantRead p FrameLimit space) room c false → ⊥) → GoesOnFrom p space room c false
  limit_goes is never = go (pass_last p space room c false (Err FrameLimit) is)
    where
      go : ((◌≡◌ {A = Result (Option Stop) DeliverError} (Err FrameLimit) (Err FrameLimit)) × GoesOnFrom p space room c false) ⊎ Meets p space (Last p space (Err FrameLimit)) room c false → GoesOnFrom p space room c false
      go (inl more) = more.1
      go (inr meets) = absurd (never (meets_too p space (Last p space (Err FrameLimit)) (CantRead p FrameLimit space) (λ d mark last. visit_meets p space d mark (Err FrameLimit) last) room c false meets))

  -- where it stops for an action that is so
  pub stopped_meets : (stop : Stop) (P : Context → Bool → Type 0) → stop_of ≡ Ok (Some stop) → (Asks p.languages space stop.context stop.interrupted stop.action → stops p.phase stop.action ≡ true → P stop.context stop.interrupted) → Meets p space P room c false
  stopped_meets stop P is so = meets_too p space (Last p space (Ok (Some stop))) P each room c false (last_of (Ok (Some stop)) (λ e. cc) is)
    where
      each : (d : Context) (mark : Bool) → Last p space (Ok (Some stop)) d mark → P d mark
      each d mark last =
          let at : visit_of p space stop.context stop.interrupted ≡ Ok (Stops stop.action stop.past) = rw (last.0, last.1) last.2 in
          let asks = visit_meets p space stop.context stop.interrupted (Ok (Stops stop.action stop.past)) at in
          let here : P stop.context stop.interrupted = so asks.0 asks.1 in
          rw (last.0, last.1) at here

  pub meets_stopped : (Q : Context → Bool → FrameAction → Type 0) → Meets p space (StopsFor p space Q) room c false → (stop : Stop) × (stop_of ≡ Ok (Some stop)) × Q stop.context stop.interrupted stop.action
  meets_stopped Q meets =
      let r = meets_stop p space Q room c false meets in
      (r.0, last_pass p space room c false (Ok (Some r.0)) r.1, r.2)

-- ---- what is asked where a pass stops

-- a search that stops at a frame that doesn't take the exception stops where the program ends at once
untaken_ends : (action : FrameAction) → stops phase.Search action ≡ true → is_taken action ≡ false → action ≡ Terminate
untaken_ends Nothing stopped none = absurd cc
untaken_ends (Cleanup pad) stopped none = absurd cc
untaken_ends (Handler pad number) stopped none = absurd cc
untaken_ends Terminate stopped none = refl
untaken_ends TerminateAfterCleanups stopped none = absurd cc

-- a cleanup pass that stops without a landing pad stops at the end of the program
terminates : (action : FrameAction) → stops phase.Cleanup action ≡ true → pad_of action ≡ None → (action ≡ Terminate) ⊎ (action ≡ TerminateAfterCleanups)
terminates Nothing stopped none = absurd cc
terminates (Cleanup pad) stopped none = absurd cc
terminates (Handler pad number) stopped none = absurd cc
terminates Terminate stopped none = inl refl
terminates TerminateAfterCleanups stopped none = inr refl

-- it stops for each landing pad
pad_stops : (action : FrameAction) (pad : ℕ) → pad_of action ≡ Some pad → stops phase.Cleanup action ≡ true
pad_stops Nothing pad named = absurd cc
pad_stops (Cleanup q) pad named = refl
pad_stops (Handler q number) pad named = refl
pad_stops Terminate pad named = absurd cc
pad_stops TerminateAfterCleanups pad named = absurd cc

-- the program ends at a context, at once or after the cleanups inside
abbrev pub EndsEither : Languages → SpaceValue → Context → Bool → Type 0
EndsEither languages space c interrupted = EndsProgram languages space c interrupted ⊎ EndsProgramLater languages space c interrupted

module _ (languages : Languages) (space : SpaceValue) (room : ℕ) (c : Context) where
  -- the end of the program in the search
  pub fatal_meets : (stop : Stop) → stop_of (searching languages) space room c ≡ Ok (Some stop) → is_taken stop.action ≡ false → Meets (searching languages) space (EndsProgram languages space) room c false
  fatal_meets stop is none = stopped_meets (searching languages) space room c stop (EndsProgram languages space) is each
    where
      each : Asks languages space stop.context stop.interrupted stop.action → stops phase.Search stop.action ≡ true → EndsProgram languages space stop.context stop.interrupted
      each asks stopped = asks_ends languages space stop.context stop.interrupted (subst (λ (x : FrameAction). Asks languages space stop.context stop.interrupted x) (untaken_ends stop.action stopped none) asks)

  pub meets_fatal : Meets (searching languages) space (EndsProgram languages space) room c false → (stop : Stop) × (stop_of (searching languages) space room c ≡ Ok (Some stop)) × (is_taken stop.action ≡ false)
  meets_fatal meets = meets_stopped (searching languages) space room c (λ d mark action. is_taken action ≡ false) (meets_too (searching languages) space (EndsProgram languages space) (StopsFor (searching languages) space (λ d mark action. is_taken action ≡ false)) (λ d mark ends. (Terminate, ends_asks languages space d mark ends, refl, refl)) room c false meets)

  -- and in a cleanup pass
  pub fatal_cleanup : (stop : Stop) → stop_of (cleaning languages) space room c ≡ Ok (Some stop) → pad_of stop.action ≡ None → Meets (cleaning languages) space (EndsEither languages space) room c false
  fatal_cleanup stop is none = stopped_meets (cleaning languages) space room c stop (EndsEither languages space) is each
    where
      asks_same : (x : FrameAction) → stop.action ≡ x → Asks languages space stop.context stop.interrupted stop.action → Asks languages space stop.context stop.interrupted x
      asks_same x same asks = subst (λ (y : FrameAction). Asks languages space stop.context stop.interrupted y) same asks

      go : Asks languages space stop.context stop.interrupted stop.action → (stop.action ≡ Terminate) ⊎ (stop.action ≡ TerminateAfterCleanups) → EndsEither languages space stop.context stop.interrupted
      go asks (inl same) = inl (asks_ends languages space stop.context stop.interrupted (asks_same Terminate same asks))
      go asks (inr same) = inr (asks_ends_later languages space stop.context stop.interrupted (asks_same TerminateAfterCleanups same asks))

      each : Asks languages space stop.context stop.interrupted stop.action → stops phase.Cleanup stop.action ≡ true → EndsEither languages space stop.context stop.interrupted
      each asks stopped = go asks (terminates stop.action stopped none)

  pub cleanup_fatal : Meets (cleaning languages) space (EndsEither languages space) room c false → (stop : Stop) × (stop_of (cleaning languages) space room c ≡ Ok (Some stop)) × (pad_of stop.action ≡ None)
  cleanup_fatal meets = meets_stopped (cleaning languages) space room c (λ d mark action. pad_of action ≡ None) (meets_too (cleaning languages) space (EndsEither languages space) (StopsFor (cleaning languages) space (λ d mark action. pad_of action ≡ None)) each room c false meets)
    where
      each : (d : Context) (mark : Bool) → EndsEither languages space d mark → StopsFor (cleaning languages) space (λ d mark action. pad_of action ≡ None) d mark
      each d mark (inl ends) = (Terminate, ends_asks languages space d mark ends, refl, refl)
      each d mark (inr ends) = (TerminateAfterCleanups, ends_later_asks languages space d mark ends, refl, refl)

-- ---- a cleanup pass

module _ (languages : Languages) (space : SpaceValue) (exception kept limit : ℕ) (c : Context) where
  abbrev cleans : Result PassEnd DeliverError
  cleans = cleanup_of languages space exception kept limit c

  abbrev cleanup_stop : Result (Option Stop) DeliverError
  cleanup_stop = stop_of (cleaning languages) space limit c

  finishes_by : (x : PassEnd) → cleans ≡ Ok x → (o : Option Stop) × (cleanup_stop ≡ Ok o) × (end_by exception kept o ≡ x)
  finishes_by x is = go (pass_of (cleaning languages) space limit c false) refl is
    where
      go : (r : Result Line DeliverError) → pass_of (cleaning languages) space limit c false ≡ r → end_of exception kept r ≡ Ok x → (o : Option Stop) × (cleanup_stop ≡ Ok o) × (end_by exception kept o ≡ x)
      go (Ok line) at h = (line.stop, ap stop_in at, cc)
      go (Err e) at h = absurd cc

  by_finish : (o : Option Stop) → cleanup_stop ≡ Ok o → cleans ≡ Ok (end_by exception kept o)
  by_finish o is =
      let r = line_stops (pass_of (cleaning languages) space limit c false) o is in
      ap (end_of exception kept) r.1 ∙ ap (λ (x : Option Stop). ended x) r.2
    where
      ended : Option Stop → Result PassEnd DeliverError
      ended x = Ok (end_by exception kept x)

  -- what a pass that finishes has met, by the outcome
  abbrev pub Finished : Outcome → Type 0
  Finished Installed = Meets (cleaning languages) space (TakesAt languages kept space) limit c false
  Finished FatalPhase2 = Meets (cleaning languages) space (Fails languages space) limit c false
  Finished EndOfStack = ⊥
  Finished FatalPhase1 = ⊥

  pub finished : (ending : Ending) → cleans ≡ Ok (Finishes ending) → Finished ending.outcome
  finished ending is =
      let r = finishes_by (Finishes ending) is in
      by_stop r.0 r.1 r.2
    where
      fails : Meets (cleaning languages) space (Fails languages space) limit c false → fatal ≡ ending → Finished ending.outcome
      fails meets same = subst (λ (x : Ending). Finished x.outcome) same meets

      by_kept : (stop : Stop) (pad : ℕ) → cleanup_stop ≡ Ok (Some stop) → pad_of stop.action ≡ Some pad → (b : Bool) → eqb (mark_at stop.context stop.interrupted) kept ≡ b →
          cond b (Finishes (ending_at (enters stop.past exception (selector_of stop.action) pad))) (Cleanup pad (enters stop.past exception (selector_of stop.action) pad)) ≡ Finishes ending → Finished ending.outcome
      by_kept stop pad at named true same h =
          let landing : ending_at (enters stop.past exception (selector_of stop.action) pad) ≡ ending = cc in
          let mark : mark_at stop.context stop.interrupted ≡ kept = is_same (mark_at stop.context stop.interrupted) kept same in
          subst (λ (x : Ending). Finished x.outcome) landing (stopped_meets (cleaning languages) space limit c stop (TakesAt languages kept space) at (λ asks stopped. (record { action = stop.action; asks = asks; pad = pad; named = named }, mark)))
      by_kept stop pad at named false other h = absurd cc

      by_pad : (stop : Stop) (o : Option ℕ) → cleanup_stop ≡ Ok (Some stop) → pad_of stop.action ≡ o → end_at exception kept stop o ≡ Finishes ending → Finished ending.outcome
      by_pad stop None at none h = fails (meets_too (cleaning languages) space (EndsEither languages space) (Fails languages space) (λ d mark ends. inr ends) limit c false (fatal_cleanup languages space limit c stop at none)) cc
      by_pad stop (Some pad) at named h = by_kept stop pad at named (eqb (mark_at stop.context stop.interrupted) kept) refl h

      by_stop : (o : Option Stop) → cleanup_stop ≡ Ok o → end_by exception kept o ≡ Finishes ending → Finished ending.outcome
      by_stop None at h = fails (meets_too (cleaning languages) space (StackEnds space) (Fails languages space) (λ d mark ends. inl ends) limit c false (ended_meets (cleaning languages) space limit c at)) cc
      by_stop (Some stop) at h = by_pad stop (pad_of stop.action) at refl h

  pub finishes : (o : Outcome) → Finished o → (ending : Ending) × (cleans ≡ Ok (Finishes ending)) × (ending.outcome ≡ o)
  finishes Installed meets =
      let r = meets_stopped (cleaning languages) space limit c Taken (meets_too (cleaning languages) space (TakesAt languages kept space) (StopsFor (cleaning languages) space Taken) each limit c false meets) in
      let stop : Stop = r.0 in let pad : ℕ = r.2.0 in
      let same : eqb (mark_at stop.context stop.interrupted) kept ≡ true = same_is (mark_at stop.context stop.interrupted) kept r.2.2 in
      (ending_at (enters stop.past exception (selector_of stop.action) pad), by_finish (Some stop) r.1 ∙ ap finish (ap (end_at exception kept stop) r.2.1 ∙ taken stop pad (eqb (mark_at stop.context stop.interrupted) kept) same), refl)
    where
      Taken : Context → Bool → FrameAction → Type 0
      Taken d mark action = (pad : ℕ) × (pad_of action ≡ Some pad) × (mark_at d mark ≡ kept)

      each : (d : Context) (mark : Bool) → TakesAt languages kept space d mark → StopsFor (cleaning languages) space Taken d mark
      each d mark takes = (takes.0.action, takes.0.asks, pad_stops takes.0.action takes.0.pad takes.0.named, (takes.0.pad, takes.0.named, takes.1))

      finish : PassEnd → Result PassEnd DeliverError
      finish x = Ok x

      taken : (stop : Stop) (pad : ℕ) (b : Bool) → b ≡ true → cond b (Finishes (ending_at (enters stop.past exception (selector_of stop.action) pad))) (Cleanup pad (enters stop.past exception (selector_of stop.action) pad)) ≡ Finishes (ending_at (enters stop.past exception (selector_of stop.action) pad))
      taken stop pad true is = refl
      taken stop pad false is = absurd cc
  finishes FatalPhase2 meets = go (meets_either (cleaning languages) space (StackEnds space) (EndsEither languages space) limit c false meets)
    where
      finish : PassEnd → Result PassEnd DeliverError
      finish x = Ok x

      go : Meets (cleaning languages) space (StackEnds space) limit c false ⊎ Meets (cleaning languages) space (EndsEither languages space) limit c false → (ending : Ending) × (cleans ≡ Ok (Finishes ending)) × (ending.outcome ≡ FatalPhase2)
      go (inl ends) = (fatal, by_finish None (meets_ended (cleaning languages) space limit c ends), refl)
      go (inr ends) =
          let r = cleanup_fatal languages space limit c ends in
          (fatal, by_finish (Some r.0) r.1 ∙ ap finish (ap (end_at exception kept r.0) r.2), refl)
  finishes EndOfStack meets = absurd meets
  finishes FatalPhase1 meets = absurd meets

  -- a pass that is refused
  pub cleanup_refused : (e : DeliverError) → cleans ≡ Err e → cleanup_stop ≡ Err e
  cleanup_refused e is = go (pass_of (cleaning languages) space limit c false) refl is
    where
      go : (r : Result Line DeliverError) → pass_of (cleaning languages) space limit c false ≡ r → end_of exception kept r ≡ Err e → cleanup_stop ≡ Err e
      go (Ok line) at h = absurd cc
      go (Err x) at h = let same : x ≡ e = cc in ap stop_in at ∙ ap failed same
        where
          failed : DeliverError → Result (Option Stop) DeliverError
          failed y = Err y

  pub refuses_cleanup : (e : DeliverError) → cleanup_stop ≡ Err e → cleans ≡ Err e
  refuses_cleanup e is = ap (end_of exception kept) (line_fails (pass_of (cleaning languages) space limit c false) e is)

-- ---- the passes

module _ (languages : Languages) (space : SpaceValue) (exception kept : ℕ) (resumes : List (ℕ × ℕ)) (limit : ℕ) where
  abbrev passes : ℕ → Context → Result CleanupsRun DeliverError
  passes = passes_of languages space exception kept resumes limit

  abbrev later : ℕ → ℕ → Context → Result CleanupsRun DeliverError
  later n pad entered = cleanup_and_rest (cleanup_at pad entered) (resume_at pad entered (return_of resumes pad)) (passes n)

  -- the pass from a context finishes so
  abbrev pub FinishesSo : Ending → ℕ → Context → Type 0
  FinishesSo ending n d = cleanup_of languages space exception kept limit d ≡ Ok (Finishes ending)

  abbrev finish : Ending → Result PassEnd DeliverError
  finish ending = Ok (Finishes ending)

  pub finished_in : (places : ℕ) (c : Context) (passed : CleanupsRun) → passes places c ≡ Ok passed → SomePass languages space exception kept resumes limit (FinishesSo passed.ending) places c
  finished_in zero c passed is = go (cleanup_of languages space exception kept limit c) refl is
    where
      go : (r : Result PassEnd DeliverError) → cleanup_of languages space exception kept limit c ≡ r → after_pass r (λ pad entered. Err PassLimit) ≡ Ok passed → FinishesSo passed.ending zero c
      go (Ok (Finishes ending)) at h = let same : ending ≡ passed.ending = cc in at ∙ ap finish same
      go (Ok (Cleanup pad entered)) at h = absurd cc
      go (Err e) at h = absurd cc
  finished_in (suc n) c passed is = go (cleanup_of languages space exception kept limit c) refl (λ d rest h. finished_in n d rest h) is
    where
      Outer : Type 0
      Outer = (d : Context) (rest : CleanupsRun) → passes n d ≡ Ok rest → SomePass languages space exception kept resumes limit (FinishesSo rest.ending) n d

      with_rest : (t : Trail) (d : Context) (r : Result CleanupsRun DeliverError) → passes n d ≡ r → Outer → with_cleanup t r ≡ Ok passed → SomePass languages space exception kept resumes limit (FinishesSo passed.ending) n d
      with_rest t d (Ok rest) at outer h = let same : rest.ending ≡ passed.ending = cc in subst (λ (x : Ending). SomePass languages space exception kept resumes limit (FinishesSo x) n d) same (outer d rest at)
      with_rest t d (Err e) at outer h = absurd cc

      at_return : (pad : ℕ) (entered : Context) (o : Option ℕ) → cleanup_of languages space exception kept limit c ≡ Ok (Cleanup pad entered) → return_of resumes pad ≡ o → Outer → cleanup_and_rest (cleanup_at pad entered) (resume_at pad entered o) (passes n) ≡ Ok passed →
          SomePass languages space exception kept resumes limit (FinishesSo passed.ending) (suc n) c
      at_return pad entered None at found outer h = absurd cc
      at_return pad entered (Some ret) at found outer h = inr (pad, entered, ret, at, found, with_rest (cleanup_at pad entered) (record entered { ra = ret }) (passes n (record entered { ra = ret })) refl outer h)

      go : (r : Result PassEnd DeliverError) → cleanup_of languages space exception kept limit c ≡ r → Outer → after_pass r (later n) ≡ Ok passed → SomePass languages space exception kept resumes limit (FinishesSo passed.ending) (suc n) c
      go (Ok (Finishes ending)) at outer h = let same : ending ≡ passed.ending = cc in inl (at ∙ ap finish same)
      go (Ok (Cleanup pad entered)) at outer h = at_return pad entered (return_of resumes pad) at refl outer h
      go (Err e) at outer h = absurd cc

  pub finish_all : (ending : Ending) (places : ℕ) (c : Context) → SomePass languages space exception kept resumes limit (FinishesSo ending) places c → (passed : CleanupsRun) × (passes places c ≡ Ok passed) × (passed.ending ≡ ending)
  finish_all ending zero c is = (record { trail = []; ending = ending }, ap (λ x. after_pass x (λ pad entered. Err PassLimit)) is, refl)
  finish_all ending (suc n) c (inl is) = (record { trail = []; ending = ending }, ap (λ x. after_pass x (later n)) is, refl)
  finish_all ending (suc n) c (inr r) =
      let pad = r.0 in let entered : Context = r.1 in let ret = r.2 in
      let d : Context = record entered { ra = ret } in
      let rest = finish_all ending n d r.5 in
      let passed : CleanupsRun = rest.0 in
      let done : with_cleanup (cleanup_at pad entered) (passes n d) ≡ Ok (record passed { trail = cleanup_at pad entered ∷ passed.trail }) = ap (with_cleanup (cleanup_at pad entered)) rest.1 in
      (record passed { trail = cleanup_at pad entered ∷ passed.trail }, ap (λ x. after_pass x (later n)) r.3 ∙ ap (λ (o : Option ℕ). cleanup_and_rest (cleanup_at pad entered) (resume_at pad entered o) (passes n)) r.4 ∙ done, rest.2)

  -- what holds of each pass that is so holds of one
  pub some_holds : (P : ℕ → Context → Type 0) (X : Type 0) → ((n : ℕ) (d : Context) → P n d → X) → (places : ℕ) (c : Context) → SomePass languages space exception kept resumes limit P places c → X
  some_holds P X each zero c holds = each zero c holds
  some_holds P X each (suc n) c (inl holds) = each (suc n) c holds
  some_holds P X each (suc n) c (inr r) = some_holds P X each n (record r.1 { ra = r.2 }) r.5
