-- What a pass answers, in the words of what it meets.
use Rattle.std.proofs.Common.{inl, inr, ◌≡◌, ℕ, zero, suc, Bool, true, false, cond, List, Option, Some, None, Result, Ok, Err, refl, sym, ap, subst, ◌∙◌}
use Rattle.std.specs.Prelude.{◌≢◌, ◌⊎◌, MatchBool}
use Rattle.unwind_definitions.specs.Caller as calls
use Rattle.unwind_definitions.specs.Function as rust
use Rattle.unwind_definitions.specs.LanguageSearch.{LanguagePlace, address_of_call, table_action}
use Rattle.memory_image.specs.Image.{Span}
use Rattle.memory_image.specs.Results.{result_map}
use Rattle.unwind_arch.specs.declared.x86_64.Context.{Context}
use Rattle.format_frames.specs.declared.machine.Stepped.{Stepped}
use Rattle.stack_steps.specs.declared.error.DeliverError.{DeliverError}
use Rattle.stack_steps.specs.declared.error.DeliverError.TheVariants.{FrameLimit}
use Rattle.stack_steps.specs.Modules.{SpaceValue}
use Rattle.stack_steps.specs.Stepping.{step_of, frame_of, caller_by}
use Rattle.stack_steps.specs.Frames.{FrameAt}
use Rattle.stack_steps.specs.declared.asking.FrameAction.{FrameAction}
use Rattle.stack_steps.specs.declared.asking.FrameAction.TheVariants.{Nothing, Terminate, TerminateAfterCleanups}
use Rattle.stack_steps.specs.Asking.{or_terminate, arguments_of, named_table}
use Rattle.stack_steps.specs.Languages.{Languages, asked_by_cxx, asked_by_rust, asks_if_named, ended_by, frame_asks, is_cxx, routine_of, table_asks}
use Rattle.unwinding_frames.specs.CxxTables.{CxxAction, cxx_table_action}
use Rattle.unwinding_frames.specs.CxxTables as cxx
use Rattle.unwinding_frames.specs.declared.cxx.error.CxxError.{CxxError}
use Rattle.unwinding_frames.specs.declared.cxx.runtime.CxxRuntime.{CxxRuntime}
use Rattle.unwinding_frames.specs.declared.cxx.runtime.CxxRuntime.TheVariants.{Libstdcxx, Libcxxabi}
use Rattle.stack_walks.specs.FrameVisits.{Pass, visit_at, stops, past_arguments, Line, Stop, FrameVisit, Ends, Stops, Goes, visit_of, with_context, line_visit, pass_of, visit_for}
use Rattle.stack_walks.proofs.VisitLines.{stop_in}
use Rattle.stack_deliver.specs.Causes.{Asks, EndsAtOnce, EndsLater, GoesTo, EndsProgram, EndsProgramLater, StackEnds, CantRead, Meets, GoesOnFrom}
use Rattle.stack_steps.proofs.StepParts.{some_next, stepped_by, step_is, none_framed}
use Rattle.stack_deliver.proofs.VisitParts.{goes, visit_asked, visit_by}

-- ---- what names a language table

module _ (languages : Languages) (image : List Span) (c : Context) (interrupted : Bool) where
  abbrev action_by : FrameAt → Option (Result LanguagePlace calls.StepFault) → FrameAction
  action_by f = asks_if_named languages image (address_of_call c.ra interrupted) (routine_of image f)

  asked_refused : (f : FrameAt) (e : DeliverError) → frame_asks languages image c interrupted f ≡ Err e → named_table image f ≡ Err e
  asked_refused f e = go (named_table image f)
    where
      go : (r : Result (Option (Result LanguagePlace calls.StepFault)) DeliverError) → result_map (action_by f) r ≡ Err e → r ≡ Err e
      go (Ok named) fails = absurd cc
      go (Err fault) fails = cc

  refused_asked : (f : FrameAt) (e : DeliverError) → named_table image f ≡ Err e → frame_asks languages image c interrupted f ≡ Err e
  refused_asked f e is = ap (result_map (action_by f)) is

-- ---- a turn

module _ (p : Pass) (space : SpaceValue) (c : Context) (interrupted : Bool) where
  abbrev framed : Result (Option FrameAt) DeliverError
  framed = frame_of space c interrupted

  -- the caller by a frame is the step's
  next_is : (f : FrameAt) (next : Stepped) → framed ≡ Ok (Some f) → caller_by space.image c f ≡ Ok next → step_of space c interrupted ≡ Ok (Some next)
  next_is f next is called = step_is space c interrupted ∙ ap (stepped_by space.image c) is ∙ ap some_next called

  is_next : (f : FrameAt) (next : Stepped) → framed ≡ Ok (Some f) → step_of space c interrupted ≡ Ok (Some next) → caller_by space.image c f ≡ Ok next
  is_next f next is steps = go (caller_by space.image c f) (sym (step_is space c interrupted ∙ ap (stepped_by space.image c) is) ∙ steps)
    where
      go : (r : Result Stepped DeliverError) → some_next r ≡ Ok (Some next) → r ≡ Ok next
      go (Ok x) e = cc
      go (Err x) e = absurd cc

  fails_next : (f : FrameAt) (e : DeliverError) → framed ≡ Ok (Some f) → step_of space c interrupted ≡ Err e → caller_by space.image c f ≡ Err e
  fails_next f e is steps = go (caller_by space.image c f) (sym (step_is space c interrupted ∙ ap (stepped_by space.image c) is) ∙ steps)
    where
      go : (r : Result Stepped DeliverError) → some_next r ≡ Err e → r ≡ Err e
      go (Ok x) h = absurd cc
      go (Err x) h = cc

  next_fails : (f : FrameAt) (e : DeliverError) → framed ≡ Ok (Some f) → caller_by space.image c f ≡ Err e → step_of space c interrupted ≡ Err e
  next_fails f e is called = step_is space c interrupted ∙ ap (stepped_by space.image c) is ∙ ap some_next called

  -- the end of the stack
  pub visit_ends : StackEnds space c interrupted → visit_of p space c interrupted ≡ Ok Ends
  unfolding visit_for
  visit_ends ends = let is : framed ≡ Ok None = none_framed space.image c framed (sym (step_is space c interrupted) ∙ ends) in rw is refl

  -- what a turn is, by what it meets
  abbrev pub IsFrameVisit : Result FrameVisit DeliverError → Type 0
  IsFrameVisit (Ok Ends) = StackEnds space c interrupted
  IsFrameVisit (Ok (Stops wanted past)) = Asks p.languages space c interrupted wanted × (stops p.phase wanted ≡ true)
  IsFrameVisit (Ok (Goes next)) = GoesTo p space c interrupted next
  IsFrameVisit (Err e) = CantRead p e space c interrupted

  by_caller : (f : FrameAt) (wanted : FrameAction) → Asks p.languages space c interrupted wanted → stops p.phase wanted ≡ false → framed ≡ Ok (Some f) → (r : Result Stepped DeliverError) → caller_by space.image c f ≡ r → IsFrameVisit (goes r)
  by_caller f wanted asks silent is (Ok next) called = record { action = wanted; asks = asks; silent = silent; caller = next_is f next is called }
  by_caller f wanted asks silent is (Err e) called = inr (inr (wanted, asks, silent, next_fails f e is called))

  by_test : (f : FrameAt) (wanted : FrameAction) → Asks p.languages space c interrupted wanted → framed ≡ Ok (Some f) → (b : Bool) → stops p.phase wanted ≡ b → IsFrameVisit (visit_at space.image c f (cond b (Some wanted) None))
  by_test f wanted asks is true stopped = (asks, stopped)
  by_test f wanted asks is false silent = by_caller f wanted asks silent is (caller_by space.image c f) refl

  handler_fails : (f : FrameAt) (e : DeliverError) → framed ≡ Ok (Some f) → frame_asks p.languages space.image c interrupted f ≡ Err e → CantRead p e space c interrupted
  handler_fails f e is fails = inr (inl (f, is, asked_refused p.languages space.image c interrupted f e fails))

  by_asked : (f : FrameAt) → framed ≡ Ok (Some f) → (r : Result FrameAction DeliverError) → frame_asks p.languages space.image c interrupted f ≡ r → IsFrameVisit (visit_asked p space.image c f r)
  by_asked f is (Ok wanted) asked = by_test f wanted (record { frame = f; framed = is; asked = asked }) is (stops p.phase wanted) refl
  by_asked f is (Err e) asked = handler_fails f e is asked

  by_frame : (r : Result (Option FrameAt) DeliverError) → framed ≡ r → IsFrameVisit (visit_by p space.image c interrupted r)
  by_frame (Ok None) is = step_is space c interrupted ∙ ap (stepped_by space.image c) is
  by_frame (Ok (Some f)) is = by_asked f is (frame_asks p.languages space.image c interrupted f) refl
  by_frame (Err e) is = inl is

  visit_is : IsFrameVisit (visit_of p space c interrupted)
  unfolding visit_for
  visit_is = by_frame framed refl

  pub visit_meets : (r : Result FrameVisit DeliverError) → visit_of p space c interrupted ≡ r → IsFrameVisit r
  visit_meets r is = subst IsFrameVisit is visit_is

  -- a frame that asks for something for which the pass stops
  pub visit_stops : (wanted : FrameAction) → (asks : Asks p.languages space c interrupted wanted) → stops p.phase wanted ≡ true → visit_of p space c interrupted ≡ Ok (Stops wanted (past_arguments c (arguments_of asks.frame)))
  unfolding visit_for
  visit_stops wanted asks stopped = rw (asks.framed, asks.asked, stopped) refl

  -- a frame that asks for nothing of that kind
  pub visit_goes : (next : Stepped) → GoesTo p space c interrupted next → visit_of p space c interrupted ≡ Ok (Goes next)
  unfolding visit_for
  visit_goes next to = rw (to.asks.framed, to.asks.asked, to.silent, is_next to.asks.frame next to.asks.framed to.caller) refl

  -- what can't be read
  pub visit_fails : (e : DeliverError) → CantRead p e space c interrupted → visit_of p space c interrupted ≡ Err e
  unfolding visit_for
  visit_fails e (inl row) = rw row refl
  visit_fails e (inr (inl refused)) =
      let f : FrameAt = refused.0 in
      rw (refused.1, refused_asked p.languages space.image c interrupted f e refused.2) refl
  visit_fails e (inr (inr caller)) =
      let wanted : FrameAction = caller.0 in let asks : Asks p.languages space c interrupted wanted = caller.1 in
      rw (asks.framed, asks.asked, caller.2, fails_next asks.frame e asks.framed caller.3) refl

-- ---- the language's answer to end the program

-- a table that ends the program so
module _ (languages : Languages) (image : List Span) (a : ℕ) (routine : Option ℕ) (place : Result LanguagePlace calls.StepFault) where
  abbrev by_cxx : Result CxxAction CxxError
  by_cxx = cxx_table_action image languages.exception a place

  abbrev by_rust : Result rust.Action calls.StepFault
  by_rust = table_action image a place

  abbrev runtime : CxxRuntime
  runtime = languages.exception.runtime

  abbrev chosen : Bool → FrameAction
  chosen b = cond b (asked_by_cxx runtime by_cxx) (asked_by_rust (or_terminate by_rust))

  abbrev CxxEnds : Type 0
  CxxEnds = ((runtime ≡ Libcxxabi) × (by_cxx ≡ Ok cxx.Terminate)) ⊎ ((e : CxxError) × (by_cxx ≡ Err e))

  abbrev EndsSo : Bool → Type 0
  EndsSo b = MatchBool b CxxEnds ((by_rust ≡ Ok rust.Terminate) ⊎ ((e : calls.StepFault) × (by_rust ≡ Err e)))

  pub at_once_asks : EndsAtOnce languages image a routine place → table_asks languages image a routine place ≡ Terminate
  at_once_asks = go (is_cxx languages routine)
    where
      go : (b : Bool) → EndsSo b → chosen b ≡ Terminate
      go true (inl ends) = ap (λ r. asked_by_cxx r by_cxx) ends.0 ∙ ap (asked_by_cxx Libcxxabi) ends.1
      go true (inr ends) = ap (asked_by_cxx runtime) ends.1
      go false (inl is) = ap (λ r. asked_by_rust (or_terminate r)) is
      go false (inr fails) = ap (λ r. asked_by_rust (or_terminate r)) fails.1

  pub asks_at_once : table_asks languages image a routine place ≡ Terminate → EndsAtOnce languages image a routine place
  asks_at_once = go (is_cxx languages routine)
    where
      at_once : (r : CxxRuntime) → ended_by r ≡ Terminate → r ≡ Libcxxabi
      at_once Libstdcxx ends = absurd cc
      at_once Libcxxabi ends = refl

      cxx_ends : (r : Result CxxAction CxxError) → by_cxx ≡ r → asked_by_cxx runtime r ≡ Terminate → CxxEnds
      cxx_ends (Ok cxx.NoAction) is ends = absurd cc
      cxx_ends (Ok (cxx.Cleanup pad)) is ends = absurd cc
      cxx_ends (Ok (cxx.Handler pad filter)) is ends = absurd cc
      cxx_ends (Ok cxx.Terminate) is ends = inl (at_once runtime ends, is)
      cxx_ends (Err e) is ends = inr (e, is)

      rust_ends : (r : Result rust.Action calls.StepFault) → by_rust ≡ r → asked_by_rust (or_terminate r) ≡ Terminate → (by_rust ≡ Ok rust.Terminate) ⊎ ((e : calls.StepFault) × (by_rust ≡ Err e))
      rust_ends (Ok rust.NoAction) is ends = absurd cc
      rust_ends (Ok (rust.Cleanup pad)) is ends = absurd cc
      rust_ends (Ok (rust.Catch pad)) is ends = absurd cc
      rust_ends (Ok (rust.Filter pad)) is ends = absurd cc
      rust_ends (Ok rust.Terminate) is ends = inl is
      rust_ends (Err e) is ends = inr (e, is)

      go : (b : Bool) → chosen b ≡ Terminate → EndsSo b
      go true ends = cxx_ends by_cxx refl ends
      go false ends = rust_ends by_rust refl ends

  pub later_asks : EndsLater languages image a routine place → table_asks languages image a routine place ≡ TerminateAfterCleanups
  later_asks ends = ap chosen ends.0 ∙ ap (λ r. asked_by_cxx r by_cxx) ends.1 ∙ ap (asked_by_cxx Libstdcxx) ends.2

  pub asks_later : table_asks languages image a routine place ≡ TerminateAfterCleanups → EndsLater languages image a routine place
  asks_later = go (is_cxx languages routine) refl
    where
      later : (r : CxxRuntime) → ended_by r ≡ TerminateAfterCleanups → r ≡ Libstdcxx
      later Libstdcxx ends = refl
      later Libcxxabi ends = absurd cc

      cxx_ends : (r : Result CxxAction CxxError) → asked_by_cxx runtime r ≡ TerminateAfterCleanups → (runtime ≡ Libstdcxx) × (r ≡ Ok cxx.Terminate)
      cxx_ends (Ok cxx.NoAction) ends = absurd cc
      cxx_ends (Ok (cxx.Cleanup pad)) ends = absurd cc
      cxx_ends (Ok (cxx.Handler pad filter)) ends = absurd cc
      cxx_ends (Ok cxx.Terminate) ends = (later runtime ends, refl)
      cxx_ends (Err e) ends = absurd cc

      never : (x : rust.Action) → asked_by_rust x ≡ TerminateAfterCleanups → ⊥
      never rust.NoAction ends = absurd cc
      never (rust.Cleanup pad) ends = absurd cc
      never (rust.Catch pad) ends = absurd cc
      never (rust.Filter pad) ends = absurd cc
      never rust.Terminate ends = absurd cc

      go : (b : Bool) → is_cxx languages routine ≡ b → chosen b ≡ TerminateAfterCleanups → EndsLater languages image a routine place
      go true is ends = let r = cxx_ends by_cxx ends in (is, r.0, r.1)
      go false is ends = absurd (never (or_terminate by_rust) ends)

module _ (languages : Languages) (space : SpaceValue) (c : Context) (interrupted : Bool) where
  abbrev a : ℕ
  a = address_of_call c.ra interrupted

  -- what is asked where a table is named
  abbrev by_named : FrameAt → Result LanguagePlace calls.StepFault → FrameAction
  by_named f place = table_asks languages space.image a (routine_of space.image f) place

  abbrev ok : FrameAction → Result FrameAction DeliverError
  ok x = Ok x

  named_asks : (f : FrameAt) (place : Result LanguagePlace calls.StepFault) (x : FrameAction) → frame_of space c interrupted ≡ Ok (Some f) → named_table space.image f ≡ Ok (Some place) → by_named f place ≡ x → Asks languages space c interrupted x
  named_asks f place x framed named is = record { frame = f; framed = framed; asked = ap (result_map (action_by languages space.image c interrupted f)) named ∙ ap ok is }

  -- a frame that asks for something names a table
  asks_named : (x : FrameAction) (f : FrameAt) → frame_asks languages space.image c interrupted f ≡ Ok x → x ≢ Nothing → (place : Result LanguagePlace calls.StepFault) × (named_table space.image f ≡ Ok (Some place)) × (by_named f place ≡ x)
  asks_named x f = go (named_table space.image f) refl
    where
      go : (r : Result (Option (Result LanguagePlace calls.StepFault)) DeliverError) → named_table space.image f ≡ r → result_map (action_by languages space.image c interrupted f) r ≡ Ok x → x ≢ Nothing →
          (place : Result LanguagePlace calls.StepFault) × (named_table space.image f ≡ Ok (Some place)) × (by_named f place ≡ x)
      go (Ok None) named e some = let same : Nothing ≡ x = cc in absurd (some (sym same))
      go (Ok (Some place)) named e some = (place, named, cc)
      go (Err fault) named e some = absurd cc

  pub ends_asks : EndsProgram languages space c interrupted → Asks languages space c interrupted Terminate
  ends_asks ends = named_asks ends.frame ends.place Terminate ends.framed ends.named (at_once_asks languages space.image a (routine_of space.image ends.frame) ends.place ends.fatal)

  pub asks_ends : Asks languages space c interrupted Terminate → EndsProgram languages space c interrupted
  asks_ends asks =
      let r = asks_named Terminate asks.frame asks.asked (λ e. cc) in
      record { frame = asks.frame; framed = asks.framed; place = r.0; named = r.1; fatal = asks_at_once languages space.image a (routine_of space.image asks.frame) r.0 r.2 }

  pub ends_later_asks : EndsProgramLater languages space c interrupted → Asks languages space c interrupted TerminateAfterCleanups
  ends_later_asks ends = named_asks ends.frame ends.place TerminateAfterCleanups ends.framed ends.named (later_asks languages space.image a (routine_of space.image ends.frame) ends.place ends.fatal)

  pub asks_ends_later : Asks languages space c interrupted TerminateAfterCleanups → EndsProgramLater languages space c interrupted
  asks_ends_later asks =
      let r = asks_named TerminateAfterCleanups asks.frame asks.asked (λ e. cc) in
      record { frame = asks.frame; framed = asks.framed; place = r.0; named = r.1; fatal = asks_later languages space.image a (routine_of space.image asks.frame) r.0 r.2 }

-- ---- a pass

module _ (p : Pass) (space : SpaceValue) where
  -- the last turn of a pass gives this
  abbrev pub Last : Result (Option Stop) DeliverError → Context → Bool → Type 0
  Last (Ok None) c interrupted = visit_of p space c interrupted ≡ Ok Ends
  Last (Ok (Some stop)) c interrupted = (stop.context ≡ c) × (stop.interrupted ≡ interrupted) × (visit_of p space c interrupted ≡ Ok (Stops stop.action stop.past))
  Last (Err e) c interrupted = visit_of p space c interrupted ≡ Err e

  stop_same : (c : Context) (r : Result Line DeliverError) → stop_in (with_context c r) ≡ stop_in r
  stop_same c (Ok line) = refl
  stop_same c (Err e) = refl

  -- a pass needs more room, or its last turn gives its answer
  pub pass_last : (room : ℕ) (c : Context) (interrupted : Bool) (r : Result (Option Stop) DeliverError) → stop_in (pass_of p space room c interrupted) ≡ r →
      ((r ≡ Err FrameLimit) × GoesOnFrom p space room c interrupted) ⊎ Meets p space (Last r) room c interrupted
  pass_last zero c interrupted r is = inl (sym is, tt)
  pass_last (suc room) c interrupted r is = go (visit_of p space c interrupted) refl (λ d mark. pass_last room d mark r) is
    where
      go : (t : Result FrameVisit DeliverError) → visit_of p space c interrupted ≡ t →
          ((d : Context) (mark : Bool) → stop_in (pass_of p space room d mark) ≡ r → ((r ≡ Err FrameLimit) × GoesOnFrom p space room d mark) ⊎ Meets p space (Last r) room d mark) →
          stop_in (line_visit c interrupted t (pass_of p space room)) ≡ r → ((r ≡ Err FrameLimit) × GoesOnFrom p space (suc room) c interrupted) ⊎ Meets p space (Last r) (suc room) c interrupted
      go (Ok Ends) turns outer is = inr (inl (subst (λ x. Last x c interrupted) is turns))
      go (Ok (Stops wanted past)) turns outer is = inr (inl (subst (λ x. Last x c interrupted) is (refl, refl, turns)))
      go (Ok (Goes next)) turns outer is = on (outer next.context next.signal (sym (stop_same c (pass_of p space room next.context next.signal)) ∙ is))
        where
          to : GoesTo p space c interrupted next
          to = visit_meets p space c interrupted (Ok (Goes next)) turns

          on : ((r ≡ Err FrameLimit) × GoesOnFrom p space room next.context next.signal) ⊎ Meets p space (Last r) room next.context next.signal →
              ((r ≡ Err FrameLimit) × GoesOnFrom p space (suc room) c interrupted) ⊎ Meets p space (Last r) (suc room) c interrupted
          on (inl more) = inl (more.0, (next, to, more.1))
          on (inr meets) = inr (inr (next, to, meets))
      go (Err e) turns outer is = inr (inl (subst (λ x. Last x c interrupted) is turns))

  -- the answer of the last turn is the pass's
  pub last_pass : (room : ℕ) (c : Context) (interrupted : Bool) (r : Result (Option Stop) DeliverError) → Meets p space (Last r) room c interrupted → stop_in (pass_of p space room c interrupted) ≡ r
  last_pass zero c interrupted r meets = absurd meets
  last_pass (suc room) c interrupted (Ok None) (inl last) = rw last refl
  last_pass (suc room) c interrupted (Ok (Some stop)) (inl last) = rw (last.2, ← last.0, ← last.1) refl
  last_pass (suc room) c interrupted (Err e) (inl last) = rw last refl
  last_pass (suc room) c interrupted r (inr later) =
      let next : Stepped = later.0 in
      let rest : stop_in (pass_of p space room next.context next.signal) ≡ r = last_pass room next.context next.signal r later.2 in
      rw (visit_goes p space c interrupted next later.1) (stop_same c (pass_of p space room next.context next.signal) ∙ rest)

  -- a pass that goes on from each context meets its limit
  pub more_pass : (room : ℕ) (c : Context) (interrupted : Bool) → GoesOnFrom p space room c interrupted → stop_in (pass_of p space room c interrupted) ≡ Err FrameLimit
  more_pass zero c interrupted more = refl
  more_pass (suc room) c interrupted more =
      let next : Stepped = more.0 in
      let rest : stop_in (pass_of p space room next.context next.signal) ≡ Err FrameLimit = more_pass room next.context next.signal more.2 in
      rw (visit_goes p space c interrupted next more.1) (stop_same c (pass_of p space room next.context next.signal) ∙ rest)

  pub meets_too : (P Q : Context → Bool → Type 0) → ((c : Context) (interrupted : Bool) → P c interrupted → Q c interrupted) → (room : ℕ) (c : Context) (interrupted : Bool) → Meets p space P room c interrupted → Meets p space Q room c interrupted
  meets_too P Q each zero c interrupted meets = absurd meets
  meets_too P Q each (suc room) c interrupted (inl now) = inl (each c interrupted now)
  meets_too P Q each (suc room) c interrupted (inr later) = inr (later.0, later.1, meets_too P Q each room later.0.context later.0.signal later.2)

  -- nothing is met that never is
  pub meets_never : (P : Context → Bool → Type 0) → ((c : Context) (interrupted : Bool) → P c interrupted → ⊥) → (room : ℕ) (c : Context) (interrupted : Bool) → Meets p space P room c interrupted → ⊥
  meets_never P never zero c interrupted meets = meets
  meets_never P never (suc room) c interrupted (inl now) = never c interrupted now
  meets_never P never (suc room) c interrupted (inr later) = meets_never P never room later.0.context later.0.signal later.2

  -- one of two is met
  pub meets_either : (P Q : Context → Bool → Type 0) (room : ℕ) (c : Context) (interrupted : Bool) → Meets p space (λ d mark. P d mark ⊎ Q d mark) room c interrupted → Meets p space P room c interrupted ⊎ Meets p space Q room c interrupted
  meets_either P Q zero c interrupted meets = absurd meets
  meets_either P Q (suc room) c interrupted (inl (inl now)) = inl (inl now)
  meets_either P Q (suc room) c interrupted (inl (inr now)) = inr (inl now)
  meets_either P Q (suc room) c interrupted (inr later) = go (meets_either P Q room later.0.context later.0.signal later.2)
    where
      go : Meets p space P room later.0.context later.0.signal ⊎ Meets p space Q room later.0.context later.0.signal → Meets p space P (suc room) c interrupted ⊎ Meets p space Q (suc room) c interrupted
      go (inl meets) = inl (inr (later.0, later.1, meets))
      go (inr meets) = inr (inr (later.0, later.1, meets))

  -- a frame that asks for something for which the pass stops
  abbrev pub StopsFor : (Context → Bool → FrameAction → Type 0) → Context → Bool → Type 0
  StopsFor Q c interrupted = (wanted : FrameAction) × Asks p.languages space c interrupted wanted × (stops p.phase wanted ≡ true) × Q c interrupted wanted

  -- the pass stops at the first of them
  pub meets_stop : (Q : Context → Bool → FrameAction → Type 0) (room : ℕ) (c : Context) (interrupted : Bool) → Meets p space (StopsFor Q) room c interrupted → (stop : Stop) × Meets p space (Last (Ok (Some stop))) room c interrupted × Q stop.context stop.interrupted stop.action
  meets_stop Q zero c interrupted meets = absurd meets
  meets_stop Q (suc room) c interrupted (inl now) =
      let wanted : FrameAction = now.0 in let asks : Asks p.languages space c interrupted wanted = now.1 in
      let past : Context = past_arguments c (arguments_of asks.frame) in
      (record { context = c; interrupted = interrupted; action = wanted; past = past }, inl (refl, refl, visit_stops p space c interrupted wanted asks now.2), now.3)
  meets_stop Q (suc room) c interrupted (inr later) =
      let next : Stepped = later.0 in
      let r = meets_stop Q room next.context next.signal later.2 in
      (r.0, inr (next, later.1, r.1), r.2)
