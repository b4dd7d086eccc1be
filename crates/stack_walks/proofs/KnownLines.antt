-- The line of walks over a stack of each of whose frames it is known how the caller's state follows, and why a walk ends there.
use Rattle.std.proofs.Common.{inl, inr, ◌≡◌, ◌≢◌, ℕ, zero, suc, ◌<◌, Bool, true, false, List, [], ◌∷◌, length, Option, Some, None, Result, Ok, refl, sym, ap, subst, ◌∙◌, arith, eqb}
use Rattle.std.specs.Prelude.{◌⊎◌}
use Rattle.std.proofs.lemmas.Bool.Decides.{nat_tests}
use Rattle.memory_image.specs.Image.{IsLaidOut}
use Rattle.unwind_definitions.specs.State.{State, IsState, Shows}
use Rattle.unwind_definitions.specs.Prologue.{steps_of}
use Rattle.unwind_definitions.specs.Chain.{StacksRise}
use Rattle.unwind_definitions.specs.LanguageSearch.{address_of_call}
use Rattle.unwind_laws.proofs.Undo.{rises}
use Rattle.frame_facts.specs.FactChains.{address_asked}
use Rattle.format_definitions.specs.Modules.{part_of, IsUncoveredBy}
use Rattle.format_laws.proofs.Stopped.{stop_below}
use Rattle.format_frames.specs.declared.machine.Stepped.{Stepped}
use Rattle.unwind_arch.specs.declared.x86_64.Context.{Context}
use Rattle.unwind_arch.specs.ContextViews.{columns_of}
use Rattle.stack_steps.specs.declared.error.DeliverError.{DeliverError}
use Rattle.stack_steps.specs.declared.space.Module.{Module}
use Rattle.stack_steps.specs.Modules.{SpaceValue, AreApart, module_at}
use Rattle.stack_steps.specs.SpaceViews.{formats_of}
use Rattle.stack_steps.specs.Stepping.{frame_of, step_of}
use Rattle.stack_steps.specs.Undoing.{Undone, UndoneIn}
use Rattle.stack_steps.specs.Interrupting.{Interrupted}
use Rattle.stack_steps.specs.KnownStacks.{IsLinkByFacts, IsLinkByFunction, IsLinkBySignal, IsStackLink, is_by_signal, IsKnownEnd, IsKnownStack, HasNoSignals}
use Rattle.stack_steps.proofs.FactSteps.{asked_at, facts_undone, signal_left}
use Rattle.stack_steps.proofs.MetCalls.{format_undone, format_stopped}
use Rattle.stack_steps.proofs.StepParts.{stepped_by, step_is}
use Rattle.stack_walks.specs.Lines.{line_of}
use Rattle.stack_walks.specs.WalkEnds.{reached_by, caller_from, start_state, EndsFor, ComesTo, front_uncovered}
use Rattle.stack_walks.specs.Walking.{EachShows}
use Rattle.stack_walks.specs.KnownWalks.{StartsKnownStack, IsBelow, StackRises, ShowStack, front_at, end_reason_of_stack}
use Rattle.stack_walks.proofs.LineShows.{by_module}
use Rattle.stack_walks.proofs.ChainEnds.{not_refused, unknown}
use Rattle.stack_walks.proofs.EndAnswers.{comes}

-- A step answers a context that shows a state. The mark says whether that was interrupted where it stands, or stopped in a call.
pub record GoesTo (marked : Bool) (result : Result (Option Stepped) DeliverError) (t : State) : Type 0 where
  pub next : Stepped
  pub answered : result ≡ Ok (Some next)
  pub marks : next.signal ≡ marked
  pub shows : Shows (columns_of next.context) t

module _ (space : SpaceValue) where
  -- a state that was stopped in a call
  pub called_state : (t : State) (callers : List State) → IsKnownStack space false t callers → IsState t
  called_state t [] end = end.state
  called_state t (u ∷ callers) (inl (inl known), outer) = known.1.state
  called_state t (u ∷ callers) (inl (inr call), outer) = call.state
  called_state t (u ∷ callers) (inr signal, outer) = signal.1.state

  -- ---- stack pointers rise

  function_below : (interrupted : Bool) (s t : State) → IsLinkByFunction space interrupted s t → s.sp < t.sp
  function_below true s t stop =
      subst (λ (u : State). s.sp < u.sp) stop.caller
      (stop_below space.image s stop.call stop.stopped.lies.home (part_of stop.stopped.lies.home stop.functions) stop.stopped.lies.describes stop.stopped.stands)
  function_below false s t call =
      subst (λ (u : State). s.sp < u.sp) call.caller
      (rises space.image call.call.callee.outermost (steps_of call.call.callee.prologue) call.call.caller s call.called.called.entered)

  link_below : (interrupted : Bool) (s t : State) (link : IsStackLink space interrupted s t) → IsBelow space interrupted s t link
  link_below interrupted s t (inl (inl known)) = known.1.stands.below
  link_below interrupted s t (inl (inr function)) = function_below interrupted s t function
  link_below interrupted s t (inr signal) = tt

  call_below : (interrupted : Bool) (s t : State) (link : IsStackLink space interrupted s t) → is_by_signal space interrupted s t link ≡ false → s.sp < t.sp
  call_below interrupted s t (inl known) call = link_below interrupted s t (inl known)
  call_below interrupted s t (inr signal) call = absurd cc

  stack_rises : (interrupted : Bool) (s : State) (callers : List State) (stack : IsKnownStack space interrupted s callers) → StackRises space interrupted s callers stack
  stack_rises interrupted s [] stack = tt
  stack_rises interrupted s (t ∷ callers) stack = (link_below interrupted s t stack.0, stack_rises (is_by_signal space interrupted s t stack.0) t callers stack.1)

  -- without a signal's frame they rise all along
  pub calls_rise : (interrupted : Bool) (s : State) (callers : List State) (stack : IsKnownStack space interrupted s callers) → HasNoSignals space interrupted s callers stack → StacksRise (s ∷ callers)
  calls_rise interrupted s [] stack calls = tt
  calls_rise interrupted s (t ∷ []) stack calls = (call_below interrupted s t stack.0 calls.0, tt)
  calls_rise interrupted s (t ∷ u ∷ callers) stack calls = (call_below interrupted s t stack.0 calls.0, calls_rise (is_by_signal space interrupted s t stack.0) t (u ∷ callers) stack.1 calls.1)

  module _ (apart : AreApart 0 space.modules) (laid : IsLaidOut 0 space.image) where
    -- ---- the step from a state of the stack

    by_facts : (interrupted : Bool) (s t : State) (c : Context) → IsLinkByFacts space interrupted s t → IsState t → Shows (columns_of c) s → GoesTo false (step_of space c interrupted) t
    by_facts interrupted s t c known fits shows =
        let u : Undone (step_of space c interrupted) (columns_of c) t =
        facts_undone space c interrupted s t apart laid known.1.returns (asked_at interrupted s known.1.returns known.1.state.ra) shows known.0 fits known.1.said known.1.stands in
        record { next = u.next; answered = u.answered; marks = u.unmarked; shows = u.shows }

    by_function : (interrupted : Bool) (s t : State) (c : Context) → IsLinkByFunction space interrupted s t → Shows (columns_of c) s → GoesTo false (step_of space c interrupted) t
    by_function true s t c stop shows =
        let u : UndoneIn stop.stopped.lies.home (step_of space c true) (columns_of c) stop.call.caller = format_stopped space c stop.functions s stop.call apart laid stop.stopped shows in
        subst (GoesTo false (step_of space c true)) stop.caller (record { next = u.next; answered = u.answered; marks = u.unmarked; shows = u.shows })
    by_function false s t c call shows =
        let u : UndoneIn call.called.lies.home (step_of space c false) (columns_of c) call.call.caller = format_undone space c call.functions s call.call apart laid call.called shows call.state.ra in
        subst (GoesTo false (step_of space c false)) call.caller (record { next = u.next; answered = u.answered; marks = u.unmarked; shows = u.shows })

    by_signal : (interrupted : Bool) (s t : State) (c : Context) → IsLinkBySignal space interrupted s t → Shows (columns_of c) s → GoesTo true (step_of space c interrupted) t
    by_signal interrupted s t c signal shows =
        let i : Interrupted (step_of space c interrupted) t =
        signal_left space c interrupted s t apart laid signal.1.returns (asked_at interrupted s signal.1.returns signal.1.state.ra) shows signal.0 signal.1.said signal.1.stands in
        record { next = i.next; answered = i.answered; marks = i.marked; shows = i.shows }

    pub link_step : (interrupted : Bool) (s t : State) (callers : List State) (c : Context) (link : IsStackLink space interrupted s t) → IsKnownStack space (is_by_signal space interrupted s t link) t callers → Shows (columns_of c) s →
        GoesTo (is_by_signal space interrupted s t link) (step_of space c interrupted) t
    link_step interrupted s t callers c (inl (inl known)) outer shows = by_facts interrupted s t c known (called_state t callers outer) shows
    link_step interrupted s t callers c (inl (inr function)) outer shows = by_function interrupted s t c function shows
    link_step interrupted s t callers c (inr signal) outer shows = by_signal interrupted s t c signal shows

    -- the stack ends at its outermost state
    stack_ends : (interrupted : Bool) (s : State) (c : Context) → IsKnownEnd space interrupted s → Shows (columns_of c) s → step_of space c interrupted ≡ Ok None
    unfolding frame_of
    stack_ends interrupted s c end shows = step_is space c interrupted ∙ ap (stepped_by space.image c) (go end.ends)
      where
        go : (s.ra ≡ 0) ⊎ ((s.ra ≢ 0) × IsUncoveredBy space.image (formats_of space) (address_asked interrupted s)) → frame_of space c interrupted ≡ Ok None
        go (inl none) = let e : columns_of c 16 ≡ Some s.ra = shows.ra in let at : c.ra ≡ 0 = cc in rw at refl
        go (inr u) =
            let e : columns_of c 16 ≡ Some s.ra = shows.ra in
            let at : c.ra ≡ s.ra = cc in
            let other : s.ra ≢ 0 = u.0 in
            let nonzero : eqb s.ra 0 ≡ false = grind (arith, nat_tests) in
            let asked : address_of_call s.ra interrupted ≡ address_asked interrupted s = asked_at interrupted s u.0 end.state.ra in
            rw (at, nonzero, asked) (by_module space apart laid (address_asked interrupted s) u.1 (module_at space.modules (address_asked interrupted s)) refl)

    -- ---- the line

    known_line : (interrupted : Bool) (s : State) (callers : List State) (c : Context) (room : ℕ) → IsKnownStack space interrupted s callers → Shows (columns_of c) s → length callers < room →
        (cs : List Context) × (line_of space room c interrupted ≡ Ok cs) × EachShows cs (s ∷ callers)
    known_line interrupted s [] c zero stack shows less = absurd (omega arith)
    known_line interrupted s [] c (suc room) stack shows less = (c ∷ [], rw (stack_ends interrupted s c stack shows) refl, (shows, tt))
    known_line interrupted s (t ∷ callers) c zero stack shows less = absurd (omega arith)
    known_line interrupted s (t ∷ callers) c (suc room) stack shows less =
        let by_signal : Bool = is_by_signal space interrupted s t stack.0 in
        let step : GoesTo by_signal (step_of space c interrupted) t = link_step interrupted s t callers c stack.0 stack.1 shows in
        let rest = known_line by_signal t callers step.next.context room stack.1 step.shows (omega arith) in
        (c ∷ rest.0, rw (step.answered, step.marks, rest.1) refl, (shows, rest.2))

    -- ---- why a walk ends there

    front_ends : (interrupted : Bool) (c : Context) (s : State) → Shows (columns_of c) s → IsKnownEnd space interrupted s → EndsFor (front_at space.modules interrupted s) space c interrupted
    front_ends interrupted c s shows end = go end.ends
      where
        at : c.ra ≡ s.ra
        at = let e : columns_of c 16 ≡ Some s.ra = shows.ra in cc

        by_holder : c.ra ≢ 0 → (a : ℕ) → address_of_call c.ra interrupted ≡ a → IsUncoveredBy space.image (formats_of space) a → (o : Option Module) → module_at space.modules a ≡ o → EndsFor (front_uncovered o a) space c interrupted
        by_holder some a asked free None found = (some, stack_ends interrupted s c end shows, rw (asked, found) (unknown space apart laid a free None found))
        by_holder some a asked free (Some m) found = (some, stack_ends interrupted s c end shows, rw (asked, found) (unknown space apart laid a free (Some m) found))

        go : (s.ra ≡ 0) ⊎ ((s.ra ≢ 0) × IsUncoveredBy space.image (formats_of space) (address_asked interrupted s)) → EndsFor (front_at space.modules interrupted s) space c interrupted
        go (inl none) = rw none (at ∙ none)
        go (inr u) =
            let returned : s.ra ≢ 0 = u.0 in
            let nonzero : eqb s.ra 0 ≡ false = grind (arith, nat_tests) in
            let some : c.ra ≢ 0 = λ none. u.0 (sym at ∙ none) in
            let asked : address_of_call c.ra interrupted ≡ address_asked interrupted s = rw at (asked_at interrupted s u.0 end.state.ra) in
            rw nonzero (by_holder some (address_asked interrupted s) asked u.1 (module_at space.modules (address_asked interrupted s)) refl)

    -- the last state that is reached, where there is room for all, is the outermost
    last_ends : (interrupted : Bool) (s : State) (callers : List State) (t : Stepped) (room : ℕ) (stack : IsKnownStack space interrupted s callers) → Shows (columns_of t.context) s → t.signal ≡ interrupted → length callers < room →
        EndsFor (end_reason_of_stack space interrupted s callers stack) space (reached_by (caller_from space) room t).state.context (reached_by (caller_from space) room t).state.signal
    last_ends interrupted s [] t zero stack shows marked less = absurd (omega arith)
    last_ends interrupted s [] t (suc room) stack shows marked less =
        let ends : step_of space t.context t.signal ≡ Ok None = rw marked (stack_ends interrupted s t.context stack shows) in
        rw ends (rw marked (front_ends interrupted t.context s shows stack))
    last_ends interrupted s (u ∷ callers) t zero stack shows marked less = absurd (omega arith)
    last_ends interrupted s (u ∷ callers) t (suc room) stack shows marked less =
        let by_signal : Bool = is_by_signal space interrupted s u stack.0 in
        let step : GoesTo by_signal (step_of space t.context interrupted) u = link_step interrupted s u callers t.context stack.0 stack.1 shows in
        let goes : step_of space t.context t.signal ≡ Ok (Some step.next) = rw marked step.answered in
        rw goes (last_ends by_signal u callers step.next room stack.1 step.shows step.marks (omega arith))

    module _ (c : Context) (limit : ℕ) (interrupted : Bool) (s : State) (callers : List State) (is : StartsKnownStack space c limit interrupted s callers) where
      -- The line from a context that shows the innermost state shows the states of the stack.
      pub known_walked : (cs : List Context) × (line_of space limit c interrupted ≡ Ok cs) × ShowStack space cs interrupted s callers is.stack
      known_walked =
          let line = known_line interrupted s callers c limit is.stack is.shows is.shorter in
          (line.0, line.1, record { each = line.2; rise = stack_rises interrupted s callers is.stack })

      -- Why the walk ends.
      pub known_comes : ComesTo (end_reason_of_stack space interrupted s callers is.stack) space limit c interrupted
      known_comes =
          let line = known_line interrupted s callers c limit is.stack is.shows is.shorter in
          comes (end_reason_of_stack space interrupted s callers is.stack) space limit (start_state c interrupted) (not_refused (line_of space limit c interrupted) line.0 line.1)
          (last_ends interrupted s callers (start_state c interrupted) limit is.stack is.shows refl is.shorter)
