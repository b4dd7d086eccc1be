-- What a walk over a stack gives whose innermost frames alone are known.
use Rattle.std.proofs.Common.{inl, inr, ◌≡◌, ℕ, zero, suc, ◌<◌, Bool, true, false, List, [], ◌∷◌, ◌++◌, length, Option, Some, None, Result, refl, sym, ap, subst, ◌∙◌, arith}
use Rattle.std.specs.Prelude.{map, slice_index}
use Rattle.memory_image.specs.Image.{IsLaidOut}
use Rattle.unwind_definitions.specs.Columns as column
use Rattle.unwind_definitions.specs.State.{IsState, Shows, State}
use Rattle.unwind_arch.specs.ContextViews.{columns_of}
use Rattle.unwind_arch.specs.declared.x86_64.Context.{Context}
use Rattle.format_frames.specs.declared.machine.Stepped.{Stepped}
use Rattle.perf_data.specs.Samples.{SampleValue}
use Rattle.stack_steps.specs.declared.error.DeliverError.{DeliverError}
use Rattle.stack_steps.specs.Interrupting.{Interrupted}
use Rattle.stack_steps.specs.KnownStacks.{IsLinkByFacts, IsLinkByFunction, IsLinkBySignal, IsStackLink, is_by_signal}
use Rattle.stack_steps.specs.Modules.{AreApart, SpaceValue}
use Rattle.stack_steps.specs.Stepping.{step_of}
use Rattle.stack_steps.specs.Undoing.{Undone, UndoneIn}
use Rattle.stack_steps.proofs.FactSteps.{asked_at, facts_undone, signal_left}
use Rattle.stack_steps.proofs.MetCalls.{format_stopped, format_undone}
use Rattle.stack_walks.specs.WalkEnds.{caller_from, caller_in, contexts_to_end, reached_after, reached_by, start_state}
use Rattle.stack_walks.specs.Walking.{EachShows}
use Rattle.stack_walks.proofs.KnownLines.{GoesTo}
use Rattle.popped_registers.specs.PoppedRegisters.{is_popped, kept_space}
use Rattle.popped_registers.proofs.KeptLemmas.{kept_laid_out, with_laid_out}
use Rattle.sampled_profile.specs.declared.stack_end.StackEnd.{StackEnd}
use Rattle.sampled_profile.specs.Ends.{returns_of}
use Rattle.sampled_profile.specs.KnownSamples.{BeginsKnownFront, IsKnownFront, front_walk}
use Rattle.sampled_profile.specs.Walks.{end_of, sample_space, walk_by, walk_of}
use Rattle.sampled_profile.proofs.KnownLemmas.{returns_shown}

module _ (space : SpaceValue) (apart : AreApart 0 space.modules) (laid : IsLaidOut 0 space.image) where
  -- ---- the step from a state

  by_facts : (interrupted : Bool) (s t : State) (c : Context) → IsLinkByFacts space interrupted s t → IsState t → Shows (columns_of c) s → GoesTo false (step_of space c interrupted) t
  by_facts interrupted s t c known fits shows =
      let u : Undone (step_of space c interrupted) (columns_of c) t =
      facts_undone space c interrupted s t apart laid known.1.returns (asked_at interrupted s known.1.returns known.1.state.ra) shows known.0 fits known.1.said known.1.stands in
      record { next = u.next; answered = u.answered; marks = u.unmarked; shows = u.shows }

  by_function : (interrupted : Bool) (s t : State) (c : Context) → IsLinkByFunction space interrupted s t → Shows (columns_of c) s → GoesTo false (step_of space c interrupted) t
  by_function true s t c stop shows =
      let u : UndoneIn stop.stopped.lies.home (step_of space c true) (columns_of c) stop.call.caller = format_stopped space c stop.functions s stop.call apart laid stop.stopped shows in
      subst (GoesTo false (step_of space c true)) stop.caller (record { next = u.next; answered = u.answered; marks = u.unmarked; shows = u.shows })
  by_function false s t c call shows =
      let u : UndoneIn call.called.lies.home (step_of space c false) (columns_of c) call.call.caller = format_undone space c call.functions s call.call apart laid call.called shows call.state.ra in
      subst (GoesTo false (step_of space c false)) call.caller (record { next = u.next; answered = u.answered; marks = u.unmarked; shows = u.shows })

  by_signal : (interrupted : Bool) (s t : State) (c : Context) → IsLinkBySignal space interrupted s t → Shows (columns_of c) s → GoesTo true (step_of space c interrupted) t
  by_signal interrupted s t c signal shows =
      let i : Interrupted (step_of space c interrupted) t =
      signal_left space c interrupted s t apart laid signal.1.returns (asked_at interrupted s signal.1.returns signal.1.state.ra) shows signal.0 signal.1.said signal.1.stands in
      record { next = i.next; answered = i.answered; marks = i.marked; shows = i.shows }

  link_goes : (interrupted : Bool) (s t : State) (c : Context) (link : IsStackLink space interrupted s t) → IsState t → Shows (columns_of c) s → GoesTo (is_by_signal space interrupted s t link) (step_of space c interrupted) t
  link_goes interrupted s t c (inl (inl known)) fits shows = by_facts interrupted s t c known fits shows
  link_goes interrupted s t c (inl (inr function)) fits shows = by_function interrupted s t c function shows
  link_goes interrupted s t c (inr signal) fits shows = by_signal interrupted s t c signal shows

  -- ---- the walk

  -- the first of them is where it begins
  first_met : (start : Stepped) (outer : Option Stepped) (room : ℕ) → (more : List Context) × ((reached_after start outer (reached_by (caller_from space) room)).contexts ≡ start.context ∷ more)
  first_met start None room = ([], refl)
  first_met start (Some next) room = ((reached_by (caller_from space) room next).contexts, refl)

  -- those of the known states, and then more
  pub front_met : (interrupted : Bool) (s : State) (callers : List State) (c : Context) (room : ℕ) → IsKnownFront space interrupted s callers → Shows (columns_of c) s → length callers < room →
      (cs more : List Context) × (contexts_to_end space room c interrupted ≡ cs ++ more) × EachShows cs (s ∷ callers)
  front_met interrupted s callers c zero front shows less = absurd (omega arith)
  front_met interrupted s [] c (suc room) front shows less =
      let met = first_met (start_state c interrupted) (caller_in (step_of space c interrupted)) room in
      (c ∷ [], met.0, met.1, (shows, tt))
  front_met interrupted s (t ∷ callers) c (suc room) front shows less =
      let marked : Bool = is_by_signal space interrupted s t front.0 in
      let step : GoesTo marked (step_of space c interrupted) t = link_goes interrupted s t c front.0 front.1 shows in
      let rest = front_met marked t callers step.next.context room front.2 step.shows (omega arith) in
      let later : contexts_to_end space room step.next.context step.next.signal ≡ rest.0 ++ rest.1 = subst (λ (b : Bool). contexts_to_end space room step.next.context b ≡ rest.0 ++ rest.1) (sym step.marks) rest.2 in
      let goes : contexts_to_end space (suc room) c interrupted ≡ c ∷ contexts_to_end space room step.next.context step.next.signal =
      ap (λ (r : Result (Option Stepped) DeliverError). (reached_after (start_state c interrupted) (caller_in r) (reached_by (caller_from space) room)).contexts) step.answered in
      (c ∷ rest.0, rest.1, goes ∙ ap (λ (contexts : List Context). c ∷ contexts) later, (shows, rest.3))

-- ---- the walk of a sample

returns_joined : (cs more : List Context) → returns_of (cs ++ more) ≡ returns_of cs ++ returns_of more
returns_joined [] more = refl
returns_joined (c ∷ cs) more = ap (λ (returns : List ℕ). c.ra ∷ returns) (returns_joined cs more)

pub walk_front : (space : SpaceValue) (limit : ℕ) → AreApart 0 space.modules → IsLaidOut 0 space.image → (sample : SampleValue) (s : State) (callers : List State) (is : BeginsKnownFront space limit sample s callers) →
    (more : List ℕ) × (end : StackEnd) × (walk_of space limit sample ≡ front_walk space limit sample s callers is more end)
walk_front space limit apart laid sample s callers is =
    let over_copy : SpaceValue = sample_space space is.start sample.stack in
    let kept : SpaceValue = kept_space over_copy limit is.start in
    let laid_there : IsLaidOut 0 over_copy.image = with_laid_out space.image (slice_index is.start.registers column.rsp) sample.stack laid in
    let laid_kept : IsLaidOut 0 kept.image = kept_laid_out over_copy limit is.start laid_there in
    let met = front_met kept apart laid_kept true s callers is.start limit is.front is.shows is.shorter in
    let shown : returns_of met.0 ++ returns_of met.1 ≡ map (λ (state : State). state.ra) (s ∷ callers) ++ returns_of met.1 = ap (λ (returns : List ℕ). returns ++ returns_of met.1) (returns_shown met.0 (s ∷ callers) met.3) in
    let returns : returns_of (contexts_to_end kept limit is.start true) ≡ map (λ (state : State). state.ra) (s ∷ callers) ++ returns_of met.1 = ap returns_of met.2 ∙ (returns_joined met.0 met.1 ∙ shown) in (
      returns_of met.1,
      end_of kept limit is.start true,
      ap (walk_by space limit sample.stack) is.told ∙ (λ i. record { returns = returns i; end = end_of kept limit is.start true; popped = is_popped over_copy limit is.start }),
    )
