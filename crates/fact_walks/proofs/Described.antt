-- Described chains and stops begin known stacks.
use Rattle.std.proofs.Common.{inl, inr, ◌≡◌, ◌-◌, true, false, List, [], ◌∷◌, length, ◌<◌, ℕ, refl, sym, ap, subst, arith}
use Rattle.std.specs.Prelude.{IsTrue}
use Rattle.std.specs.List.{Contains, AllByRecursion}
use Rattle.std.proofs.lemmas.List.{length-map}
use Rattle.unwind_definitions.specs.State.{State, IsState}
use Rattle.unwind_definitions.specs.Function.{Function, IsFunction}
use Rattle.unwind_definitions.specs.Chain.{Call, IsChain, states_of}
use Rattle.unwind_definitions.specs.Module as described
use Rattle.unwind_laws.specs.Walked.{CanStep}
use Rattle.frame_facts.specs.StepFacts.{body_facts}
use Rattle.frame_facts_laws.proofs.FromFunctions.{body_known, body_said}
use Rattle.format_definitions.specs.Calls.{IsDescribedCall}
use Rattle.format_definitions.specs.Modules.{FormatModule, Elf, Macho, Pe, in_format, convention_of, part_of, DescribesFormat, IsUncoveredBy, LiesDescribed}
use Rattle.format_definitions.specs.Stops.{StandsIn, IsDescribedStop}
use Rattle.unwind_arch.specs.declared.x86_64.Context.{Context}
use Rattle.stack_steps.specs.Modules.{SpaceValue}
use Rattle.stack_steps.specs.SpaceViews.{process_of, formats_of}
use Rattle.stack_steps.specs.Stopped.{StartsStopped}
use Rattle.stack_steps.specs.KnownStacks.{IsOtherFormat, IsKnownLink, IsKnownStack}
use Rattle.stack_steps.proofs.Holders.{elf_from_format}
use Rattle.stack_steps.proofs.StoppedUndone.{IsElfStop, HasFacts, stop_facts}
use Rattle.stack_walks.specs.Walking.{StartsChain}
use Rattle.stack_walks.specs.KnownWalks.{StartsKnownStack}
use Rattle.stack_walks.proofs.LineShows.{call_in}
use Rattle.fact_walks.specs.Callers.{callers_of}

module _ (space : SpaceValue) (functions : List Function) (s : State) (call : Call) (state : IsState s) where
  -- what lies in a module of this format
  abbrev Lies : FormatModule → Type 0
  Lies home = Contains (formats_of space) home × IsTrue (in_format call.callee.start home) × IsFunction (convention_of home) call.callee
      × DescribesFormat space.image home (part_of home functions)

  -- ---- a call

  call_known : IsDescribedCall space.image (formats_of space) functions s call → IsKnownLink space false s call.caller
  call_known is = go is.lies.home refl
    where
      in_elf : (m : described.Module) → Lies (Elf m) → IsKnownLink space false s call.caller
      in_elf m lies =
          let can : CanStep (process_of space) functions (s.ra - 1) s call = record {
            is_function = lies.2;
            listed = is.listed;
            lies = record { home = m; known = elf_from_format space.modules m lies.0; inside = lies.1; describes = lies.3 };
            inside = is.called.inside;
            entered = is.called.entered;
            caller = is.caller;
            ends = is.ends;
          } in
          inl (
            body_facts call.callee,
            record {
              state = state;
              returns = is.called.returns;
              stands = body_known (process_of space) functions (s.ra - 1) s call can;
              said = body_said (process_of space) functions (s.ra - 1) s call can;
            },
          )

      elsewhere : IsOtherFormat is.lies.home → IsKnownLink space false s call.caller
      elsewhere other = inr (record { state = state; functions = functions; call = call; called = is; other = other; caller = refl })

      lies : Lies is.lies.home
      lies = (is.lies.known, is.lies.inside, is.lies.is_function, is.lies.describes)

      go : (home : FormatModule) → is.lies.home ≡ home → IsKnownLink space false s call.caller
      go (Elf m) same = in_elf m (subst Lies same lies)
      go (Macho m) same = elsewhere (subst IsOtherFormat (sym same) tt)
      go (Pe m) same = elsewhere (subst IsOtherFormat (sym same) tt)

  -- ---- a stop

  -- where it may be stopped, by the module's format
  abbrev Stands : FormatModule → Type 0
  Stands home = Contains (formats_of space) home × IsTrue (in_format call.callee.start home) × IsFunction (convention_of home) call.callee
      × ((d : DescribesFormat space.image home (part_of home functions)) × StandsIn space.image home (part_of home functions) d s call)

  stop_known : IsDescribedStop space.image (formats_of space) functions s call → IsKnownLink space true s call.caller
  stop_known is = go is.lies.home refl
    where
      in_elf : (m : described.Module) → Stands (Elf m) → IsKnownLink space true s call.caller
      in_elf m st =
          let stop : IsElfStop (process_of space) functions s call = record {
            is_function = st.2;
            inner = is.inner;
            listed = is.listed;
            lies = record { home = m; known = elf_from_format space.modules m st.0; inside = st.1; describes = st.3.0 };
            returns = is.returns;
            stands = st.3.1;
            caller = is.caller;
          } in
          let known : HasFacts space s call functions stop = stop_facts space s call functions stop in
          inl (known.facts, record { state = state; returns = is.returns; stands = known.stands; said = known.said })

      elsewhere : IsOtherFormat is.lies.home → IsKnownLink space true s call.caller
      elsewhere other = inr (record { functions = functions; call = call; stopped = is; other = other; caller = refl })

      stands : Stands is.lies.home
      stands = (is.lies.known, is.lies.inside, is.lies.is_function, (is.lies.describes, is.stands))

      go : (home : FormatModule) → is.lies.home ≡ home → IsKnownLink space true s call.caller
      go (Elf m) same = in_elf m (subst Stands same stands)
      go (Macho m) same = elsewhere (subst IsOtherFormat (sym same) tt)
      go (Pe m) same = elsewhere (subst IsOtherFormat (sym same) tt)

-- ---- chains

chain_known : (space : SpaceValue) (functions : List Function) (s : State) (calls : List Call) → IsChain space.image (IsUncoveredBy space.image (formats_of space)) functions s calls →
    AllByRecursion (λ (k : Call). LiesDescribed space.image (formats_of space) functions k.callee) calls → IsKnownStack space false s (callers_of calls)
chain_known space functions s [] chain lie = record { state = chain.state; ends = chain.ends }
chain_known space functions s (k ∷ calls) chain lie =
    (inl (call_known space functions s k chain.0.state (call_in space functions s k calls chain lie.0)), chain_known space functions k.caller calls chain.1 lie.1)

few_callers : (calls : List Call) (limit : ℕ) → length calls < limit → length (callers_of calls) < limit
few_callers calls limit less = rw length-map less

module _ (space : SpaceValue) (c : Context) (limit : ℕ) (functions : List Function) (s : State) where
  pub chain_starts : (calls : List Call) → StartsChain space c limit functions s calls → StartsKnownStack space c limit false s (callers_of calls)
  chain_starts calls is =
      record { stack = chain_known space functions s calls is.described.chain is.described.described; shows = is.shows; shorter = few_callers calls limit is.shorter }

  pub stop_starts : (call : Call) (calls : List Call) → IsState s → StartsStopped space c limit functions s call calls → StartsKnownStack space c limit true s (callers_of (call ∷ calls))
  stop_starts call calls state is = record {
    stack = (inl (stop_known space functions s call state is.stopped), chain_known space functions call.caller calls is.described.chain is.described.described);
    shows = is.shows;
    shorter = let short = is.shorter in few_callers (call ∷ calls) limit (omega arith);
  }

pub called_states : (s : State) (calls : List Call) → s ∷ callers_of calls ≡ states_of s calls
called_states s [] = refl
called_states s (c ∷ calls) = ap (λ (states : List State). s ∷ states) (called_states c.caller calls)
