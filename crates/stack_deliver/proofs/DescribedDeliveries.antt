-- Deliveries to described chains of calls are deliveries to known stacks.
use Rattle.std.proofs.Common.{inl, inr, ◌≡◌, ◌≢◌, ℕ, ◌-◌, ◌^◌, ◌<◌, Bool, true, false, List, [], ◌∷◌, Option, Some, None, refl, sym, ap, subst, ◌∙◌, arith}
use Rattle.std.specs.Prelude.{IsTrue, IfSome, map}
use Rattle.std.specs.List.{Contains, AllByRecursion, find, before_first}
use Rattle.std.proofs.lemmas.List.{length-map}
use Rattle.memory_image.specs.Image.{Span, IsLaidOut}
use Rattle.unwind_definitions.specs.Caller.{◌+w◌}
use Rattle.unwind_definitions.specs.State.{CalleeSaved, RBX, RBP, R12, R13, R14, R15, State, IsState, Shows, column_of, value_of}
use Rattle.unwind_definitions.specs.Prologue.{steps_of}
use Rattle.unwind_definitions.specs.Entered.{IsEntered}
use Rattle.unwind_definitions.specs.Function.{Function, IsFunction, Action, NoAction, Cleanup, in_body, action_at}
use Rattle.unwind_definitions.specs.Module.{Module}
use Rattle.unwind_definitions.specs.Chain.{Call, IsChain, states_of}
use Rattle.unwind_definitions.specs.Delivery.{Frame, frames_of, action_of_frame, is_deciding, deciding_frame, inner_frames, accepts, cleanup_pad, resume_of, GoesOn, Resumes, delivery_of}
use Rattle.unwind_laws.specs.Walked.{CanStep}
use Rattle.unwind_laws.proofs.OneChain.{before_cons, before_now}
use Rattle.unwind_laws.proofs.RowFacts.{by_register}
use Rattle.frame_facts.specs.StepFacts.{body_facts}
use Rattle.frame_facts.specs.FactDeliveries.{AskedFrame, past, frame_decides, asked_frame_of, asked_frames_of, delivery_to}
use Rattle.frame_facts_laws.proofs.FromFunctions.{body_known, body_said, body_asks}
use Rattle.frame_facts_laws.proofs.FactsAsked.{frames_fit, same_delivered}
use Rattle.format_definitions.specs.Calls.{IsDescribedCall}
use Rattle.format_definitions.specs.Modules.{FormatModule, Elf, Macho, Pe, in_format, convention_of, part_of, DescribesFormat, IsUncoveredBy, LiesDescribed}
use Rattle.format_laws.proofs.Parts.{valid_described}
use Rattle.unwind_arch.specs.declared.x86_64.Context.{Context}
use Rattle.unwind_arch.specs.ContextViews.{columns_of}
use Rattle.stack_steps.specs.Modules.{SpaceValue, AreApart}
use Rattle.stack_steps.specs.SpaceViews.{process_of, formats_of}
use Rattle.stack_steps.specs.KnownStacks.{IsOtherFormat, IsKnownLink, IsKnownStack}
use Rattle.stack_steps.proofs.Holders.{elf_from_format}
use Rattle.stack_steps.proofs.MetCalls.{returns_low}
use Rattle.stack_walks.proofs.LineShows.{call_in}
use Rattle.stack_deliver.specs.Delivering.{StartsValidChain}
use Rattle.stack_deliver.specs.KnownDeliveries.{AsksThere, AreAsked, MayGoOnAt, ResumesBy, EachResumesBy, StartsKnownDelivery}
use Rattle.stack_deliver.proofs.FrameVisits.{returning}

-- the states of the callers of calls
abbrev pub callers_of : List Call → List State
callers_of calls = map (λ (k : Call). k.caller) calls

called_states : (s : State) (calls : List Call) → s ∷ callers_of calls ≡ states_of s calls
called_states s [] = refl
called_states s (k ∷ calls) = ap (λ (states : List State). s ∷ states) (called_states k.caller calls)

-- registers that show a state
abbrev registers_of : State → Context
registers_of s = record { registers = 0 ∷ 0 ∷ 0 ∷ s.rbx ∷ 0 ∷ 0 ∷ s.rbp ∷ s.sp ∷ 0 ∷ 0 ∷ 0 ∷ 0 ∷ s.r12 ∷ s.r13 ∷ s.r14 ∷ s.r15 ∷ []; ra = s.ra; mcxsr = 0; fcw = 0 }

registers_show : (s : State) → Shows (columns_of (registers_of s)) s
registers_show s = record { ra = refl; sp = refl; saved = λ r. by_register (λ r. columns_of (registers_of s) (column_of r) ≡ Some (value_of r s)) refl refl refl refl refl refl r }

-- ---- what a described call asks

-- a state and its caller's, with what is asked there
record AskedLink (space : SpaceValue) (s t : State) (action : Action) : Type 0 where
  link : IsKnownLink space false s t
  asks : AsksThere space s t link action 0

module _ (space : SpaceValue) (functions : List Function) (s : State) (call : Call) (state : IsState s) where
  -- what lies in a module of this format
  abbrev Lies : FormatModule → Type 0
  Lies home = Contains (formats_of space) home × IsTrue (in_format call.callee.start home) × IsFunction (convention_of home) call.callee
      × DescribesFormat space.image home (part_of home functions)

  abbrev Asked : Type 0
  Asked = AskedLink space s call.caller (action_at call.callee (s.ra - 1))

  call_asked : IsDescribedCall space.image (formats_of space) functions s call → Asked
  call_asked is = go is.lies.home refl
    where
      in_elf : (m : Module) → Lies (Elf m) → Asked
      in_elf m lies =
          let can : CanStep (process_of space) functions (s.ra - 1) s call = record {
            is_function = lies.2;
            listed = is.listed;
            lies = record { home = m; known = elf_from_format space.modules m lies.0; inside = lies.1; describes = lies.3 };
            inside = is.called.inside;
            entered = is.called.entered;
            caller = is.caller;
            ends = is.ends;
          } in
          record {
            link = inl (
              body_facts call.callee,
              record {
                state = state;
                returns = is.called.returns;
                stands = body_known (process_of space) functions (s.ra - 1) s call can;
                said = body_said (process_of space) functions (s.ra - 1) s call can;
              },
            );
            asks = body_asks (process_of space) functions (s.ra - 1) s call can;
          }

      elsewhere : IsOtherFormat is.lies.home → Asked
      elsewhere other = record { link = inr (record { state = state; functions = functions; call = call; called = is; other = other; caller = refl }); asks = (refl, refl) }

      lies : Lies is.lies.home
      lies = (is.lies.known, is.lies.inside, is.lies.is_function, is.lies.describes)

      go : (home : FormatModule) → is.lies.home ≡ home → Asked
      go (Elf m) same = in_elf m (subst Lies same lies)
      go (Macho m) same = elsewhere (subst IsOtherFormat (sym same) tt)
      go (Pe m) same = elsewhere (subst IsOtherFormat (sym same) tt)

-- ---- where it goes on after a cleanup

kept_value : (s : State) (ret : ℕ) (r : CalleeSaved) → value_of r (returning s ret) ≡ value_of r s
kept_value s ret RBX = refl
kept_value s ret RBP = refl
kept_value s ret R12 = refl
kept_value s ret R13 = refl
kept_value s ret R14 = refl
kept_value s ret R15 = refl

state_at : (s : State) (ret : ℕ) → IsState s → ret < 2 ^ 64 → IsState (returning s ret)
state_at s ret is low = record { ra = low; sp = is.sp; registers = λ r. subst (λ (n : ℕ). n < 2 ^ 64) (sym (kept_value s ret r)) (is.registers r) }

entered_at : (image : List Span) (s : State) (k : Call) (ret : ℕ) → IsEntered image k.callee.outermost (steps_of k.callee.prologue) k.caller s → IsEntered image k.callee.outermost (steps_of k.callee.prologue) k.caller (returning s ret)
entered_at image s k ret entered = record { room = entered.room; returns = entered.returns; leaves = entered.leaves; stack = entered.stack; keeps = λ r none. kept_value s ret r ∙ entered.keeps r none }

call_at : (space : SpaceValue) (functions : List Function) (s : State) (k : Call) (ret : ℕ) → IsDescribedCall space.image (formats_of space) functions s k → ret ≢ 0 → IsTrue (in_body k.callee (ret - 1)) → IsDescribedCall space.image (formats_of space) functions (returning s ret) k
call_at space functions s k ret is returns inside = record {
  listed = is.listed;
  lies = is.lies;
  called = record { returns = returns; inside = inside; entered = entered_at space.image s k ret is.called.entered };
  caller = is.caller;
  ends = is.ends;
}

-- past no arguments the stack pointer is the same
past_none : (sp : ℕ) → sp < 2 ^ 64 → sp +w 0 ≡ sp
past_none sp low = omega arith

module _ (space : SpaceValue) (functions : List Function) (apart : AreApart 0 space.modules) (laid : IsLaidOut 0 space.image) (resumes : List (ℕ × ℕ)) where
  goes_on : (s : State) (k : Call) (pad ret : ℕ) → IsState s → IsDescribedCall space.image (formats_of space) functions s k → action_at k.callee (s.ra - 1) ≡ Cleanup pad → ret ≢ 0 → IsTrue (in_body k.callee (ret - 1)) → action_at k.callee (ret - 1) ≡ NoAction →
      MayGoOnAt space (record (past (asked_frame_of (record { state = s; function = k.callee }))) { ra = ret }) k.caller
  goes_on s k pad ret state is asks returns inside silent =
      let there : State = returning s ret in
      let again = call_at space functions s k ret is returns inside in
      let low : ret < 2 ^ 64 = returns_low space (registers_of there) functions there k apart laid again in
      let known : AskedLink space there k.caller (action_at k.callee (ret - 1)) = call_asked space functions there k (state_at s ret state low) again in
      let quiet : AsksThere space there k.caller known.link NoAction 0 = subst (λ (x : Action). AsksThere space there k.caller known.link x 0) silent known.asks in
      let goes : MayGoOnAt space there k.caller = record { link = known.link; arguments = 0; silent = quiet } in
      subst (λ (n : ℕ). MayGoOnAt space (record there { sp = n }) k.caller) (sym (past_none s.sp state.sp)) goes

  resumes_there : (s : State) (k : Call) → IsState s → IsDescribedCall space.image (formats_of space) functions s k → Resumes resumes (record { state = s; function = k.callee }) → ResumesBy space resumes (asked_frame_of (record { state = s; function = k.callee })) k.caller
  resumes_there s k state is resume = go (action_at k.callee (s.ra - 1)) refl resume
    where
      at : (pad : ℕ) → action_at k.callee (s.ra - 1) ≡ Cleanup pad → (o : Option ℕ) → resume_of resumes pad ≡ o → GoesOn k.callee o →
          (ret : ℕ) × (resume_of resumes pad ≡ Some ret) × MayGoOnAt space (record (past (asked_frame_of (record { state = s; function = k.callee }))) { ra = ret }) k.caller
      at pad asks None found on = absurd on
      at pad asks (Some ret) found on = (ret, found, goes_on s k pad ret state is asks on.0 on.1 on.2)

      none : (x : Action) → action_at k.callee (s.ra - 1) ≡ x → cleanup_pad x ≡ None → ResumesBy space resumes (asked_frame_of (record { state = s; function = k.callee })) k.caller
      none x acts silent = subst (λ (o : Option ℕ). IfSome o (λ pad. (ret : ℕ) × (resume_of resumes pad ≡ Some ret) × MayGoOnAt space (record (past (asked_frame_of (record { state = s; function = k.callee }))) { ra = ret }) k.caller)) (sym (ap cleanup_pad acts ∙ silent)) tt

      go : (x : Action) → action_at k.callee (s.ra - 1) ≡ x → IfSome (cleanup_pad (action_at k.callee (s.ra - 1))) (λ pad. GoesOn k.callee (resume_of resumes pad)) → ResumesBy space resumes (asked_frame_of (record { state = s; function = k.callee })) k.caller
      go (Cleanup pad) acts resume =
          let on : GoesOn k.callee (resume_of resumes pad) = subst (λ (x : Action). IfSome (cleanup_pad x) (λ q. GoesOn k.callee (resume_of resumes q))) acts resume in
          subst (λ (x : Action). IfSome (cleanup_pad x) (λ q. (ret : ℕ) × (resume_of resumes q ≡ Some ret) × MayGoOnAt space (record (past (asked_frame_of (record { state = s; function = k.callee }))) { ra = ret }) k.caller)) (sym acts)
          (at pad acts (resume_of resumes pad) refl on)
      go x acts resume = none x acts refl

  -- ---- chains

  abbrev Chain : State → List Call → Type 0
  Chain s calls = IsChain space.image (IsUncoveredBy space.image (formats_of space)) functions s calls

  abbrev Lie : List Call → Type 0
  Lie calls = AllByRecursion (λ (k : Call). LiesDescribed space.image (formats_of space) functions k.callee) calls

  chain_asked : (s : State) (calls : List Call) → Chain s calls → Lie calls → (stack : IsKnownStack space false s (callers_of calls)) × AreAsked space s (callers_of calls) stack (asked_frames_of (frames_of s calls))
  chain_asked s [] chain lie = (record { state = chain.state; ends = chain.ends }, refl)
  chain_asked s (k ∷ calls) chain lie =
      let known : AskedLink space s k.caller (action_at k.callee (s.ra - 1)) = call_asked space functions s k chain.0.state (call_in space functions s k calls chain lie.0) in
      let rest = chain_asked k.caller calls chain.1 lie.1 in
      ((inl known.link, rest.0), (refl, known.asks, rest.1))

  each_resumes : (s : State) (calls : List Call) → Chain s calls → Lie calls → AllByRecursion (Resumes resumes) (inner_frames s calls) → EachResumesBy space resumes (callers_of calls) (before_first frame_decides (asked_frames_of (frames_of s calls)))
  each_resumes s [] chain lie resume = tt
  each_resumes s (k ∷ calls) chain lie resume = go (is_deciding (record { state = s; function = k.callee })) refl (λ later. each_resumes k.caller calls chain.1 lie.1 later)
    where
      go : (b : Bool) → is_deciding (record { state = s; function = k.callee }) ≡ b → (AllByRecursion (Resumes resumes) (inner_frames k.caller calls) → EachResumesBy space resumes (callers_of calls) (before_first frame_decides (asked_frames_of (frames_of k.caller calls)))) →
          EachResumesBy space resumes (callers_of (k ∷ calls)) (before_first frame_decides (asked_frames_of (frames_of s (k ∷ calls))))
      go true decides rest = subst (λ (fs : List AskedFrame). EachResumesBy space resumes (callers_of (k ∷ calls)) fs) (sym (before_now frame_decides (asked_frame_of (record { state = s; function = k.callee })) (asked_frames_of (frames_of k.caller calls)) decides)) tt
      go false decides rest =
          let inner : AllByRecursion (Resumes resumes) (record { state = s; function = k.callee } ∷ inner_frames k.caller calls) = subst (AllByRecursion (Resumes resumes)) (before_cons is_deciding (record { state = s; function = k.callee }) (frames_of k.caller calls) decides) resume in
          subst (λ (fs : List AskedFrame). EachResumesBy space resumes (callers_of (k ∷ calls)) fs) (sym (before_cons frame_decides (asked_frame_of (record { state = s; function = k.callee })) (asked_frames_of (frames_of k.caller calls)) decides))
          (resumes_there s k chain.0.state (call_in space functions s k calls chain lie.0) inner.0, rest inner.1)

-- a frame that asks so and is found is one of the calls' frames
record IsAskedBy (f : AskedFrame) (o : Option Frame) : Type 0 where
  frame : Frame
  found : o ≡ Some frame
  same : f.action ≡ action_of_frame frame

found_back : (fs : List Frame) (f : AskedFrame) → find frame_decides (asked_frames_of fs) ≡ Some f → IsAskedBy f (find is_deciding fs)
found_back [] f found = absurd cc
found_back (g ∷ fs) f found = go (is_deciding g) refl (λ later. found_back fs f later)
  where
    some_asked : (a b : AskedFrame) → ◌≡◌ {A = Option AskedFrame} (Some a) (Some b) → a ≡ b
    some_asked a b e = cc

    go : (b : Bool) → is_deciding g ≡ b → (find frame_decides (asked_frames_of fs) ≡ Some f → IsAskedBy f (find is_deciding fs)) → IsAskedBy f (find is_deciding (g ∷ fs))
    go true decides rest =
        let here : find frame_decides (asked_frames_of (g ∷ fs)) ≡ Some (asked_frame_of g) = rw decides refl in
        let at : find is_deciding (g ∷ fs) ≡ Some g = rw decides refl in
        record { frame = g; found = at; same = ap (λ (a : AskedFrame). a.action) (sym (some_asked (asked_frame_of g) f (sym here ∙ found))) }
    go false decides rest =
        let later : find frame_decides (asked_frames_of (g ∷ fs)) ≡ find frame_decides (asked_frames_of fs) = rw decides refl in
        let beyond : find is_deciding (g ∷ fs) ≡ find is_deciding fs = rw decides refl in
        let by : IsAskedBy f (find is_deciding fs) = rest (sym later ∙ found) in
        record { frame = by.frame; found = beyond ∙ by.found; same = by.same }

module _ (space : SpaceValue) (c : Context) (resumes : List (ℕ × ℕ)) (limit : ℕ) (functions : List Function) (s : State) (calls : List Call) (apart : AreApart 0 space.modules) (laid : IsLaidOut 0 space.image) where
  pub delivery_starts : StartsValidChain space c resumes limit functions s calls → StartsKnownDelivery space c resumes limit s (callers_of calls) (asked_frames_of (frames_of s calls))
  delivery_starts is =
      let described = valid_described space.image (formats_of space) (columns_of c) resumes functions s calls is.valid in
      let lie = described.described in
      let asked = chain_asked space functions apart laid resumes s calls is.valid.chain lie in
      record {
        starts = record { stack = asked.0; shows = is.valid.shows; shorter = let short = is.shorter in rw length-map short };
        asked = asked.1;
        resumed = λ f found accepted.
            let by : IsAskedBy f (deciding_frame s calls) = found_back (frames_of s calls) f found in
            each_resumes space functions apart laid resumes s calls is.valid.chain lie
            (is.valid.resumed by.frame by.found (subst (λ (x : Action). IsTrue (accepts x)) by.same accepted));
      }

-- what is delivered to the frames is what is delivered to the chain
pub delivered_alike : (space : SpaceValue) (c : Context) (resumes : List (ℕ × ℕ)) (limit : ℕ) (functions : List Function) (s : State) (calls : List Call) (exception : ℕ) → StartsValidChain space c resumes limit functions s calls →
    delivery_to exception (s ∷ callers_of calls) (asked_frames_of (frames_of s calls)) ≡ delivery_of exception s calls
delivered_alike space c resumes limit functions s calls exception is =
    ap (λ (states : List State). delivery_to exception states (asked_frames_of (frames_of s calls))) (called_states s calls)
    ∙ same_delivered exception s calls (frames_fit space.image (IsUncoveredBy space.image (formats_of space)) functions s calls is.valid.chain)
