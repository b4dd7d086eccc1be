-- What is delivered to a stack, of each of whose frames it is known how its caller's state follows and what it asks, is what the
-- definition says of these frames: it is a delivery by the rule of Rust alone.
use Rattle.std.proofs.Common.{inl, inr, ◌≡◌, ℕ, ◌+◌, ◌*◌, ◌-◌, ◌≤◌, length, Bool, true, false, List, [], ◌∷◌, ◌++◌, Option, Some, None, Result, Ok, refl, sym, ap, subst, ◌∙◌}
use Rattle.std.specs.Prelude.{IsTrue, IfSome, map}
use Rattle.std.specs.List.{cons_option, filter_map, find, before_first}
use Rattle.std.specs.Option.{option_map, option_map_or}
use Rattle.memory_image.specs.Image.{IsLaidOut}
use Rattle.unwind_definitions.specs.State.{State}
use Rattle.unwind_definitions.specs.Function.{Action, NoAction, Cleanup, Catch, Filter, Terminate}
use Rattle.unwind_definitions.specs.Delivery as described
use Rattle.unwind_laws.proofs.OneChain.{before_cons, before_now}
use Rattle.frame_facts.specs.FactDeliveries as asked
use Rattle.frame_facts.specs.FactDeliveries.{AskedFrame, AsksAt}
use Rattle.frame_facts_laws.specs.FactWalks.{DescriptionAsks}
use Rattle.frame_facts_laws.proofs.FactsAsked.{facts_ask}
use Rattle.unwind_arch.specs.declared.x86_64.Context.{Context}
use Rattle.stack_steps.specs.declared.error.DeliverError.{DeliverError}
use Rattle.stack_steps.specs.declared.asking.FrameAction.{FrameAction}
use Rattle.stack_steps.specs.Languages.{asked_by_rust, found_in, is_taken, rust_alone}
use Rattle.stack_steps.specs.Modules.{SpaceValue, AreApart}
use Rattle.stack_steps.specs.SpaceViews.{process_of}
use Rattle.stack_steps.specs.KnownStacks.{IsKnownLink, IsKnownStack}
use Rattle.stack_steps.proofs.ContextLemmas.{IsWhole}
use Rattle.stack_steps.proofs.LanguageAsks.{described_by_rust}
use Rattle.stack_walks.specs.FrameVisits.{decides}
use Rattle.stack_deliver.specs.KnownDeliveries as known
use Rattle.stack_deliver.specs.KnownDeliveries.{StartsKnownDelivery, ShowsKnownDelivery}
use Rattle.stack_deliver.specs.KnownThrows as thrown
use Rattle.stack_deliver.specs.KnownThrows.{AskingFrame, StartsKnownThrow, decided_by, delivery_taken}
use Rattle.stack_deliver.specs.Searches.{met_in_delivery}
use Rattle.stack_deliver.specs.StackDelivery.{DeliveryValue, stack_delivery}
use Rattle.stack_deliver.proofs.KnownThrown.{DeliversThrow, throw_delivered}

-- ---- frames that ask by the rule of Rust

abbrev pub asking_of : AskedFrame → AskingFrame
asking_of f = record { state = f.state; action = asked_by_rust f.action; arguments = f.arguments }

abbrev pub asking : List AskedFrame → List AskingFrame
asking fs = map asking_of fs

decides_same : (x : Action) → decides (asked_by_rust x) ≡ described.decides x
decides_same NoAction = refl
decides_same (Cleanup pad) = refl
decides_same (Catch pad) = refl
decides_same (Filter pad) = refl
decides_same Terminate = refl

pad_same : (x : Action) → thrown.cleanup_pad (asked_by_rust x) ≡ described.cleanup_pad x
pad_same NoAction = refl
pad_same (Cleanup pad) = refl
pad_same (Catch pad) = refl
pad_same (Filter pad) = refl
pad_same Terminate = refl

takes_same : (x : Action) → is_taken (asked_by_rust x) ≡ described.accepts x
takes_same NoAction = refl
takes_same (Cleanup pad) = refl
takes_same (Catch pad) = refl
takes_same (Filter pad) = refl
takes_same Terminate = refl

cleanup_same : (f : AskedFrame) → thrown.cleanup_asked (asking_of f) ≡ asked.cleanup_asked f
cleanup_same f = ap (option_map (λ (pad : ℕ). (pad, (asked.past f).sp))) (pad_same f.action)

states_same : (fs : List AskedFrame) → thrown.asking_states (asking fs) ≡ asked.asked_states fs
states_same [] = refl
states_same (f ∷ fs) = ap (λ (ss : List State). f.state ∷ ss) (states_same fs)

cleanups_same : (fs : List AskedFrame) → filter_map thrown.cleanup_asked (asking fs) ≡ filter_map asked.cleanup_asked fs
cleanups_same [] = refl
cleanups_same (f ∷ fs) = ap (λ (o : Option (ℕ × ℕ)). cons_option o (filter_map thrown.cleanup_asked (asking fs))) (cleanup_same f) ∙ ap (cons_option (asked.cleanup_asked f)) (cleanups_same fs)

found_same : (fs : List AskedFrame) → find thrown.frame_decides (asking fs) ≡ option_map asking_of (find asked.frame_decides fs)
found_same [] = refl
found_same (f ∷ fs) = go (asked.frame_decides f) refl (found_same fs)
  where
    go : (b : Bool) → asked.frame_decides f ≡ b → find thrown.frame_decides (asking fs) ≡ option_map asking_of (find asked.frame_decides fs) → find thrown.frame_decides (asking (f ∷ fs)) ≡ option_map asking_of (find asked.frame_decides (f ∷ fs))
    go true is later = rw (decides_same f.action, is) refl
    go false is later = rw (decides_same f.action, is) later

before_same : (fs : List AskedFrame) → before_first thrown.frame_decides (asking fs) ≡ asking (before_first asked.frame_decides fs)
before_same [] = refl
before_same (f ∷ fs) = go (asked.frame_decides f) refl (before_same fs)
  where
    go : (b : Bool) → asked.frame_decides f ≡ b → before_first thrown.frame_decides (asking fs) ≡ asking (before_first asked.frame_decides fs) → before_first thrown.frame_decides (asking (f ∷ fs)) ≡ asking (before_first asked.frame_decides (f ∷ fs))
    go true is later = before_now thrown.frame_decides (asking_of f) (asking fs) (decides_same f.action ∙ is) ∙ sym (ap asking (before_now asked.frame_decides f fs is))
    go false is later =
        before_cons thrown.frame_decides (asking_of f) (asking fs) (decides_same f.action ∙ is) ∙ ap (λ (gs : List AskingFrame). asking_of f ∷ gs) later
        ∙ sym (ap asking (before_cons asked.frame_decides f fs is))

-- ---- what is delivered to them

made : List State → List (ℕ × ℕ) → Option described.Landing → described.Outcome → described.Delivery
made visited trail landing outcome = record { visited = visited; trail = trail; landing = landing; outcome = outcome }

decided_same : (exception : ℕ) (inside : List AskedFrame) (f : AskedFrame) (x : Action) → decided_by exception (asking inside) (asking_of f) (asked_by_rust x) ≡ asked.delivery_decided_by exception inside f x
decided_same exception inside f x = by_action x
  where
    states : thrown.asking_states (asking inside) ++ f.state ∷ [] ≡ asked.asked_states inside ++ f.state ∷ []
    states = ap (λ (ss : List State). ss ++ f.state ∷ []) (states_same inside)

    ends : described.delivery_without_handler (thrown.asking_states (asking inside) ++ f.state ∷ []) described.FatalPhase1 ≡ described.delivery_without_handler (asked.asked_states inside ++ f.state ∷ []) described.FatalPhase1
    ends = ap (λ (ss : List State). described.delivery_without_handler ss described.FatalPhase1) states

    lands : (pad : ℕ) → delivery_taken (asking inside) (asking_of f) (Some (thrown.lands_at exception (asked.past f) pad 0)) ≡ asked.delivery_to_handler exception inside f pad
    lands pad = rw (states_same inside, cleanups_same inside) refl

    by_action : (y : Action) → decided_by exception (asking inside) (asking_of f) (asked_by_rust y) ≡ asked.delivery_decided_by exception inside f y
    by_action NoAction = ends
    by_action (Cleanup pad) = ends
    by_action (Catch pad) = lands pad
    by_action (Filter pad) = lands pad
    by_action Terminate = ends

delivered_same : (exception : ℕ) (states : List State) (fs : List AskedFrame) → thrown.delivery_to exception states (asking fs) ≡ asked.delivery_to exception states fs
delivered_same exception states fs = rw (found_same fs, before_same fs) (go (find asked.frame_decides fs))
  where
    none : described.Delivery
    none = described.delivery_without_handler states described.EndOfStack

    go : (o : Option AskedFrame) →
        option_map_or (λ (g : AskingFrame). decided_by exception (asking (before_first asked.frame_decides fs)) g g.action) (option_map asking_of o) none
        ≡ option_map_or (λ (g : AskedFrame). asked.delivery_decided_by exception (before_first asked.frame_decides fs) g g.action) o none
    go None = refl
    go (Some f) = decided_same exception (before_first asked.frame_decides fs) f f.action

-- ---- a known delivery is one by the rule of Rust alone

module _ (space : SpaceValue) where
  asks_there : (s t : State) (link : IsKnownLink space false s t) (x : Action) (arguments : ℕ) → known.AsksThere space s t link x arguments → thrown.AsksThere rust_alone space s t link (asked_by_rust x) arguments
  asks_there s t (inl facts) x arguments asks =
      let is : DescriptionAsks (process_of space) (s.ra - 1) facts.0 facts.1.said x = facts_ask (process_of space) (s.ra - 1) facts.0 facts.1.said x arguments asks in
      (described_by_rust space.image (s.ra - 1) (found_in facts.1.said) is.routine x is.personality is.silent is.asks, asks.size)
  asks_there s t (inr described) x arguments asks = (ap asked_by_rust asks.0, refl, asks.1)

  are_asked : (s : State) (callers : List State) (stack : IsKnownStack space false s callers) (fs : List AskedFrame) → known.AreAsked space s callers stack fs → thrown.AreAsked rust_alone space s callers stack (asking fs)
  are_asked s [] stack fs asks = ap asking asks
  are_asked s (t ∷ callers) stack [] asks = absurd asks
  are_asked s (t ∷ callers) (inl link, outer) (f ∷ fs) asks = (asks.0, asks_there s t link f.action f.arguments asks.1, are_asked t callers outer fs asks.2)
  are_asked s (t ∷ callers) (inr signal, outer) (f ∷ fs) asks = absurd asks

  may_go_on : (s t : State) → known.MayGoOnAt space s t → thrown.MayGoOnAt rust_alone space s t
  may_go_on s t on = record { link = on.link; arguments = on.arguments; silent = asks_there s t on.link NoAction on.arguments on.silent }

  resumes_by : (resumes : List (ℕ × ℕ)) (f : AskedFrame) (t : State) → known.ResumesBy space resumes f t → thrown.ResumesBy rust_alone space resumes (asking_of f) t
  resumes_by resumes f t goes = rw (pad_same f.action) (go (described.cleanup_pad f.action) goes)
    where
      go : (o : Option ℕ) → IfSome o (λ pad. (ret : ℕ) × (described.resume_of resumes pad ≡ Some ret) × known.MayGoOnAt space (record (asked.past f) { ra = ret }) t) →
          IfSome o (λ pad. (ret : ℕ) × (described.resume_of resumes pad ≡ Some ret) × thrown.MayGoOnAt rust_alone space (record (asked.past f) { ra = ret }) t)
      go None goes = tt
      go (Some pad) goes = (goes.0, goes.1, may_go_on (record (asked.past f) { ra = goes.0 }) t goes.2)

  each_resumes : (resumes : List (ℕ × ℕ)) (callers : List State) (fs : List AskedFrame) → known.EachResumesBy space resumes callers fs → thrown.EachResumesBy rust_alone space resumes callers (asking fs)
  each_resumes resumes callers [] each = tt
  each_resumes resumes [] (f ∷ fs) each = each
  each_resumes resumes (t ∷ callers) (f ∷ fs) each = (resumes_by resumes f t each.0, each_resumes resumes callers fs each.1)

  found_back : (o : Option AskedFrame) (g : AskingFrame) → option_map asking_of o ≡ Some g → (f : AskedFrame) × (o ≡ Some f) × (asking_of f ≡ g)
  found_back None g is = absurd cc
  found_back (Some f) g is = (f, refl, cc)

  starts_thrown : (c : Context) (resumes : List (ℕ × ℕ)) (limit : ℕ) (s : State) (callers : List State) (fs : List AskedFrame) → StartsKnownDelivery space c resumes limit s callers fs → StartsKnownThrow rust_alone space c resumes limit s callers (asking fs)
  starts_thrown c resumes limit s callers fs is = record {
    starts = is.starts;
    asked = are_asked s callers is.starts.stack fs is.asked;
    resumed = resumed;
  }
    where
      true_is : (b : Bool) → b ≡ true → IsTrue b
      true_is true e = refl
      true_is false e = absurd cc

      resumed : (g : AskingFrame) → find thrown.frame_decides (asking fs) ≡ Some g → is_taken g.action ≡ true → thrown.EachResumesBy rust_alone space resumes callers (before_first thrown.frame_decides (asking fs))
      resumed g found takes =
          let r = found_back (find asked.frame_decides fs) g (sym (found_same fs) ∙ found) in
          let f : AskedFrame = r.0 in
          let accepts : described.accepts f.action ≡ true = sym (takes_same f.action) ∙ ap (λ (h : AskingFrame). is_taken h.action) r.2 ∙ takes in
          rw (before_same fs) (each_resumes resumes callers (before_first asked.frame_decides fs) (is.resumed f r.1 (true_is (described.accepts f.action) accepts)))

-- ---- the delivery

-- a delivery that is what the definition says, and how many contexts it meets
pub record DeliversKnown (exception : ℕ) (s : State) (callers : List State) (frames : List AskedFrame) (r : Result DeliveryValue DeliverError) (met : ℕ) : Type 0 where
  pub delivered : DeliveryValue
  pub is : r ≡ Ok delivered
  pub shows : ShowsKnownDelivery delivered exception s callers frames
  pub few : met ≤ 2 * length delivered.visited + length delivered.trail

-- What is delivered is what the definition says.
pub known_delivered : (space : SpaceValue) (c : Context) (exception : ℕ) (resumes : List (ℕ × ℕ)) (limit : ℕ) (s : State) (callers : List State) (frames : List AskedFrame) → AreApart 0 space.modules → IsLaidOut 0 space.image → IsWhole c →
    StartsKnownDelivery space c resumes limit s callers frames → DeliversKnown exception s callers frames (stack_delivery space c exception resumes limit) (met_in_delivery space c exception resumes limit)
known_delivered space c exception resumes limit s callers frames apart laid whole is =
    let d : DeliversThrow exception s callers (asking frames) (stack_delivery space c exception resumes limit) (met_in_delivery space c exception resumes limit) =
    throw_delivered rust_alone space c exception resumes limit s callers (asking frames) apart laid whole (starts_thrown space c resumes limit s callers frames is) in
    record {
      delivered = d.delivered;
      is = d.is;
      shows = d.shows ∙ delivered_same exception (s ∷ callers) frames;
      few = d.few;
    }
