-- What the descriptions ask that say facts, and that a chain of calls asks the same as one of facts.
use Rattle.std.proofs.Common.{◌≡◌, ℕ, ◌^◌, ◌<◌, Bool, true, false, List, [], ◌∷◌, ◌++◌, Option, Some, None, Result, Ok, refl, sym, ap, subst, ◌∙◌, arith}
use Rattle.std.specs.List.{AllByRecursion, find, before_first, filter_map, cons_option}
use Rattle.std.specs.Option.{option_map, option_map_or}
use Rattle.memory_image.specs.Image.{Span}
use Rattle.unwind_definitions.specs.Pointers.{Bases}
use Rattle.unwind_definitions.specs.Caller.{◌+w◌, StepFault}
use Rattle.unwind_definitions.specs.State.{State}
use Rattle.unwind_definitions.specs.Function.{Function, Site, Action, NoAction, Cleanup, Catch, Filter, Terminate, action_at}
use Rattle.unwind_definitions.specs.LanguageTable.{input_at}
use Rattle.unwind_definitions.specs.Module.{Module, Process, bases_of}
use Rattle.unwind_definitions.specs.Chain.{Call, IsChain, states_of}
use Rattle.unwind_definitions.specs.Delivery.{Frame, Delivery, frames_of, action_of_frame, is_deciding, cleanup_pad, cleanup_of, resume_of, states_in, decided_by, delivery_of, landing_at, delivery_without_handler, delivery_at_handler, Installed, EndOfStack, FatalPhase1}
use Rattle.unwind_laws.specs.Found.{FdeRead, AsksAs}
use Rattle.unwind_laws.proofs.Signal.{fde_read}
use Rattle.unwind_laws.proofs.Asked.{sites_asked}
use Rattle.unwind_laws.proofs.OneChain.{before_cons, before_now}
use Rattle.frame_facts.specs.Facts.{Facts}
use Rattle.frame_facts.specs.FactTables.{HasTables, SaysFactsAt, AreSaidAt}
use Rattle.frame_facts.specs.FactChains.{FactFrame, IsFactChain}
use Rattle.frame_facts.specs.FactDeliveries.{code_with_sites, AsksAt, AskedFrame, past, frame_decides, cleanup_asked, asked_states, delivery_to_handler, delivery_decided_by, delivery_to, GoesOnAt, ResumesIn, asked_frame_of, asked_frames_of}
use Rattle.frame_facts_laws.specs.FactWalks.{DescriptionAsks}

module _ (p : Process) where
  -- The description that says facts asks what its call sites do.
  pub facts_ask : (a : ℕ) (facts : Facts) (said : AreSaidAt p a facts) (x : Action) (arguments : ℕ) → AsksAt p a facts said x arguments → DescriptionAsks p a facts said x
  facts_ask a facts said x arguments asks =
      let m : Module = said.home in
      let says : SaysFactsAt p.image m a facts = said.says in
      let tables : HasTables p.image m = says.tables in
      let bases : Bases = bases_of m tables.frame in
      let f : Function = code_with_sites says.fde asks.sites in
      let read : FdeRead bases says.fde = fde_read bases (input_at p.image tables.frame) 0 tables.entries says.fde tables.frames.reads says.listed in
      let known : AsksAs p.image bases f says.fde = sites_asked p.image bases f says.fde read refl refl asks.has.each asks.has.leads asks.has.personality in
      record {
        routine = known.routine;
        personality = known.personality;
        silent = λ none. asks.asked ∙ ap (λ (o : Option (List Site)). action_at (code_with_sites says.fde o) a) (known.silent none);
        asks = known.action a ∙ ap ok (sym asks.asked);
      }
    where
      ok : Action → Result Action StepFault
      ok x = Ok x

  -- Where a frame goes on after its cleanup, its state and the outer frames are a chain of facts again.
  pub goes_on : (f : AskedFrame) (t : State) (frames : List FactFrame) (ret : ℕ) (on : GoesOnAt p f t ret) → IsFactChain p false t frames →
      IsFactChain p false (record (past f) { ra = ret }) (record { facts = on.facts; caller = t } ∷ frames)
  goes_on f t frames ret on chain = (record { state = on.state; returns = on.nonzero; stands = on.stands; said = on.said }, chain)

  -- The same at the return address that a resume table has for its landing pad.
  pub goes_on_by_table : (resumes : List (ℕ × ℕ)) (f : AskedFrame) (t : State) (frames : List FactFrame) (pad : ℕ) → cleanup_pad f.action ≡ Some pad → ResumesIn p resumes f t → IsFactChain p false t frames →
      (ret : ℕ) × (resume_of resumes pad ≡ Some ret) × ((facts : Facts) × IsFactChain p false (record (past f) { ra = ret }) (record { facts = facts; caller = t } ∷ frames))
  goes_on_by_table resumes f t frames pad e listed chain =
      let at : (ret : ℕ) × (resume_of resumes pad ≡ Some ret) × GoesOnAt p f t ret = rw e at listed in
      (at.0, at.1, (at.2.facts, goes_on f t frames at.0 at.2 chain))

-- ---- the frames of calls ask the same

-- the stack pointer past no arguments is the same
past_none : (sp : ℕ) → sp < 2 ^ 64 → sp +w 0 ≡ sp
past_none sp low = omega arith

abbrev HasWord : Frame → Type 0
HasWord f = f.state.sp < 2 ^ 64

same_find : (fs : List Frame) → find frame_decides (asked_frames_of fs) ≡ option_map asked_frame_of (find is_deciding fs)
same_find [] = refl
same_find (f ∷ fs) = go (is_deciding f) refl (same_find fs)
  where
    go : (b : Bool) → is_deciding f ≡ b → find frame_decides (asked_frames_of fs) ≡ option_map asked_frame_of (find is_deciding fs) → find frame_decides (asked_frames_of (f ∷ fs)) ≡ option_map asked_frame_of (find is_deciding (f ∷ fs))
    go true e ih = rw e refl
    go false e ih = rw e ih

same_before : (fs : List Frame) → before_first frame_decides (asked_frames_of fs) ≡ asked_frames_of (before_first is_deciding fs)
same_before [] = refl
same_before (f ∷ fs) = go (is_deciding f) refl (same_before fs)
  where
    go : (b : Bool) → is_deciding f ≡ b → before_first frame_decides (asked_frames_of fs) ≡ asked_frames_of (before_first is_deciding fs) → before_first frame_decides (asked_frames_of (f ∷ fs)) ≡ asked_frames_of (before_first is_deciding (f ∷ fs))
    go true e ih = before_now frame_decides (asked_frame_of f) (asked_frames_of fs) e ∙ sym (ap asked_frames_of (before_now is_deciding f fs e))
    go false e ih = before_cons frame_decides (asked_frame_of f) (asked_frames_of fs) e ∙ ap (λ (l : List AskedFrame). asked_frame_of f ∷ l) ih ∙ sym (ap asked_frames_of (before_cons is_deciding f fs e))

same_states : (fs : List Frame) → asked_states (asked_frames_of fs) ≡ states_in fs
same_states [] = refl
same_states (f ∷ fs) = ap (λ (l : List State). f.state ∷ l) (same_states fs)

same_cleanup : (f : Frame) → HasWord f → cleanup_asked (asked_frame_of f) ≡ cleanup_of f
same_cleanup f low = go (cleanup_pad (action_of_frame f))
  where
    go : (o : Option ℕ) → option_map {U = ℕ × ℕ} (λ pad. (pad, f.state.sp +w 0)) o ≡ option_map {U = ℕ × ℕ} (λ pad. (pad, f.state.sp)) o
    go None = refl
    go (Some pad) = ap (λ (n : ℕ). some (pad, n)) (past_none f.state.sp low)
      where
        some : ℕ × ℕ → Option (ℕ × ℕ)
        some x = Some x

same_trail : (fs : List Frame) → AllByRecursion HasWord fs → filter_map cleanup_asked (asked_frames_of fs) ≡ filter_map cleanup_of fs
same_trail [] all = refl
same_trail (f ∷ fs) all =
    ap (λ (o : Option (ℕ × ℕ)). cons_option o (filter_map cleanup_asked (asked_frames_of fs))) (same_cleanup f all.0)
    ∙ ap (λ (l : List (ℕ × ℕ)). cons_option (cleanup_of f) l) (same_trail fs all.1)

all_before : (fs : List Frame) → AllByRecursion HasWord fs → AllByRecursion HasWord (before_first is_deciding fs)
all_before [] all = tt
all_before (f ∷ fs) all = go (is_deciding f) refl (all_before fs all.1)
  where
    go : (b : Bool) → is_deciding f ≡ b → AllByRecursion HasWord (before_first is_deciding fs) → AllByRecursion HasWord (before_first is_deciding (f ∷ fs))
    go true e ih = subst (AllByRecursion HasWord) (sym (before_now is_deciding f fs e)) tt
    go false e ih = subst (AllByRecursion HasWord) (sym (before_cons is_deciding f fs e)) (all.0, ih)

all_found : (fs : List Frame) (g : Frame) → AllByRecursion HasWord fs → find is_deciding fs ≡ Some g → HasWord g
all_found [] g all e = absurd cc
all_found (f ∷ fs) g all e = go (is_deciding f) refl (λ later. all_found fs g all.1 later)
  where
    go : (b : Bool) → is_deciding f ≡ b → (find is_deciding fs ≡ Some g → HasWord g) → HasWord g
    go true is ih = let e' : Some f ≡ Some g = rw is at e in let same : f ≡ g = cc in subst HasWord same all.0
    go false is ih = let e' : find is_deciding fs ≡ Some g = rw is at e in ih e'

module _ (exception : ℕ) where
  same_taken : (fs : List Frame) (f : Frame) (pad : ℕ) → AllByRecursion HasWord fs → HasWord f → delivery_to_handler exception (asked_frames_of fs) (asked_frame_of f) pad ≡ delivery_at_handler exception fs f.state pad
  same_taken fs f pad all low = both (same_states fs) (same_trail fs all) (past_none f.state.sp low)
    where
      made : List State → List (ℕ × ℕ) → ℕ → Delivery
      made states trail sp = record { visited = states ++ f.state ∷ []; trail = trail; landing = Some (landing_at exception (record f.state { sp = sp }) pad); outcome = Installed }

      both : {states states' : List State} {trail trail' : List (ℕ × ℕ)} {sp sp' : ℕ} → states ≡ states' → trail ≡ trail' → sp ≡ sp' →
          made states trail sp ≡ made states' trail' sp'
      both {states = states} {states' = states'} {trail = trail} {trail' = trail'} {sp = sp} {sp' = sp'} a b c =
          ap (λ (l : List State). made l trail sp) a ∙ ap (λ (l : List (ℕ × ℕ)). made states' l sp) b ∙ ap (λ (n : ℕ). made states' trail' n) c

  same_made : (fs : List Frame) (f : Frame) (x : Action) → AllByRecursion HasWord fs → HasWord f → delivery_decided_by exception (asked_frames_of fs) (asked_frame_of f) x ≡ decided_by exception fs f.state x
  same_made fs f (Catch pad) all low = same_taken fs f pad all low
  same_made fs f (Filter pad) all low = same_taken fs f pad all low
  same_made fs f NoAction all low = ap (λ (l : List State). delivery_without_handler (l ++ f.state ∷ []) FatalPhase1) (same_states fs)
  same_made fs f (Cleanup pad) all low = ap (λ (l : List State). delivery_without_handler (l ++ f.state ∷ []) FatalPhase1) (same_states fs)
  same_made fs f Terminate all low = ap (λ (l : List State). delivery_without_handler (l ++ f.state ∷ []) FatalPhase1) (same_states fs)

  -- What is delivered to the frames of calls, which have no arguments, is what is delivered to the calls.
  pub same_delivered : (s : State) (calls : List Call) → AllByRecursion HasWord (frames_of s calls) → delivery_to exception (states_of s calls) (asked_frames_of (frames_of s calls)) ≡ delivery_of exception s calls
  same_delivered s calls all = ap (λ (o : Option AskedFrame). option_map_or (λ (f : AskedFrame). delivery_decided_by exception (before_first frame_decides (asked_frames_of fs)) f f.action) o none) (same_find fs) ∙ go (find is_deciding fs) refl
    where
      fs : List Frame
      fs = frames_of s calls

      none : Delivery
      none = delivery_without_handler (states_of s calls) EndOfStack

      go : (o : Option Frame) → find is_deciding fs ≡ o →
          option_map_or (λ (f : AskedFrame). delivery_decided_by exception (before_first frame_decides (asked_frames_of fs)) f f.action) (option_map asked_frame_of o) none ≡ option_map_or (λ (f : Frame). decided_by exception (before_first is_deciding fs) f.state (action_of_frame f)) o none
      go None e = refl
      go (Some f) e =
          ap (λ (l : List AskedFrame). delivery_decided_by exception l (asked_frame_of f) (action_of_frame f)) (same_before fs)
          ∙ same_made (before_first is_deciding fs) f (action_of_frame f) (all_before fs all) (all_found fs f all e)

-- the states of a chain's frames are words
pub frames_fit : (image : List Span) (Uncovered : ℕ → Type 0) (functions : List Function) (s : State) (calls : List Call) → IsChain image Uncovered functions s calls → AllByRecursion HasWord (frames_of s calls)
frames_fit image Uncovered functions s [] chain = tt
frames_fit image Uncovered functions s (c ∷ calls) chain = (chain.0.state.sp, frames_fit image Uncovered functions c.caller calls chain.1)
