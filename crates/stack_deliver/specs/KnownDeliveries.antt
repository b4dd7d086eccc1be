-- What is delivered to a stack of each of whose frames it is known how its caller's state follows and what its language asks, through
-- modules of whatever format.
-- Itanium C++ ABI, exception handling, levels I and II; LSB, section on DWARF's extensions for DW_CFA_GNU_args_size, the size of the
-- arguments that were pushed for a call, past which a landing pad is entered.
use Rattle.std.proofs.Common.{inl, inr}
use Rattle.std.specs.Prelude.{◌≡◌, ℕ, ◌-◌, false, List, [], ◌∷◌, IfSome, IsTrue, Some}
use Rattle.std.specs.List.{find, before_first}
use Rattle.unwind_definitions.specs.State.{State}
use Rattle.unwind_definitions.specs.Function.{Action, NoAction, action_at}
use Rattle.unwind_definitions.specs.Delivery.{accepts, cleanup_pad, resume_of}
use Rattle.frame_facts.specs.FactDeliveries as asked
use Rattle.frame_facts.specs.FactDeliveries.{AsksAt, AskedFrame, past, frame_decides}
use Rattle.unwind_arch.specs.declared.x86_64.Context.{Context}
use Rattle.stack_steps.specs.Modules.{SpaceValue}
use Rattle.stack_steps.specs.SpaceViews.{process_of}
use Rattle.stack_steps.specs.KnownStacks.{IsKnownLink, IsKnownStack}
use Rattle.stack_walks.specs.KnownWalks.{StartsKnownStack}
use Rattle.stack_deliver.specs.StackDelivery.{DeliveryValue}
use Rattle.stack_deliver.specs.StateViews.{delivery_shown}

module _ (space : SpaceValue) where
  -- ---- what is asked

  -- At a frame, of which it is known how its caller's state follows, this is asked, and its arguments have this size. By facts, what
  -- the description that says them asks at the call; by a described function, what its call sites do, and there are no arguments.
  abbrev pub AsksThere : (s t : State) → IsKnownLink space false s t → Action → ℕ → Type 0
  AsksThere s t (inl known) action arguments = AsksAt (process_of space) (s.ra - 1) known.0 known.1.said action arguments
  AsksThere s t (inr described) action arguments = (action ≡ action_at described.call.callee (s.ra - 1)) × (arguments ≡ 0)

  -- The frames of a stack ask this, the innermost first; the outermost state of a stack is in no frame. No exception is delivered
  -- through a signal's frame: a stack with one asks nothing.
  abbrev pub AreAsked : (s : State) (callers : List State) → IsKnownStack space false s callers → List AskedFrame → Type 0
  AreAsked s [] stack frames = frames ≡ []
  AreAsked s (t ∷ callers) stack [] = ⊥
  AreAsked s (t ∷ callers) (inl link, outer) (f ∷ frames) = (f.state ≡ s) × AsksThere s t link f.action f.arguments × AreAsked t callers outer frames
  AreAsked s (t ∷ callers) (inr signal, outer) (f ∷ frames) = ⊥

  -- ---- resuming after a cleanup

  -- A frame may go on at a state after its cleanup: it is known how the same caller's state follows from there, by whatever
  -- description says so, such as that of a part of the function that lies apart from it; and nothing is asked there.
  pub record MayGoOnAt (s t : State) : Type 0 where
    pub link : IsKnownLink space false s t
    pub arguments : ℕ
    pub silent : AsksThere s t link NoAction arguments

  -- after its cleanup, where it has one, a frame goes on, past its arguments, where the resume table says
  abbrev pub ResumesBy : List (ℕ × ℕ) → AskedFrame → State → Type 0
  ResumesBy resumes f t = IfSome (cleanup_pad f.action) (λ pad. (ret : ℕ) × (resume_of resumes pad ≡ Some ret) × MayGoOnAt (record (past f) { ra = ret }) t)

  -- so does each of these frames, toward its caller
  abbrev pub EachResumesBy : List (ℕ × ℕ) → List State → List AskedFrame → Type 0
  EachResumesBy resumes callers [] = Unit {0}
  EachResumesBy resumes [] (f ∷ frames) = ⊥
  EachResumesBy resumes (t ∷ callers) (f ∷ frames) = ResumesBy resumes f t × EachResumesBy resumes callers frames

-- ---- deliveries

-- A delivery starts at such a stack without a signal's frame, with room for its states: a context shows the innermost state, the frames ask this, and where a
-- handler takes the exception, the resume table says where each frame inside its frame goes on after its cleanup.
pub record StartsKnownDelivery (space : SpaceValue) (c : Context) (resumes : List (ℕ × ℕ)) (limit : ℕ) (s : State) (callers : List State) (frames : List AskedFrame) : Type 0 where
  pub starts : StartsKnownStack space c limit false s callers
  pub asked : AreAsked space s callers starts.stack frames
  pub resumed : (f : AskedFrame) → find frame_decides frames ≡ Some f → IsTrue (accepts f.action) → EachResumesBy space resumes callers (before_first frame_decides frames)

-- what a delivery did is what the definition says of frames that ask so
abbrev pub ShowsKnownDelivery : DeliveryValue → ℕ → State → List State → List AskedFrame → Type 0
ShowsKnownDelivery d exception s callers frames = delivery_shown d ≡ asked.delivery_to exception (s ∷ callers) frames
