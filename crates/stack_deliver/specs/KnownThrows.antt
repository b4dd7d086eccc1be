-- What is delivered, by the rules of languages, to a stack of each of whose frames it is known how its caller's state follows and what
-- its language table says.
-- Itanium C++ ABI, exception handling, levels I and II; LSB, section on DWARF's extensions for DW_CFA_GNU_args_size, the size of the
-- arguments that were pushed for a call, past which a landing pad is entered.
use Rattle.std.proofs.Common.{inl, inr}
use Rattle.std.specs.Prelude.{◌≡◌, ℕ, ◌-◌, Bool, true, false, List, [], ◌∷◌, ◌++◌, map, Option, Some, None, Ok, IfSome}
use Rattle.std.specs.List.{filter_map, find, before_first}
use Rattle.std.specs.Option.{option_map, option_map_or}
use Rattle.unwind_definitions.specs.Caller.{◌+w◌}
use Rattle.unwind_definitions.specs.Row.{argument_size}
use Rattle.unwind_definitions.specs.State.{State}
use Rattle.unwind_definitions.specs.Function.{action_at}
use Rattle.unwind_definitions.specs.Delivery.{Delivery, Landing, Installed, EndOfStack, FatalPhase1, FatalPhase2, delivery_without_handler, resume_of}
use Rattle.unwind_arch.specs.declared.x86_64.Context.{Context}
use Rattle.stack_steps.specs.declared.asking.FrameAction.{FrameAction}
use Rattle.stack_steps.specs.declared.asking.FrameAction.TheVariants.{Nothing, Cleanup, Handler, Terminate, TerminateAfterCleanups}
use Rattle.stack_steps.specs.Languages.{Languages, asked_by_rust, described_asks, found_in, is_taken}
use Rattle.stack_steps.specs.Modules.{SpaceValue}
use Rattle.stack_steps.specs.KnownStacks.{IsKnownLink, IsKnownStack}
use Rattle.stack_walks.specs.FrameVisits.{decides}
use Rattle.stack_walks.specs.KnownWalks.{StartsKnownStack}
use Rattle.stack_deliver.specs.StackDelivery.{DeliveryValue}
use Rattle.stack_deliver.specs.StateViews.{delivery_shown}

-- ---- frames that ask

-- a state, what its language asks there of the exception, and how many bytes of arguments lie from its stack pointer up
pub record AskingFrame : Type 0 where
  pub state : State
  pub action : FrameAction
  pub arguments : ℕ

-- the state with its stack pointer past the arguments, with which a landing pad is entered
abbrev pub past : AskingFrame → State
past f = record f.state { sp = f.state.sp +w f.arguments }

-- a handler of the frame takes the exception, or the program ends there
abbrev pub frame_decides : AskingFrame → Bool
frame_decides f = decides f.action

abbrev pub cleanup_pad : FrameAction → Option ℕ
cleanup_pad (Cleanup pad) = Some pad
cleanup_pad _ = None

-- the landing pad of a cleanup, where the frame asks for one, and the stack pointer with which it is entered
abbrev pub cleanup_asked : AskingFrame → Option (ℕ × ℕ)
cleanup_asked f = option_map (λ pad. (pad, (past f).sp)) (cleanup_pad f.action)

abbrev pub asking_states : List AskingFrame → List State
asking_states frames = map (λ (f : AskingFrame). f.state) frames

-- a state that enters a landing pad with an exception and the number of its handler
abbrev pub lands_at : ℕ → State → ℕ → ℕ → Landing
lands_at exception s pad number = record { state = record s { ra = pad }; rax = exception; rdx = number }

-- ---- what is delivered to them

-- A frame takes the exception: the cleanups of the frames inside it run, each once, and then its handler is entered, or the program
-- ends.
abbrev pub delivery_taken : List AskingFrame → AskingFrame → Option Landing → Delivery
delivery_taken inside f (Some landing) = record { visited = asking_states inside ++ f.state ∷ []; trail = filter_map cleanup_asked inside; landing = Some landing; outcome = Installed }
delivery_taken inside f None = record { visited = asking_states inside ++ f.state ∷ []; trail = filter_map cleanup_asked inside; landing = None; outcome = FatalPhase2 }

-- what the deciding action of a frame makes of the frames inside it
abbrev pub decided_by : ℕ → List AskingFrame → AskingFrame → FrameAction → Delivery
decided_by exception inside f (Handler pad number) = delivery_taken inside f (Some (lands_at exception (past f) pad number))
decided_by exception inside f TerminateAfterCleanups = delivery_taken inside f None
decided_by exception inside f _ = delivery_without_handler (asking_states inside ++ f.state ∷ []) FatalPhase1

-- The delivery of an exception to frames, by the first of them that decides; where none does, all states are visited.
abbrev pub delivery_to : ℕ → List State → List AskingFrame → Delivery
delivery_to exception states frames = option_map_or (λ (f : AskingFrame). decided_by exception (before_first frame_decides frames) f f.action) (find frame_decides frames)
    (delivery_without_handler states EndOfStack)

module _ (languages : Languages) (space : SpaceValue) where
  -- ---- what is asked

  -- At a frame, of which it is known how its caller's state follows, this is asked, and its arguments have this size. By facts, what
  -- the description that says them names asks at the call, by the rule of its language; by a described function of another format,
  -- where no routine is C++'s, what its call sites do by the rule of Rust, and there are no arguments.
  abbrev pub AsksThere : (s t : State) → IsKnownLink space false s t → FrameAction → ℕ → Type 0
  AsksThere s t (inl known) action arguments =
      (described_asks languages space.image (s.ra - 1) (found_in known.1.said) ≡ Ok action) × (arguments ≡ argument_size known.1.said.says.row.0)
  AsksThere s t (inr described) action arguments =
      (action ≡ asked_by_rust (action_at described.call.callee (s.ra - 1))) × (languages.cxx_routines ≡ []) × (arguments ≡ 0)

  -- The frames of a stack ask this, the innermost first; the outermost state of a stack is in no frame. No exception is delivered
  -- through a signal's frame: a stack with one asks nothing.
  abbrev pub AreAsked : (s : State) (callers : List State) → IsKnownStack space false s callers → List AskingFrame → Type 0
  AreAsked s [] stack frames = frames ≡ []
  AreAsked s (t ∷ callers) stack [] = ⊥
  AreAsked s (t ∷ callers) (inl link, outer) (f ∷ frames) = (f.state ≡ s) × AsksThere s t link f.action f.arguments × AreAsked t callers outer frames
  AreAsked s (t ∷ callers) (inr signal, outer) (f ∷ frames) = ⊥

  -- ---- resuming after a cleanup

  -- A frame may go on at a state after its cleanup: it is known how the same caller's state follows from there, by whatever
  -- description says so, such as that of a part of the function that lies apart from it; and nothing is asked there.
  pub record MayGoOnAt (s t : State) : Type 0 where
    pub link : IsKnownLink space false s t
    pub arguments : ℕ
    pub silent : AsksThere s t link Nothing arguments

  -- after its cleanup, where it has one, a frame goes on, past its arguments, where the resume table says
  abbrev pub ResumesBy : List (ℕ × ℕ) → AskingFrame → State → Type 0
  ResumesBy resumes f t = IfSome (cleanup_pad f.action) (λ pad. (ret : ℕ) × (resume_of resumes pad ≡ Some ret) × MayGoOnAt (record (past f) { ra = ret }) t)

  -- so does each of these frames, toward its caller
  abbrev pub EachResumesBy : List (ℕ × ℕ) → List State → List AskingFrame → Type 0
  EachResumesBy resumes callers [] = Unit {0}
  EachResumesBy resumes [] (f ∷ frames) = ⊥
  EachResumesBy resumes (t ∷ callers) (f ∷ frames) = ResumesBy resumes f t × EachResumesBy resumes callers frames

-- ---- deliveries

-- A delivery by the rules of languages starts at such a stack without a signal's frame, with room for its states: a context shows the
-- innermost state, the frames ask this, and where a frame takes the exception, the resume table says where each frame inside it goes on
-- after its cleanup.
pub record StartsKnownThrow (languages : Languages) (space : SpaceValue) (c : Context) (resumes : List (ℕ × ℕ)) (limit : ℕ) (s : State) (callers : List State) (frames : List AskingFrame) : Type 0 where
  pub starts : StartsKnownStack space c limit false s callers
  pub asked : AreAsked languages space s callers starts.stack frames
  pub resumed : (f : AskingFrame) → find frame_decides frames ≡ Some f → is_taken f.action ≡ true → EachResumesBy languages space resumes callers (before_first frame_decides frames)

-- what a delivery did is what the definition says of frames that ask so
abbrev pub ShowsKnownThrow : DeliveryValue → ℕ → State → List State → List AskingFrame → Type 0
ShowsKnownThrow d exception s callers frames = delivery_shown d ≡ delivery_to exception (s ∷ callers) frames
