-- What is delivered to a chain of facts when an exception is raised in its innermost frame: each frame asks what the language
-- table of its description says, and a landing pad is entered past the arguments that were pushed for the call.
-- Itanium C++ ABI, exception handling, levels I and II; LSB, section on exception frames, and on DWARF's extensions for
-- DW_CFA_GNU_args_size, the size of the arguments that have been pushed.
use Rattle.std.specs.Prelude.{◌≡◌, ◌≢◌, ℕ, ◌+◌, ◌-◌, Bool, false, List, [], ◌∷◌, ◌++◌, map, Option, Some, None, IfSome, MatchOption}
use Rattle.std.specs.List.{filter_map, find, before_first}
use Rattle.std.specs.Option.{option_map, option_map_or}
use Rattle.memory_image.specs.Image.{Span}
use Rattle.unwind_definitions.specs.Entries.{Fde}
use Rattle.unwind_definitions.specs.Row.{argument_size}
use Rattle.unwind_definitions.specs.Caller.{◌+w◌}
use Rattle.unwind_definitions.specs.State.{State, IsState}
use Rattle.unwind_definitions.specs.Function.{Function, Site, Action, NoAction, Catch, Filter, AreSitesOf, action_at}
use Rattle.unwind_definitions.specs.LanguageTable.{LeadsToLanguage}
use Rattle.unwind_definitions.specs.FrameTable.{IsEmittedPersonality}
use Rattle.unwind_definitions.specs.Module.{Process}
use Rattle.unwind_definitions.specs.Delivery.{Frame, action_of_frame, Delivery, Installed, EndOfStack, FatalPhase1, decides, cleanup_pad, landing_at, delivery_without_handler, resume_of}
use Rattle.frame_facts.specs.Facts.{Facts, StandsWith}
use Rattle.frame_facts.specs.FactTables.{AreSaidAt}
use Rattle.frame_facts.specs.FactChains.{FactFrame, IsFactChain}

-- ---- what a frame asks

-- the range of a description as a function with call sites, of which nothing else is asked here
abbrev pub code_with_sites : Fde → Option (List Site) → Function
code_with_sites fde sites = record { start = fde.start; end = fde.start + fde.size; prologue = []; bodies = []; sites = sites; outermost = false }

-- A description's language table has these call sites, or it has none; its common information entry names a personality wherever
-- it has one.
pub record HasSites (image : List Span) (fde : Fde) (sites : Option (List Site)) : Type 0 where
  pub each : IfSome sites (AreSitesOf (code_with_sites fde sites))
  pub leads : LeadsToLanguage image (code_with_sites fde sites) fde.language
  pub personality : MatchOption fde.cie.letters.personality (sites ≡ None) (IsEmittedPersonality image)

-- the description that says facts at an address asks this there, and its row has this size of arguments
pub record AsksAt (p : Process) (a : ℕ) (facts : Facts) (said : AreSaidAt p a facts) (action : Action) (arguments : ℕ) : Type 0 where
  pub sites : Option (List Site)
  pub has : HasSites p.image said.says.fde sites
  pub asked : action ≡ action_at (code_with_sites said.says.fde sites) a
  pub size : arguments ≡ argument_size said.says.row.0

-- ---- frames that ask

-- a state, what the language table asks there, and how many bytes of arguments lie from its stack pointer up
pub record AskedFrame : Type 0 where
  pub state : State
  pub action : Action
  pub arguments : ℕ

-- the state with its stack pointer past the arguments, with which a landing pad is entered
abbrev pub past : AskedFrame → State
past f = record f.state { sp = f.state.sp +w f.arguments }

-- a handler of the frame takes the exception, or the program ends there
abbrev pub frame_decides : AskedFrame → Bool
frame_decides f = decides f.action

-- the landing pad of a cleanup, where the frame asks for one, and the stack pointer with which it is entered
abbrev pub cleanup_asked : AskedFrame → Option (ℕ × ℕ)
cleanup_asked f = option_map (λ pad. (pad, (past f).sp)) (cleanup_pad f.action)

abbrev pub asked_states : List AskedFrame → List State
asked_states frames = map (λ (f : AskedFrame). f.state) frames

-- A handler of a frame takes the exception: the cleanups of the frames inside it run, each once.
abbrev pub delivery_to_handler : ℕ → List AskedFrame → AskedFrame → ℕ → Delivery
delivery_to_handler exception inside f pad = record {
  visited = asked_states inside ++ f.state ∷ [];
  trail = filter_map cleanup_asked inside;
  landing = Some (landing_at exception (past f) pad);
  outcome = Installed;
}

-- what the deciding action of a frame makes of the frames inside it
abbrev pub delivery_decided_by : ℕ → List AskedFrame → AskedFrame → Action → Delivery
delivery_decided_by exception inside f (Catch pad) = delivery_to_handler exception inside f pad
delivery_decided_by exception inside f (Filter pad) = delivery_to_handler exception inside f pad
delivery_decided_by exception inside f _ = delivery_without_handler (asked_states inside ++ f.state ∷ []) FatalPhase1

-- The delivery of an exception to frames, by the first of them that decides; where none does, all states are visited.
abbrev pub delivery_to : ℕ → List State → List AskedFrame → Delivery
delivery_to exception states frames = option_map_or (λ (f : AskedFrame). delivery_decided_by exception (before_first frame_decides frames) f f.action) (find frame_decides frames)
    (delivery_without_handler states EndOfStack)

-- a frame of a chain of calls asks what its function does, and has no arguments
abbrev pub asked_frame_of : Frame → AskedFrame
asked_frame_of f = record { state = f.state; action = action_of_frame f; arguments = 0 }

abbrev pub asked_frames_of : List Frame → List AskedFrame
asked_frames_of frames = map asked_frame_of frames

module _ (p : Process) where
  -- The frames of a chain of facts ask this: each what the description that says its facts asks at the call, which ends at the
  -- state's return address.
  abbrev pub AreAsked : (s : State) (frames : List FactFrame) → IsFactChain p false s frames → List AskedFrame → Type 0
  AreAsked s [] chain asked = asked ≡ []
  AreAsked s (f ∷ frames) chain [] = ⊥
  AreAsked s (f ∷ frames) chain (k ∷ asked) = (k.state ≡ s) × AsksAt p (s.ra - 1) f.facts chain.0.said k.action k.arguments × AreAsked f.caller frames chain.1 asked

  -- ---- resuming after a cleanup

  -- A frame goes on at a return address after its cleanup: its state there, past the arguments, stands with facts from the same
  -- caller's state; they are said at the call before that address, in whichever description, and nothing is asked there.
  pub record GoesOnAt (f : AskedFrame) (t : State) (ret : ℕ) : Type 0 where
    pub nonzero : ret ≢ 0
    pub facts : Facts
    pub state : IsState (record (past f) { ra = ret })
    pub stands : StandsWith p.image facts t (record (past f) { ra = ret })
    pub said : AreSaidAt p (ret - 1) facts
    pub arguments : ℕ
    pub asks : AsksAt p (ret - 1) facts said NoAction arguments

  -- after its cleanup, where it has one, a frame goes on where the resume table says
  abbrev pub ResumesIn : List (ℕ × ℕ) → AskedFrame → State → Type 0
  ResumesIn resumes f t = IfSome (cleanup_pad f.action) (λ pad. (ret : ℕ) × (resume_of resumes pad ≡ Some ret) × GoesOnAt f t ret)
