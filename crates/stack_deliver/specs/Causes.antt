-- Why a delivery is refused, and how it ends, in the words of its answers.
use Rattle.std.specs.Prelude.{◌≡◌, ◌⊎◌, ℕ, zero, suc, ◌<◌, Bool, true, false, List, Option, Result, Some, None, Ok, Err, MatchBool}
use Rattle.memory_image.specs.Image.{Span}
use Rattle.unwinding_frames.specs.declared.cxx.error.CxxError.{CxxError}
use Rattle.unwinding_frames.specs.declared.cxx.runtime.CxxRuntime.TheVariants.{Libstdcxx, Libcxxabi}
use Rattle.unwinding_frames.specs.CxxTables.{cxx_table_action}
use Rattle.unwinding_frames.specs.CxxTables as cxx
use Rattle.unwind_arch.specs.declared.x86_64.Context.{Context}
use Rattle.stack_deliver.specs.declared.outcome.Outcome.{Outcome}
use Rattle.stack_deliver.specs.declared.outcome.Outcome.TheVariants.{Installed, EndOfStack, FatalPhase1, FatalPhase2}
use Rattle.stack_steps.specs.declared.error.DeliverError.{DeliverError}
use Rattle.stack_steps.specs.declared.error.DeliverError.TheVariants.{NoMemory, Unmapped, FrameLimit, PassLimit, NoResume, Table, MachO, CompactForm, PeInfo, ChainLimit}
use Rattle.stack_steps.specs.Modules.{SpaceValue}
use Rattle.stack_deliver.specs.Resumes.{return_of}
use Rattle.stack_steps.specs.declared.asking.FrameAction.{FrameAction}
use Rattle.stack_steps.specs.Asking.{named_table}
use Rattle.stack_steps.specs.Languages.{Languages, frame_asks, is_cxx, is_taken, pad_of, routine_of, rust_alone}
use Rattle.stack_walks.specs.FrameVisits.{Line, Pass, Stop, cleaning, pass_of, mark_at, searching, stops}
use Rattle.stack_deliver.specs.Passes.{Cleanup, cleanup_of}
use Rattle.unwind_definitions.specs.Caller.{StepFault}
use Rattle.unwind_definitions.specs.Function as rust
use Rattle.unwind_definitions.specs.LanguageSearch.{LanguagePlace, address_of_call, table_action}
use Rattle.format_frames.specs.declared.machine.Stepped.{Stepped}
use Rattle.stack_steps.specs.Frames.{FrameAt}
use Rattle.stack_steps.specs.Stepping.{frame_of, step_of}

-- ---- what a pass comes to: where the stack ends, what is asked of a frame, and what can't be read

-- the frame at a context asks for an action
pub record Asks (languages : Languages) (space : SpaceValue) (c : Context) (interrupted : Bool) (action : FrameAction) : Type 0 where
  pub frame : FrameAt
  pub framed : frame_of space c interrupted ≡ Ok (Some frame)
  pub asked : frame_asks languages space.image c interrupted frame ≡ Ok action

-- the frame at a context asks for nothing for which a pass stops, and this is its caller
pub record GoesTo (p : Pass) (space : SpaceValue) (c : Context) (interrupted : Bool) (next : Stepped) : Type 0 where
  pub action : FrameAction
  pub asks : Asks p.languages space c interrupted action
  pub silent : stops p.phase action ≡ false
  pub caller : step_of space c interrupted ≡ Ok (Some next)

-- A language table that a routine reads ends the program at once: it can't be read, or the rule of Rust, or that of C++ by libc++abi,
-- reads from it that the program ends.
abbrev pub EndsAtOnce : Languages → List Span → ℕ → Option ℕ → Result LanguagePlace StepFault → Type 0
EndsAtOnce languages image a routine place =
    MatchBool (is_cxx languages routine)
    (((languages.exception.runtime ≡ Libcxxabi) × (cxx_table_action image languages.exception a place ≡ Ok cxx.Terminate)) ⊎
    ((e : CxxError) × (cxx_table_action image languages.exception a place ≡ Err e)))
    ((table_action image a place ≡ Ok rust.Terminate) ⊎ ((e : StepFault) × (table_action image a place ≡ Err e)))

-- By the rule of C++ it ends the program once the cleanups inside have run, by libstdc++.
abbrev pub EndsLater : Languages → List Span → ℕ → Option ℕ → Result LanguagePlace StepFault → Type 0
EndsLater languages image a routine place =
    (is_cxx languages routine ≡ true) × (languages.exception.runtime ≡ Libstdcxx) × (cxx_table_action image languages.exception a place ≡ Ok cxx.Terminate)

-- the frame at a context names a language table by which the program ends at once
pub record EndsProgram (languages : Languages) (space : SpaceValue) (c : Context) (interrupted : Bool) : Type 0 where
  pub frame : FrameAt
  pub framed : frame_of space c interrupted ≡ Ok (Some frame)
  pub place : Result LanguagePlace StepFault
  pub named : named_table space.image frame ≡ Ok (Some place)
  pub fatal : EndsAtOnce languages space.image (address_of_call c.ra interrupted) (routine_of space.image frame) place

-- or once the cleanups of the frames inside have run
pub record EndsProgramLater (languages : Languages) (space : SpaceValue) (c : Context) (interrupted : Bool) : Type 0 where
  pub frame : FrameAt
  pub framed : frame_of space c interrupted ≡ Ok (Some frame)
  pub place : Result LanguagePlace StepFault
  pub named : named_table space.image frame ≡ Ok (Some place)
  pub fatal : EndsLater languages space.image (address_of_call c.ra interrupted) (routine_of space.image frame) place

-- the frame at a context asks for a landing pad
pub record AsksForPad (languages : Languages) (space : SpaceValue) (c : Context) (interrupted : Bool) : Type 0 where
  pub action : FrameAction
  pub asks : Asks languages space c interrupted action
  pub pad : ℕ
  pub named : pad_of action ≡ Some pad

-- the stack ends at a context
abbrev pub StackEnds : SpaceValue → Context → Bool → Type 0
StackEnds space c interrupted = step_of space c interrupted ≡ Ok None

-- What can't be read at a context: what is found there, its row among it, what names the language table of the frame, or, where
-- nothing is asked for which the pass stops, the caller.
abbrev pub CantRead : Pass → DeliverError → SpaceValue → Context → Bool → Type 0
CantRead p e space c interrupted =
    (frame_of space c interrupted ≡ Err e) ⊎
    ((f : FrameAt) × (frame_of space c interrupted ≡ Ok (Some f)) × (named_table space.image f ≡ Err e)) ⊎
    ((action : FrameAction) × Asks p.languages space c interrupted action × (stops p.phase action ≡ false) × (step_of space c interrupted ≡ Err e))

-- ---- from a context outwards

-- Of so many contexts that a pass goes over, one is so.
abbrev pub Meets : Pass → SpaceValue → (Context → Bool → Type 0) → ℕ → Context → Bool → Type 0
Meets p space P zero c interrupted = ⊥
Meets p space P (suc room) c interrupted = P c interrupted ⊎ ((next : Stepped) × GoesTo p space c interrupted next × Meets p space P room next.context next.signal)

-- A pass goes on from each of so many contexts.
abbrev pub GoesOnFrom : Pass → SpaceValue → ℕ → Context → Bool → Type 0
GoesOnFrom p space zero c interrupted = Unit {0}
GoesOnFrom p space (suc room) c interrupted = (next : Stepped) × GoesTo p space c interrupted next × GoesOnFrom p space room next.context next.signal

-- the frame at a context has the kept mark, and asks for a landing pad
abbrev pub TakesAt : Languages → ℕ → SpaceValue → Context → Bool → Type 0
TakesAt languages kept space c interrupted = AsksForPad languages space c interrupted × (mark_at c interrupted ≡ kept)

-- the program ends at a context, or the stack does
abbrev pub Fails : Languages → SpaceValue → Context → Bool → Type 0
Fails languages space c interrupted = StackEnds space c interrupted ⊎ EndsProgram languages space c interrupted ⊎ EndsProgramLater languages space c interrupted

-- ---- causes and ends

-- the search stops at a frame that takes the exception, and this is its mark
pub record TakenAt (languages : Languages) (space : SpaceValue) (limit : ℕ) (c : Context) (kept : ℕ) : Type 0 where
  pub line : Line
  pub searched : pass_of (searching languages) space limit c false ≡ Ok line
  pub stop : Stop
  pub stops : line.stop ≡ Some stop
  pub takes : is_taken stop.action ≡ true
  pub mark : kept ≡ mark_at stop.context stop.interrupted

module _ (languages : Languages) (space : SpaceValue) (exception kept : ℕ) (resumes : List (ℕ × ℕ)) (limit : ℕ) where
  -- a cleanup pass enters a landing pad elsewhere than at the kept frame
  abbrev pub Cleans : Context → ℕ → Context → Type 0
  Cleans c pad entered = cleanup_of languages space exception kept limit c ≡ Ok (Cleanup pad entered)

  -- of the passes from a context on, where the trail has places for so many cleanups, one starts where this holds
  abbrev pub SomePass : (ℕ → Context → Type 0) → ℕ → Context → Type 0
  SomePass P zero c = P zero c
  SomePass P (suc places) c = P (suc places) c ⊎ ((pad : ℕ) × (entered : Context) × (ret : ℕ) × Cleans c pad entered × (return_of resumes pad ≡ Some ret) × SomePass P places (record entered { ra = ret }))

  -- the pass from a context enters a cleanup, and the trail is full
  abbrev pub TrailIsFull : ℕ → Context → Type 0
  TrailIsFull places c = (places ≡ 0) × ((pad : ℕ) × (entered : Context) × Cleans c pad entered)

  -- the pass from a context enters a cleanup, which has no return address
  abbrev pub HasNoReturn : ℕ → ℕ → Context → Type 0
  HasNoReturn pad places c = (0 < places) × ((entered : Context) × Cleans c pad entered × (return_of resumes pad ≡ None))

-- a frame takes the exception, and of the cleanup passes toward it one starts where this holds
abbrev pub InPasses : Languages → SpaceValue → Context → ℕ → List (ℕ × ℕ) → ℕ → (ℕ → ℕ → Context → Type 0) → Type 0
InPasses languages space c exception resumes limit P = (kept : ℕ) × TakenAt languages space limit c kept × SomePass languages space exception kept resumes limit (P kept) limit c

-- ---- in the words of what the passes meet

-- the search meets a context that is so
abbrev pub SearchMeets : Languages → SpaceValue → Context → ℕ → (Context → Bool → Type 0) → Type 0
SearchMeets languages space c limit P = Meets (searching languages) space P limit c false

-- a frame takes the exception, and a cleanup pass toward it meets a context that is so
abbrev pub PassesMeet : Languages → SpaceValue → Context → ℕ → List (ℕ × ℕ) → ℕ → (ℕ → Context → Bool → Type 0) → Type 0
PassesMeet languages space c exception resumes limit P = InPasses languages space c exception resumes limit (λ kept places d. Meets (cleaning languages) space (P kept) limit d false)

-- the search, or a cleanup pass, goes on from each of as many states as the limit allows
abbrev pub NeedMore : Languages → SpaceValue → Context → ℕ → List (ℕ × ℕ) → ℕ → Type 0
NeedMore languages space c exception resumes limit =
    GoesOnFrom (searching languages) space limit c false ⊎ InPasses languages space c exception resumes limit (λ kept places d. GoesOnFrom (cleaning languages) space limit d false)

-- the search, or a cleanup pass, meets what can't be read
abbrev pub MeetFault : Languages → SpaceValue → Context → ℕ → List (ℕ × ℕ) → ℕ → DeliverError → Type 0
MeetFault languages space c exception resumes limit e =
    SearchMeets languages space c limit (CantRead (searching languages) e space) ⊎ PassesMeet languages space c exception resumes limit (λ kept. CantRead (cleaning languages) e space)

-- Why a delivery by the rules of languages is refused, by its error.
abbrev pub IsRefusedThrough : Languages → SpaceValue → Context → ℕ → List (ℕ × ℕ) → ℕ → DeliverError → Type 0
IsRefusedThrough languages space c exception resumes limit NoMemory = ⊥
IsRefusedThrough languages space c exception resumes limit FrameLimit = NeedMore languages space c exception resumes limit
IsRefusedThrough languages space c exception resumes limit PassLimit = InPasses languages space c exception resumes limit (λ kept. TrailIsFull languages space exception kept resumes limit)
IsRefusedThrough languages space c exception resumes limit (NoResume pad) = InPasses languages space c exception resumes limit (λ kept. HasNoReturn languages space exception kept resumes limit pad)
IsRefusedThrough languages space c exception resumes limit (Unmapped a) = MeetFault languages space c exception resumes limit (Unmapped a)
IsRefusedThrough languages space c exception resumes limit (Table e) = MeetFault languages space c exception resumes limit (Table e)
IsRefusedThrough languages space c exception resumes limit (MachO e) = MeetFault languages space c exception resumes limit (MachO e)
IsRefusedThrough languages space c exception resumes limit CompactForm = MeetFault languages space c exception resumes limit CompactForm
IsRefusedThrough languages space c exception resumes limit PeInfo = MeetFault languages space c exception resumes limit PeInfo
IsRefusedThrough languages space c exception resumes limit ChainLimit = MeetFault languages space c exception resumes limit ChainLimit

-- How it ends, by its outcome.
abbrev pub EndsThrough : Languages → SpaceValue → Context → ℕ → List (ℕ × ℕ) → ℕ → Outcome → Type 0
EndsThrough languages space c exception resumes limit Installed = PassesMeet languages space c exception resumes limit (λ kept. TakesAt languages kept space)
EndsThrough languages space c exception resumes limit EndOfStack = SearchMeets languages space c limit (StackEnds space)
EndsThrough languages space c exception resumes limit FatalPhase1 = SearchMeets languages space c limit (EndsProgram languages space)
EndsThrough languages space c exception resumes limit FatalPhase2 = PassesMeet languages space c exception resumes limit (λ kept. Fails languages space)

-- by the rule of Rust alone
abbrev pub IsRefused : SpaceValue → Context → ℕ → List (ℕ × ℕ) → ℕ → DeliverError → Type 0
IsRefused = IsRefusedThrough rust_alone

abbrev pub EndsBy : SpaceValue → Context → ℕ → List (ℕ × ℕ) → ℕ → Outcome → Type 0
EndsBy = EndsThrough rust_alone
