-- How far a walk comes, and why it ends there.
use Rattle.std.specs.Prelude.{◌≡◌, ◌≢◌, ◌⊎◌, ℕ, zero, suc, ◌-◌, ◌==◌, Bool, true, List, [], ◌∷◌, Option, Some, None, Result, Ok, Err, if◌then◌else◌}
use Rattle.memory_image.specs.Image.{Span}
use Rattle.unwind_definitions.specs.declared.error.Error.{Error as Fault}
use Rattle.unwind_definitions.specs.Input.{Input}
use Rattle.unwind_definitions.specs.Pointers.{Bases}
use Rattle.unwind_definitions.specs.LanguageTable.{input_at}
use Rattle.unwind_definitions.specs.LanguageSearch.{address_of_call}
use Rattle.unwind_definitions.specs.State.{State}
use Rattle.unwind_arch.specs.declared.x86_64.Context.{Context}
use Rattle.eh_frame.specs.Search.{IsUnreadable, NoneContains}
use Rattle.fde_finders.specs.declared.custom.FrameInfoKind.{FrameInfoKind}
use Rattle.fde_finders.specs.declared.custom.FrameInfoKind.TheVariants.{EhFrame, EhFrameHdr}
use Rattle.fde_finders.specs.Finding.{table_bases, relative_to}
use Rattle.fde_finders.specs.HeaderFinding.{found_by_header}
use Rattle.format_frames.specs.declared.machine.Stepped.{Stepped}
use Rattle.stack_steps.specs.declared.error.DeliverError.{DeliverError}
use Rattle.stack_steps.specs.declared.error.DeliverError.TheVariants.{FrameLimit}
use Rattle.stack_walks.specs.declared.walk_end.EndReason.{EndReason}
use Rattle.stack_walks.specs.declared.walk_end.EndReason.TheVariants.{Outermost, NoModule, NoDescription, UnreadableTable, Refused, Limit}
use Rattle.stack_walks.specs.declared.unwind.Stop.{Stop}
use Rattle.stack_steps.specs.declared.space.Module.{Module}
use Rattle.stack_steps.specs.declared.space.ModuleTables.{ModuleTables}
use Rattle.stack_steps.specs.declared.space.ModuleTables.TheVariants.{Elf, Macho, Pe}
use Rattle.format_definitions.specs.CompactStep.{MachoModule}
use Rattle.format_frames.specs.Refusals.{function_at}
use Rattle.stack_steps.specs.Modules.{SpaceValue, module_at}
use Rattle.stack_steps.specs.Macho.{module_of as macho_of}
use Rattle.stack_steps.specs.Stepping.{step_of}
use Rattle.stack_walks.specs.Lines.{NeedsMore}
use Rattle.stack_walks.specs.FrameVisits.{Pass, FrameVisit, Ends, Stops, Goes, visit_for, line_for}
use Rattle.stack_walks.specs.VisitViews.{AreVisited, IsUnwinding}
use Rattle.stack_walks.specs.Walking.{RoomValue}

-- ---- how far it comes

-- contexts that are met on the way outwards, and the state after them: the last of them where it goes no further, else the next
pub record Reached : Type 0 where
  pub contexts : List Context
  pub state : Stepped

abbrev pub reached_after : Stepped → Option Stepped → (Stepped → Reached) → Reached
reached_after s None outer = record { contexts = s.context ∷ []; state = s }
reached_after s (Some next) outer = record { contexts = s.context ∷ (outer next).contexts; state = (outer next).state }

-- from a state outwards, where each state has one next state or none, and at most so many
abbrev pub reached_by : (Stepped → Option Stepped) → ℕ → Stepped → Reached
reached_by next zero s = record { contexts = []; state = s }
reached_by next (suc room) s = reached_after s (next s) (reached_by next room)

-- the caller, where a step gives one: not at the end of the stack, and not after a fault
abbrev pub caller_in : Result (Option Stepped) DeliverError → Option Stepped
caller_in (Ok s) = s
caller_in (Err e) = None

abbrev pub caller_from : SpaceValue → Stepped → Option Stepped
caller_from space s = caller_in (step_of space s.context s.signal)

abbrev pub start_state : Context → Bool → Stepped
start_state c interrupted = record { context = c; signal = interrupted }

-- The contexts from one outwards, at most so many, each the caller of the one before: up to the end of the stack, or to the
-- first whose step has a fault.
abbrev pub contexts_to_end : SpaceValue → ℕ → Context → Bool → List Context
contexts_to_end space limit c interrupted = (reached_by (caller_from space) limit (start_state c interrupted)).contexts

-- the same for a pass, which goes to the caller or ends
abbrev pub caller_turned : Result FrameVisit DeliverError → Option Stepped
caller_turned (Ok Ends) = None
caller_turned (Ok (Stops _ _)) = None
caller_turned (Ok (Goes next)) = Some next
caller_turned (Err e) = None

abbrev pub turned_from : Option Pass → SpaceValue → Stepped → Option Stepped
turned_from pass space s = caller_turned (visit_for pass space s.context s.signal)

-- what the way outwards leaves: the contexts in a room, where they are visited, and the state
abbrev pub IsReached : Bool → RoomValue → Stepped → Reached → Type 0
IsReached visited room state due = AreVisited visited room due.contexts × (state ≡ due.state)

-- ---- why it ends

-- the bytes of a table at its address
abbrev pub input_of : ℕ → List ℕ → Input
input_of base bytes = record { base = base; offset = 0; bytes = bytes }

-- A walk goes from a state outwards through so many states at most, into a room without states: its answer and the room's states are
-- the line's, the state is left as the last that it reached or, at the limit, the next, and the room keeps its cleanups and its limit.
abbrev pub UnwindsAsWalk : SpaceValue → ℕ → Stepped → Stepped → RoomValue → RoomValue → Result (Option Stop) DeliverError → Type 0
UnwindsAsWalk space limit start left before after result =
    IsUnwinding true result after left (line_for None space limit start.context start.signal)
    × IsReached true after left (reached_by (turned_from None space) limit start)
    × (after.trail ≡ before.trail) × (after.limit ≡ before.limit)

-- The entry at an offset of a frame table can't be read, and no entry before it contains the address. These entries are those
-- from some place on.
abbrev pub IsUnreadableAt : Bases → Input → ℕ → ℕ → ℕ → Fault → Type 0
IsUnreadableAt bases table a from offset e = (u : IsUnreadable bases table a from e) × (u.offset ≡ offset)

-- Why a frame table has no description for an address: none of its entries, all of which can be read, contains it; or an entry
-- can't be read, and none before it contains it.
abbrev pub IsUndescribedIn : Bases → Input → ℕ → EndReason → Type 0
IsUndescribedIn bases table a (NoDescription b) = (b ≡ a) × NoneContains bases table a 0
IsUndescribedIn bases table a (UnreadableTable b offset e) = (b ≡ a) × IsUnreadableAt bases table a 0 offset e
IsUndescribedIn bases table a _ = ⊥

-- By a header nothing is found, for whichever cause.
abbrev pub IsUnlisted : Bases → List Span → ℕ → ℕ → EndReason → Type 0
IsUnlisted bases image header a (NoDescription b) = (b ≡ a) × (found_by_header bases image header a ≡ None)
IsUnlisted bases image header a _ = ⊥

-- why the tables that a module names have no description for an address
abbrev pub IsUndescribed : List Span → Option ℕ → FrameInfoKind → ℕ → EndReason → Type 0
IsUndescribed image text (EhFrame frame) a why = IsUndescribedIn (table_bases text frame) (input_at image frame) a why
IsUndescribed image text (EhFrameHdr header) a why = IsUnlisted (relative_to text None) image header a why

-- A section of compact unwinding lists no function at an address.
abbrev pub IsUnlistedIn : List Span → MachoModule → ℕ → EndReason → Type 0
IsUnlistedIn image m a (NoDescription b) = (b ≡ a) × (function_at image m (a - m.base) ≡ Ok None)
IsUnlistedIn image m a _ = ⊥

-- by the tables of the module that holds it; in a PE module an address without a record is one of a leaf
abbrev pub IsUnknownIn : List Span → Module → ModuleTables → ℕ → EndReason → Type 0
IsUnknownIn image m (Elf tables) a why = IsUndescribed image tables.text_base tables.kind a why
IsUnknownIn image m (Macho tables) a why = IsUnlistedIn image (macho_of m tables) a why
IsUnknownIn image m (Pe tables) a why = ⊥

-- no module holds an address
abbrev pub IsUnheld : ℕ → EndReason → Type 0
IsUnheld a (NoModule b) = b ≡ a
IsUnheld a _ = ⊥

-- why nothing is known of an address, by the module that holds it
abbrev pub IsUnknown : List Span → Option Module → ℕ → EndReason → Type 0
IsUnknown image None a why = IsUnheld a why
IsUnknown image (Some m) a why = IsUnknownIn image m m.tables a why

-- Why a walk goes no further than a context: its return address is 0; or it isn't, but the stack ends, since nothing is known of
-- the address asked; or its step has a fault.
abbrev pub EndsFor : EndReason → SpaceValue → Context → Bool → Type 0
EndsFor Outermost space c interrupted = c.ra ≡ 0
EndsFor (Refused a e) space c interrupted =
    (a ≡ address_of_call c.ra interrupted) × (step_of space c interrupted ≡ Err e)
EndsFor Limit space c interrupted = ⊥
EndsFor why space c interrupted =
    (c.ra ≢ 0) × (step_of space c interrupted ≡ Ok None)
    × IsUnknown space.image (module_at space.modules (address_of_call c.ra interrupted))
    (address_of_call c.ra interrupted) why

-- why it goes no further where it meets the limit, or a fault
abbrev pub stopped_by : ℕ → DeliverError → EndReason
stopped_by a FrameLimit = Limit
stopped_by a e = Refused a e

-- Of so many contexts from one outwards, each the caller of the one before, one is so.
abbrev pub Meets : SpaceValue → (Context → Bool → Type 0) → ℕ → Context → Bool → Type 0
Meets space P zero c interrupted = ⊥
Meets space P (suc room) c interrupted =
    P c interrupted
    ⊎ ((s : Stepped) × (step_of space c interrupted ≡ Ok (Some s)) × Meets space P room s.context s.signal)

-- Why a walk from a context of at most so many states ends: each of so many has a caller, or one of them has none.
abbrev pub ComesTo : EndReason → SpaceValue → ℕ → Context → Bool → Type 0
ComesTo Limit space limit c interrupted = NeedsMore space limit c interrupted
ComesTo why space limit c interrupted = Meets space (EndsFor why space) limit c interrupted

-- ---- why a walk over a described chain ends

-- Nothing covers an address: no module holds it, or the one that does has no description of it.
abbrev pub front_uncovered : Option Module → ℕ → EndReason
front_uncovered None a = NoModule a
front_uncovered (Some m) a = NoDescription a

-- at the outermost state: it returns to 0, or nothing covers the byte before its return address
abbrev pub end_reason_of_chain : List Module → State → EndReason
end_reason_of_chain modules s = if s.ra == 0 then Outermost else front_uncovered (module_at modules (s.ra - 1)) (s.ra - 1)
