-- From a frame to its caller, by the tables of the module that holds it. Here the formats part, each question in one match; what is
-- answered stands under the same names in `Elf`, `Macho` and `Pe`.
use Rattle.std.specs.Prelude.{◌≡◌, ◌≢◌, ◌⊎◌, ℕ, ◌==◌, Bool, Option, Some, None, Result, Ok, List, if◌then◌else◌}
use Rattle.memory_image.specs.Image.{Span}
use Rattle.memory_image.specs.Results.{◌>>=◌, result_map}
use Rattle.unwind_definitions.specs.declared.error.Error.{Error as Fault}
use Rattle.unwind_definitions.specs.LanguageSearch.{address_of_call}
use Rattle.unwind_arch.specs.declared.x86_64.Context.{Context}
use Rattle.macho_unwind_info.specs.declared.error.Error.{Error as MachoError}
use Rattle.format_frames.specs.declared.machine.Stepped.{Stepped}
use Rattle.stack_steps.specs.declared.error.DeliverError.{DeliverError}
use Rattle.stack_steps.specs.declared.space.Module.{Module}
use Rattle.stack_steps.specs.declared.space.ModuleTables.{ModuleTables}
use Rattle.stack_steps.specs.declared.space.ModuleTables.TheVariants.{Elf, Macho, Pe}
use Rattle.stack_steps.specs.Frames.{FrameAt, Described, Compact, Recorded}
use Rattle.stack_steps.specs.Elf as elf
use Rattle.stack_steps.specs.Macho as macho
use Rattle.stack_steps.specs.Pe as pe
use Rattle.stack_steps.specs.Modules.{SpaceValue, module_at}

-- ---- the frame at a context

-- by the tables of a module that holds an address
abbrev pub frame_by_tables : List Span → ℕ → Module → ModuleTables → Result (Option FrameAt) DeliverError
frame_by_tables image a m (Elf tables) = elf.frame image a tables
frame_by_tables image a m (Macho tables) = macho.frame image a m tables
frame_by_tables image a m (Pe tables) = pe.frame image a m tables

abbrev pub frame_in : List Span → ℕ → Option Module → Result (Option FrameAt) DeliverError
frame_in image a None = Ok None
frame_in image a (Some m) = frame_by_tables image a m m.tables

-- The frame that a context shows, None at the end of the stack. The mark says whether the context was interrupted where it
-- stands, as after a signal's frame, and does not stand after a call.
unfoldable pub frame_of : SpaceValue → Context → Bool → Result (Option FrameAt) DeliverError
frame_of space c interrupted =
    if c.ra == 0 then Ok None
    else frame_in space.image (address_of_call c.ra interrupted) (module_at space.modules (address_of_call c.ra interrupted))

-- ---- its caller

abbrev pub caller_by : List Span → Context → FrameAt → Result Stepped DeliverError
caller_by image c (Described f) = elf.caller image c f
caller_by image c (Compact m listed) = macho.caller image c m listed
caller_by image c (Recorded m rva function) = pe.caller image c m rva function

abbrev pub caller_at : List Span → Context → Option FrameAt → Result (Option Stepped) DeliverError
caller_at image c None = Ok None
caller_at image c (Some f) = result_map Some (caller_by image c f)

-- The caller of the frame that a context shows, None at the end of the stack.
unfoldable pub step_of : SpaceValue → Context → Bool → Result (Option Stepped) DeliverError
step_of space c interrupted = frame_of space c interrupted >>= caller_at space.image c

-- ---- the same in the words of its answers

-- by the tables of the module that holds an address nothing is found for it
abbrev pub FindsNoneIn : List Span → Module → ModuleTables → ℕ → Type 0
FindsNoneIn image m (Elf tables) a = elf.Ends image tables a
FindsNoneIn image m (Macho tables) a = macho.Ends image m tables a
FindsNoneIn image m (Pe tables) a = pe.Ends image m tables a

-- an address is in no module, or in one by whose tables nothing is found for it
abbrev pub HasNoDescription : List Span → Option Module → ℕ → Type 0
HasNoDescription image None a = Unit {0}
HasNoDescription image (Some m) a = FindsNoneIn image m m.tables a

-- the stack ends at a context: its return address is 0, or nothing covers the address asked
abbrev pub EndsAt : SpaceValue → Context → Bool → Type 0
EndsAt space c interrupted = (c.ra ≡ 0) ⊎ ((c.ra ≢ 0) × HasNoDescription space.image (module_at space.modules (address_of_call c.ra interrupted)) (address_of_call c.ra interrupted))

-- the return address isn't 0, and of the module that holds the address asked this is so
pub record IsInModule (space : SpaceValue) (c : Context) (interrupted : Bool) (P : Module → ModuleTables → ℕ → Type 0) : Type 0 where
  pub returns : c.ra ≢ 0
  pub holder : Module
  pub holds : module_at space.modules (address_of_call c.ra interrupted) ≡ Some holder
  pub is : P holder holder.tables (address_of_call c.ra interrupted)

-- What is found for the address asked has a fault of call frame information: the row of a description, or what an opcode points to.
abbrev pub TablesFault : List Span → Context → Fault → Module → ModuleTables → ℕ → Type 0
TablesFault image c e m (Elf tables) a = elf.Faults image c tables a e
TablesFault image c e m (Macho tables) a = macho.Faults image c m tables a e
TablesFault image c e m (Pe tables) a = pe.Faults image c m tables a e

abbrev pub FaultsAt : SpaceValue → Context → Bool → Fault → Type 0
FaultsAt space c interrupted e = IsInModule space c interrupted (TablesFault space.image c e)

-- The section of compact unwinding, or what a look-up of the address asked comes to, can't be read.
abbrev pub SectionFaults : List Span → Context → MachoError → Module → ModuleTables → ℕ → Type 0
SectionFaults image c e m (Macho tables) a = macho.Unread image c m tables a e
SectionFaults image c e m _ a = ⊥

abbrev pub IsUnreadSection : SpaceValue → Context → Bool → MachoError → Type 0
IsUnreadSection space c interrupted e = IsInModule space c interrupted (SectionFaults space.image c e)

-- The opcode of the function that is listed at the address asked gives no caller.
abbrev pub HasNoForm : List Span → Context → Module → ModuleTables → ℕ → Type 0
HasNoForm image c m (Macho tables) a = macho.WithoutForm image c m tables a
HasNoForm image c m _ a = ⊥

abbrev pub IsWithoutForm : SpaceValue → Context → Bool → Type 0
IsWithoutForm space c interrupted = IsInModule space c interrupted (HasNoForm space.image c)

-- A function table, an unwind record, or the code that may be an epilog's can't be read.
abbrev pub RecordsUnread : List Span → Context → Module → ModuleTables → ℕ → Type 0
RecordsUnread image c m (Pe tables) a = pe.Unread image c m tables a
RecordsUnread image c m _ a = ⊥

abbrev pub IsUnreadInfo : SpaceValue → Context → Bool → Type 0
IsUnreadInfo space c interrupted = IsInModule space c interrupted (RecordsUnread space.image c)

-- More than 32 records are chained to the one that covers the address asked.
abbrev pub ChainsTooMany : List Span → Context → Module → ModuleTables → ℕ → Type 0
ChainsTooMany image c m (Pe tables) a = pe.ChainsTooMany image c m tables a
ChainsTooMany image c m _ a = ⊥

abbrev pub IsChainedTooLong : SpaceValue → Context → Bool → Type 0
IsChainedTooLong space c interrupted = IsInModule space c interrupted (ChainsTooMany space.image c)

-- What is found for the address asked reads what isn't wholly mapped: a row, an opcode or a PE frame.
abbrev pub TablesRead : List Span → Context → ℕ → Module → ModuleTables → ℕ → Type 0
TablesRead image c a m (Elf tables) address = elf.Reads image c tables address a
TablesRead image c a m (Macho tables) address = macho.Reads image c m tables address a
TablesRead image c a m (Pe tables) address = pe.Reads image c m tables address a

abbrev pub ReadIsUnmapped : SpaceValue → Context → Bool → ℕ → Type 0
ReadIsUnmapped space c interrupted a = IsInModule space c interrupted (TablesRead space.image c a)

abbrev pub TablesGive : List Span → Context → Stepped → Module → ModuleTables → ℕ → Type 0
TablesGive image c next m (Elf tables) a = elf.Gives image c tables a next
TablesGive image c next m (Macho tables) a = macho.Gives image c m tables a next
TablesGive image c next m (Pe tables) a = pe.Gives image c m tables a next

-- The tables of the module that holds the address asked give the caller, each kind by its own step.
abbrev pub GivesCaller : SpaceValue → Context → Bool → Stepped → Type 0
GivesCaller space c interrupted next = IsInModule space c interrupted (TablesGive space.image c next)
