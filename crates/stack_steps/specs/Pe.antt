-- Frames of PE modules, by the unwind records of functions, and of leaves, which have none. What is found, its caller, the language
-- table that it names, and why there is none. `Elf` and `Macho` have the same of their formats.
use Rattle.std.specs.Prelude.{◌≡◌, ℕ, ◌-◌, false, Option, Some, None, Result, Ok, Err, List}
use Rattle.std.specs.Option.{option_map}
use Rattle.std.specs.Result.{result_map_both}
use Rattle.memory_image.specs.Image.{Span, word_at}
use Rattle.unwind_definitions.specs.declared.error.Error.{Error as Fault}
use Rattle.unwind_definitions.specs.Caller.{Columns, StepFault}
use Rattle.unwind_definitions.specs.LanguageSearch.{LanguagePlace}
use Rattle.unwind_arch.specs.declared.x86_64.Context.{Context}
use Rattle.unwind_arch.specs.ContextViews.{columns_of}
use Rattle.pe_unwind_info.specs.declared.x86_64.fault.FrameFault.{FrameFault}
use Rattle.pe_unwind_info.specs.declared.x86_64.fault.FrameFault.TheVariants as pe
use Rattle.pe_unwind_info.specs.declared.x86_64.function_table.RuntimeFunction.{RuntimeFunction}
use Rattle.pe_unwind_info.specs.FunctionTable.{functions_of, lookup_of}
use Rattle.pe_unwind_info.specs.FrameOf.{frame_end_of}
use Rattle.format_definitions.specs.PeImage.{PeModule, memory_of, table_of}
use Rattle.format_definitions.specs.PeRegisters.{registers_in}
use Rattle.format_definitions.specs.PeStep.{PeFault, NoTable, InFrame, columns_at, pe_step}
use Rattle.format_frames.specs.declared.machine.Stepped.{Stepped}
use Rattle.format_frames.specs.Handlers.{pe_place}
use Rattle.stack_steps.specs.declared.error.DeliverError.{DeliverError}
use Rattle.stack_steps.specs.declared.error.DeliverError.TheVariants.{Unmapped, PeInfo, ChainLimit}
use Rattle.stack_steps.specs.declared.space.Module.{Module}
use Rattle.stack_steps.specs.declared.space.PeTables.{PeTables}
use Rattle.stack_steps.specs.Frames.{FrameAt, Recorded, next_with}

-- the module as the definitions have it
abbrev pub module_of : Module → PeTables → PeModule
module_of m tables = record { base = m.start; size = m.end - m.start; table_rva = tables.table_rva; table_size = tables.table_size }

-- why a frame has no caller, or which language table it names can't be told
abbrev pub frame_refusal : FrameFault → DeliverError
frame_refusal (pe.Memory rva) = PeInfo
frame_refusal (pe.Info rva) = PeInfo
frame_refusal pe.EpilogBytes = PeInfo
frame_refusal (pe.Stack a) = Unmapped a
frame_refusal pe.ChainLimit = ChainLimit

abbrev pub refusal : PeFault → DeliverError
refusal NoTable = PeInfo
refusal (InFrame fault) = frame_refusal fault

-- ---- what is found

-- by the bytes of a function table, which one region has to have whole
abbrev pub recorded_frame : PeModule → ℕ → Option (List ℕ) → Result (Option FrameAt) DeliverError
recorded_frame m rva None = Err PeInfo
recorded_frame m rva (Some table) = Ok (Some (Recorded m rva (lookup_of (functions_of table) rva)))

abbrev pub frame : List Span → ℕ → Module → PeTables → Result (Option FrameAt) DeliverError
frame image a m tables = recorded_frame (module_of m tables) (a - m.start) (table_of image (module_of m tables))

-- ---- its caller

-- by what unwind records give, and those of them that are read
abbrev pub recorded_columns : List Span → Context → PeModule → ℕ → Option RuntimeFunction → Result Columns PeFault
recorded_columns image c m rva function = columns_at (columns_of c) (frame_end_of (memory_of image m.base) (word_at image) rva function (registers_in (columns_of c)))

abbrev pub caller : List Span → Context → PeModule → ℕ → Option RuntimeFunction → Result Stepped DeliverError
caller image c m rva function = result_map_both (next_with false) refusal (recorded_columns image c m rva function)

-- no bytes of the stack hold arguments that the callee removes
abbrev pub arguments : PeModule → ℕ → Option RuntimeFunction → ℕ
arguments m rva function = 0

-- ---- its language table: none, or its place, which is always read, or why what names it can't be read

abbrev pub recorded_table : Result (Option LanguagePlace) FrameFault → Result (Option (Result LanguagePlace StepFault)) DeliverError
recorded_table = result_map_both (option_map Ok) frame_refusal

-- All records of a frame are read, of which one that names a handler is the last.
abbrev pub table : List Span → PeModule → ℕ → Option RuntimeFunction → Result (Option (Result LanguagePlace StepFault)) DeliverError
table image m rva function = recorded_table (pe_place image m function)

-- ---- why there is none, and why it has no caller

-- the step that is defined for the format, at an address of a module
abbrev pub stepped : List Span → Context → Module → PeTables → ℕ → Result Columns PeFault
stepped image c m tables a = pe_step image (module_of m tables) (a - m.start) (columns_of c)

-- an address without a record is one of a leaf
abbrev pub Ends : List Span → Module → PeTables → ℕ → Type 0
Ends image m tables a = ⊥

-- no call frame information is read
abbrev pub Faults : List Span → Context → Module → PeTables → ℕ → Fault → Type 0
Faults image c m tables a e = ⊥

-- the step reads what isn't wholly mapped
abbrev pub Reads : List Span → Context → Module → PeTables → ℕ → ℕ → Type 0
Reads image c m tables a address = stepped image c m tables a ≡ Err (InFrame (pe.Stack address))

-- a fault of a PE frame that says that unwind data can't be read: the function table, an unwind record, or the code that may be an
-- epilog's
abbrev pub SaysUnread : PeFault → Type 0
SaysUnread NoTable = Unit {0}
SaysUnread (InFrame (pe.Memory rva)) = Unit {0}
SaysUnread (InFrame (pe.Info rva)) = Unit {0}
SaysUnread (InFrame pe.EpilogBytes) = Unit {0}
SaysUnread (InFrame (pe.Stack a)) = ⊥
SaysUnread (InFrame pe.ChainLimit) = ⊥

abbrev pub Unread : List Span → Context → Module → PeTables → ℕ → Type 0
Unread image c m tables a = (fault : PeFault) × SaysUnread fault × (stepped image c m tables a ≡ Err fault)

-- more than 32 records are chained to the one that covers an address
abbrev pub ChainsTooMany : List Span → Context → Module → PeTables → ℕ → Type 0
ChainsTooMany image c m tables a = stepped image c m tables a ≡ Err (InFrame pe.ChainLimit)

-- the step gives the caller, which stands after a call
pub record Gives (image : List Span) (c : Context) (m : Module) (tables : PeTables) (a : ℕ) (next : Stepped) : Type 0 where
  pub columns : Columns
  pub steps : stepped image c m tables a ≡ Ok columns
  pub is : next ≡ next_with false columns
