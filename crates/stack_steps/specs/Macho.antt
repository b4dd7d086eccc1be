-- Frames of Mach-O modules: by the opcode that a section of compact unwinding has for a function, or by the description to which that
-- points. What is found, its caller, the language table that it names, and why there is none. `Elf` and `Pe` have the same of theirs.
use Rattle.std.specs.Prelude.{◌≡◌, ℕ, ◌+◌, ◌-◌, Option, Some, None, Result, Ok, Err, List}
use Rattle.std.specs.Option.{option_map}
use Rattle.std.specs.Result.{result_map_both}
use Rattle.memory_image.specs.Image.{Span}
use Rattle.unwind_definitions.specs.declared.error.Error.{Error as Fault}
use Rattle.unwind_definitions.specs.Caller.{StepFault}
use Rattle.unwind_definitions.specs.Caller as calls
use Rattle.unwind_definitions.specs.LanguageSearch.{LanguagePlace}
use Rattle.unwind_arch.specs.declared.x86_64.Context.{Context}
use Rattle.unwind_arch.specs.ContextViews.{columns_of}
use Rattle.fde_finders.specs.Finding.{FoundFde}
use Rattle.macho_unwind_info.specs.declared.error.Error.{Error}
use Rattle.macho_unwind_info.specs.declared.function.Function.{Function as Listed}
use Rattle.macho_unwind_info.specs.X86_64.{opcode_of}
use Rattle.format_definitions.specs.CompactStep.{MachoModule, MachoFault, InSection, NoForm, InStep, opcode_step, macho_step}
use Rattle.format_definitions.specs.CompactStep as compact
use Rattle.format_frames.specs.declared.machine.Stepped.{Stepped}
use Rattle.format_frames.specs.FrameData.{description_of}
use Rattle.format_frames.specs.Handlers.{macho_place}
use Rattle.format_frames.specs.Refusals.{function_at}
use Rattle.stack_steps.specs.declared.error.DeliverError.{DeliverError}
use Rattle.stack_steps.specs.declared.error.DeliverError.TheVariants.{Table, MachO, CompactForm}
use Rattle.stack_steps.specs.declared.space.Module.{Module}
use Rattle.stack_steps.specs.declared.space.MachoTables.{MachoTables}
use Rattle.stack_steps.specs.Frames.{FrameAt, Compact, next_with, refusal_of}
use Rattle.stack_steps.specs.Elf.{frame_by}

-- the module as the definitions have it
abbrev pub module_of : Module → MachoTables → MachoModule
module_of m tables = record { base = m.start; size = m.end - m.start; unwind_info = tables.unwind_info; frames = tables.frames }

-- why a frame has no caller
abbrev pub refusal : MachoFault → DeliverError
refusal (InSection e) = MachO e
refusal NoForm = CompactForm
refusal (InStep fault) = refusal_of fault

-- ---- what is found

-- of a listed function, by the description to which its opcode points, or by the opcode where it points to none
abbrev pub opcode_frame : MachoModule → ℕ → Listed → Result (Option FoundFde) Fault → Result (Option FrameAt) DeliverError
opcode_frame m a listed (Ok None) = Ok (Some (Compact m listed))
opcode_frame m a listed (Ok (Some found)) = frame_by a (Some found)
opcode_frame m a listed (Err e) = Err (Table e)

-- by what a look-up in a section of compact unwinding answers
abbrev pub compact_frame : List Span → MachoModule → ℕ → Result (Option Listed) Error → Result (Option FrameAt) DeliverError
compact_frame image m a (Ok None) = Ok None
compact_frame image m a (Ok (Some listed)) = opcode_frame m a listed (description_of image m listed)
compact_frame image m a (Err e) = Err (MachO e)

abbrev pub frame : List Span → ℕ → Module → MachoTables → Result (Option FrameAt) DeliverError
frame image a m tables = compact_frame image (module_of m tables) a (function_at image (module_of m tables) (a - m.start))

-- ---- its caller

abbrev pub compact_next : compact.Stepped → Stepped
compact_next s = next_with s.signal s.columns

-- by what an opcode gives
abbrev pub opcode_caller : Option (Result compact.Stepped StepFault) → Result Stepped DeliverError
opcode_caller None = Err CompactForm
opcode_caller (Some caller) = result_map_both compact_next refusal_of caller

abbrev pub caller : List Span → Context → MachoModule → Listed → Result Stepped DeliverError
caller image c m listed = opcode_caller (opcode_step image (m.base + listed.start_address) (columns_of c) (opcode_of listed.opcode))

-- no bytes of the stack hold arguments that the callee removes
abbrev pub arguments : MachoModule → Listed → ℕ
arguments m listed = 0

-- ---- its language table: none, or its place, which is always read, or why what names it can't be read

abbrev pub compact_table : Result (Option LanguagePlace) Error → Result (Option (Result LanguagePlace StepFault)) DeliverError
compact_table = result_map_both (option_map Ok) MachO

abbrev pub table : List Span → MachoModule → Listed → Result (Option (Result LanguagePlace StepFault)) DeliverError
table image m listed = compact_table (macho_place image m listed)

-- ---- why there is none, and why it has no caller

-- the step that is defined for the format, at an address of a module
abbrev pub stepped : List Span → Context → Module → MachoTables → ℕ → Result (Option compact.Stepped) MachoFault
stepped image c m tables a = macho_step image (module_of m tables) (a - m.start) (columns_of c)

-- no function is listed for an address
abbrev pub Ends : List Span → Module → MachoTables → ℕ → Type 0
Ends image m tables a = function_at image (module_of m tables) (a - m.start) ≡ Ok None

-- what an opcode points to has a fault of call frame information
abbrev pub Faults : List Span → Context → Module → MachoTables → ℕ → Fault → Type 0
Faults image c m tables a e = stepped image c m tables a ≡ Err (InStep (calls.Table e))

-- the step reads what isn't wholly mapped
abbrev pub Reads : List Span → Context → Module → MachoTables → ℕ → ℕ → Type 0
Reads image c m tables a address = stepped image c m tables a ≡ Err (InStep (calls.Unmapped address))

-- the section of compact unwinding, or what a look-up in it comes to, can't be read
abbrev pub Unread : List Span → Context → Module → MachoTables → ℕ → Error → Type 0
Unread image c m tables a e = stepped image c m tables a ≡ Err (InSection e)

-- The opcode that is found gives no caller: it is null, invalid or of an unknown kind, or asks for frame data that wasn't handed in.
abbrev pub WithoutForm : List Span → Context → Module → MachoTables → ℕ → Type 0
WithoutForm image c m tables a = stepped image c m tables a ≡ Err NoForm

-- the step gives the caller
pub record Gives (image : List Span) (c : Context) (m : Module) (tables : MachoTables) (a : ℕ) (next : Stepped) : Type 0 where
  pub caller : compact.Stepped
  pub steps : stepped image c m tables a ≡ Ok (Some caller)
  pub is : next ≡ compact_next caller
