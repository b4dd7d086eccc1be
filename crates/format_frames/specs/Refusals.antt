-- Why a frame has no caller, as the code names it.
use Rattle.std.specs.Prelude.{ℕ, ◌+◌, ◌%◌, ◌^◌, List, Option, Some, None, Result, Ok, Err}
use Rattle.std.specs.Option.{option_map}
use Rattle.std.specs.Result.{result_map_both}
use Rattle.memory_image.specs.Image.{Span, table_at}
use Rattle.memory_image.specs.Results.{◌>>=◌, result_map}
use Rattle.unwind_definitions.specs.Caller.{Columns, StepFault}
use Rattle.unwind_definitions.specs.Caller as calls
use Rattle.unwind_definitions.specs.LanguageSearch.{LanguagePlace}
use Rattle.unwind_arch.specs.declared.x86_64.Context.{Context}
use Rattle.unwind_arch.specs.ContextViews.{columns_of}
use Rattle.macho_unwind_info.specs.declared.error.Error.{Error}
use Rattle.macho_unwind_info.specs.declared.function.Function.{Function as Listed}
use Rattle.macho_unwind_info.specs.Listing.{Section, section_of}
use Rattle.macho_unwind_info.specs.Lookup.{lookup_of}
use Rattle.pe_unwind_info.specs.declared.x86_64.fault.FrameFault.{FrameFault}
use Rattle.pe_unwind_info.specs.declared.x86_64.fault.FrameFault.TheVariants as frame
use Rattle.pe_unwind_info.specs.declared.x86_64.function_table.FunctionTableEntries.{FunctionTableEntries}
use Rattle.pe_unwind_info.specs.FunctionTable.{table_bytes}
use Rattle.format_definitions.specs.CompactStep.{Stepped, MachoModule, MachoFault, InSection, NoForm, InStep, answered_by, opcode_step, compact_step}
use Rattle.macho_unwind_info.specs.X86_64.{opcode_of}
use Rattle.format_definitions.specs.PeImage.{PeModule}
use Rattle.format_definitions.specs.PeStep.{PeFault, NoTable, InFrame}
use Rattle.format_frames.specs.declared.error.FrameError.{FrameError}
use Rattle.format_frames.specs.declared.error.FrameError.TheVariants.{MachO, CompactForm, PeInfo, ChainLimit, Table, Unmapped}
use Rattle.format_frames.specs.declared.machine.Stepped.{Stepped as CodeStepped}
use Rattle.format_frames.specs.Callers.{stepped_of}

abbrev pub refusal_of : StepFault → FrameError
refusal_of (calls.Table e) = Table e
refusal_of (calls.Unmapped a) = Unmapped a

-- ---- Mach-O

abbrev pub macho_refusal : MachoFault → FrameError
macho_refusal (InSection e) = MachO e
macho_refusal NoForm = CompactForm
macho_refusal (InStep e) = refusal_of e

-- what a step in a Mach-O module gives, and what it is due to give
abbrev pub macho_given : Result (Option CodeStepped) FrameError → Result (Option Stepped) FrameError
macho_given = result_map (option_map stepped_of)

abbrev pub macho_due : Result (Option Stepped) MachoFault → Result (Option Stepped) FrameError
macho_due = result_map_both (λ caller. caller) macho_refusal

abbrev pub looked_up : ℕ → Result Section Error → Result (Option Listed) Error
looked_up rva section = section >>= (λ info. lookup_of info rva)

-- the function that a module's section has at an address relative to its base
abbrev pub function_at : List Span → MachoModule → ℕ → Result (Option Listed) Error
function_at image m rva = looked_up rva (section_of (table_at image m.unwind_info))

-- what the opcode of a listed function alone is due to give
abbrev pub caller_due : List Span → MachoModule → Columns → Listed → Result (Option Stepped) FrameError
caller_due image m columns listed = macho_due (answered_by (opcode_step image (m.base + listed.start_address) columns (opcode_of listed.opcode)))

-- the same at an address, where frame data may have been handed in
abbrev pub caller_due_at : List Span → MachoModule → ℕ → Columns → Listed → Result (Option Stepped) FrameError
caller_due_at image m a columns listed = macho_due (answered_by (compact_step image m.frames (m.base + listed.start_address) a columns (opcode_of listed.opcode)))

-- the same of a caller that there is
abbrev pub caller_given : Result CodeStepped FrameError → Result (Option Stepped) FrameError
caller_given = result_map (λ s. Some (stepped_of s))

-- ---- PE

-- the address that lies so far from a module's base
abbrev pub address_in : PeModule → ℕ → ℕ
address_in m rva = (m.base + rva) % 2 ^ 64

-- of a frame that stands so far from its module's base
abbrev pub frame_refusal : PeModule → ℕ → FrameFault → FrameError
frame_refusal m rva (frame.Memory record_rva) = PeInfo (address_in m record_rva)
frame_refusal m rva (frame.Info record_rva) = PeInfo (address_in m record_rva)
frame_refusal m rva frame.EpilogBytes = PeInfo (address_in m rva)
frame_refusal m rva (frame.Stack a) = Unmapped a
frame_refusal m rva frame.ChainLimit = ChainLimit

abbrev pub pe_refusal : PeModule → ℕ → PeFault → FrameError
pe_refusal m rva NoTable = PeInfo (address_in m m.table_rva)
pe_refusal m rva (InFrame fault) = frame_refusal m rva fault

-- the bytes of a function table, and those of the one that a module is due to have
abbrev pub functions_given : Result FunctionTableEntries FrameError → Result (List ℕ) FrameError
functions_given = result_map table_bytes

abbrev pub functions_due : PeModule → Option (List ℕ) → Result (List ℕ) FrameError
functions_due m None = Err (PeInfo (address_in m m.table_rva))
functions_due m (Some bytes) = Ok bytes

-- the place of a language table, or the fault of a frame that stands so far from its module's base
abbrev pub place_due : PeModule → ℕ → Result (Option LanguagePlace) FrameFault → Result (Option LanguagePlace) FrameError
place_due m rva = result_map_both (λ place. place) (frame_refusal m rva)

-- a caller's columns, or the fault of a frame
abbrev pub frame_given : Result Context FrameFault → Result Columns PeFault
frame_given = result_map_both columns_of InFrame

-- what a step in a PE module gives, and what it is due to give
abbrev pub pe_given : Result Context FrameError → Result Columns FrameError
pe_given = result_map columns_of

abbrev pub pe_due : PeModule → ℕ → Result Columns PeFault → Result Columns FrameError
pe_due m rva = result_map_both (λ columns. columns) (pe_refusal m rva)
