-- What the language of a frame asks. Itanium C++ ABI, exception handling, level II.
use Rattle.std.specs.Prelude.{ℕ, Bool, Option, Some, None, Result, Ok, Err, List}
use Rattle.memory_image.specs.Image.{Span}
use Rattle.memory_image.specs.Results.{result_map}
use Rattle.unwind_definitions.specs.Caller.{StepFault}
use Rattle.unwind_definitions.specs.Function.{Action, NoAction, Terminate}
use Rattle.unwind_definitions.specs.LanguageSearch.{LanguagePlace, address_of_call, table_action}
use Rattle.unwind_arch.specs.declared.x86_64.Context.{Context}
use Rattle.fde_finders.specs.Finding.{FoundFde}
use Rattle.stack_steps.specs.declared.error.DeliverError.{DeliverError}
use Rattle.stack_steps.specs.Frames.{FrameAt, Described, Compact, Recorded}
use Rattle.stack_steps.specs.Elf as elf
use Rattle.stack_steps.specs.Macho as macho
use Rattle.stack_steps.specs.Pe as pe

-- the program ends at a table that can't be read
abbrev pub or_terminate : Result Action StepFault → Action
or_terminate (Ok action) = action
or_terminate (Err e) = Terminate

-- nothing is asked of a frame that names no language table
abbrev pub action_if_named : List Span → ℕ → Option (Result LanguagePlace StepFault) → Action
action_if_named image a None = NoAction
action_if_named image a (Some place) = or_terminate (table_action image a place)

-- What the language table of a frame is: none, or its place, or why that can't be read. A description names it, the section of a
-- Mach-O module, or the unwind record of a PE function that names a handler.
abbrev pub named_table : List Span → FrameAt → Result (Option (Result LanguagePlace StepFault)) DeliverError
named_table image (Described f) = elf.table image f.found
named_table image (Compact m listed) = macho.table image m listed
named_table image (Recorded m rva function) = pe.table image m rva function

-- ---- what is asked

-- by a description
abbrev pub described_action : List Span → Context → Bool → FoundFde → Result Action DeliverError
described_action image c interrupted found = result_map (action_if_named image (address_of_call c.ra interrupted)) (elf.table image found)

-- What is asked of the frame at a context, by the language table that it names, at the address of its call.
abbrev pub action_asked : List Span → Context → Bool → FrameAt → Result Action DeliverError
action_asked image c interrupted f = result_map (action_if_named image (address_of_call c.ra interrupted)) (named_table image f)

-- how many bytes of the stack hold arguments that the callee of a frame removes
abbrev pub arguments_of : FrameAt → ℕ
arguments_of (Described f) = elf.arguments f
arguments_of (Compact m listed) = macho.arguments m listed
arguments_of (Recorded m rva function) = pe.arguments m rva function
