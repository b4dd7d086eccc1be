-- What is found for an address of a stack, by the format of the module that holds it.
use Rattle.std.specs.Prelude.{ℕ, Bool, Option}
use Rattle.unwind_definitions.specs.Row.{RowInstructions}
use Rattle.unwind_definitions.specs.Caller.{Columns, StepFault}
use Rattle.unwind_definitions.specs.Caller as calls
use Rattle.unwind_arch.specs.ContextViews.{context_of}
use Rattle.fde_finders.specs.Finding.{FoundFde}
use Rattle.macho_unwind_info.specs.declared.function.Function.{Function as Listed}
use Rattle.pe_unwind_info.specs.declared.x86_64.function_table.RuntimeFunction.{RuntimeFunction}
use Rattle.format_definitions.specs.CompactStep.{MachoModule}
use Rattle.format_definitions.specs.PeImage.{PeModule}
use Rattle.format_frames.specs.declared.machine.Stepped.{Stepped}
use Rattle.stack_steps.specs.declared.error.DeliverError.{DeliverError}
use Rattle.stack_steps.specs.declared.error.DeliverError.TheVariants.{Table, Unmapped}

-- a description, and its row at the address asked
pub record DescribedFrame : Type 0 where
  pub found : FoundFde
  pub run : RowInstructions

-- what is found for the address asked
pub data FrameAt : Type 0 where
  -- by call frame information: in an ELF module, or in the frame data of a Mach-O module, where the opcode of the function that is
  -- listed there points to it
  Described : DescribedFrame → FrameAt
  -- in a Mach-O module, by compact unwinding alone: the function that is listed there
  Compact : MachoModule → Listed → FrameAt
  -- so far from the base of a PE module, by its unwind records: the function whose record covers the address, None at a leaf
  Recorded : PeModule → ℕ → Option RuntimeFunction → FrameAt

-- why a frame has no caller, by call frame information
abbrev pub refusal_of : StepFault → DeliverError
refusal_of (calls.Table e) = Table e
refusal_of (calls.Unmapped a) = Unmapped a

-- a caller by its columns, and whether the frame is a signal's
abbrev pub next_with : Bool → Columns → Stepped
next_with signal columns = record { context = context_of columns; signal = signal }
