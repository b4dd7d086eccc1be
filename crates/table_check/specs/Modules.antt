-- The module that is checked, and that it describes functions.
use Rattle.std.specs.Prelude.{ℕ, List}
use Rattle.memory_image.specs.Image.{Span}
use Rattle.unwind_definitions.specs.Function.{Function}
use Rattle.unwind_definitions.specs.Module.{DescribesModule, Frames, Header, Module, Tables}
use Rattle.fde_finders.specs.declared.custom.FrameInfo.{FrameInfo}
use Rattle.fde_finders.specs.declared.custom.FrameInfoKind.{FrameInfoKind}
use Rattle.fde_finders.specs.declared.custom.FrameInfoKind.TheVariants.{EhFrame, EhFrameHdr}
use Rattle.table_check.specs.Reasons.{AreFunctionsIn}

-- where a module's tables are
abbrev pub tables_of : FrameInfoKind → Tables
tables_of (EhFrame a) = Frames a
tables_of (EhFrameHdr h) = Header h

-- an ELF module, by its range and its tables
abbrev pub module_of : ℕ → ℕ → FrameInfo → Module
module_of start end frame = record { start = start; end = end; text = frame.text_base; tables = tables_of frame.kind }

-- functions of an ELF module that ascend, and that it describes
pub record AreDescribed (image : List Span) (start end : ℕ) (frame : FrameInfo) (functions : List Function) : Type 0 where
  pub functions_in : AreFunctionsIn start end functions
  pub described : DescribesModule image (module_of start end frame) functions
