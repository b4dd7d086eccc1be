-- From a frame in a PE module to its caller. Microsoft x64 exception handling, unwind procedure.
use Rattle.std.specs.Prelude.{ℕ, List, Option, Some, None, Result, Ok, Err}
use Rattle.memory_image.specs.Image.{Span, word_at}
use Rattle.unwind_definitions.specs.Caller.{Columns}
use Rattle.pe_unwind_info.specs.declared.x86_64.fault.FrameFault.{FrameFault}
use Rattle.pe_unwind_info.specs.FunctionTable.{functions_of, lookup_of}
use Rattle.pe_unwind_info.specs.Machine.{FrameEnd, Returned, Faulted}
use Rattle.pe_unwind_info.specs.FrameOf.{frame_end_of}
use Rattle.format_definitions.specs.PeImage.{PeModule, memory_of, table_of}
use Rattle.format_definitions.specs.PeRegisters.{registers_in, columns_with}

-- a function table that one region doesn't have whole, or what a frame faults with
pub data PeFault : Type 0 where
  NoTable : PeFault
  InFrame : FrameFault → PeFault

abbrev pub columns_at : Columns → FrameEnd → Result Columns PeFault
columns_at old (Returned ret regs) = Ok (columns_with old ret regs)
columns_at old (Faulted fault regs) = Err (InFrame fault)

abbrev pub stepped_by : List Span → PeModule → ℕ → Columns → Option (List ℕ) → Result Columns PeFault
stepped_by image m rva columns None = Err NoTable
stepped_by image m rva columns (Some table) =
    columns_at columns (frame_end_of (memory_of image m.base) (word_at image) rva (lookup_of (functions_of table) rva) (registers_in columns))

-- The caller's columns, from those of a frame at an address relative to the module's base. An address that no record covers
-- is one of a leaf.
abbrev pub pe_step : List Span → PeModule → ℕ → Columns → Result Columns PeFault
pe_step image m rva columns = stepped_by image m rva columns (table_of image m)
