-- What the code finds at a state, in the words of the definitions.
use Rattle.std.specs.Prelude.{◌≡◌, Option, Some, None, Result, Ok, Err}
use Rattle.frame_rows.specs.Rows.{IsRowOf}
use Rattle.frame_rows.specs.RowValue.{RowValue}
use Rattle.unwind_definitions.specs.declared.error.Error.{Error as Fault}
use Rattle.unwind_definitions.specs.Row.{RowInstructions}
use Rattle.encoded_pointers.specs.PointerViews.{bases_of}
use Rattle.eh_frame.specs.EntryViews.{table_of}
use Rattle.fde_finders.specs.FoundViews.{found_fde_of}
use Rattle.fde_finders.specs.Finding.{FoundFde}
use Rattle.stack_steps.specs.declared.error.DeliverError.{DeliverError}
use Rattle.stack_steps.specs.declared.frames.FoundFrame.{FoundFrame}
use Rattle.stack_steps.specs.declared.frames.FoundFrame.TheVariants as code
use Rattle.stack_steps.specs.declared.macho.CompactFrame.{CompactFrame}
use Rattle.stack_steps.specs.declared.pe.RecordedFrame.{RecordedFrame}
use Rattle.stack_steps.specs.declared.prepared.PreparedTable.{PreparedTable}
use Rattle.stack_steps.specs.Frames.{FrameAt, Described, Compact, Recorded}
use Rattle.unwind_definitions.specs.Entries.{Fde}
use Rattle.pe_unwind_info.specs.FunctionTable.{functions_of, lookup_of, table_bytes}
use Rattle.format_frames.specs.Modules.{macho_module, pe_module}

-- what the index of a prepared module finds
abbrev pub prepared_fde : PreparedTable → Fde → FoundFde
prepared_fde table fde = record { fde = fde; bases = bases_of table.bases; table = table_of table.frames }

-- its row, which the index lends
abbrev pub IsKeptRow : Result RowValue Fault → RowInstructions → Type 0
IsKeptRow (Ok row) run = IsRowOf row run
IsKeptRow (Err e) run = ⊥

-- a frame is that of a description, with such a row
abbrev pub IsDescribedAt : FoundFde → (RowInstructions → Type 0) → FrameAt → Type 0
IsDescribedAt found IsRow (Described f) = (found ≡ f.found) × IsRow f.run
IsDescribedAt found IsRow _ = ⊥

abbrev pub compact_frame_of : CompactFrame → FrameAt
compact_frame_of f = Compact (macho_module f.container) f.function

abbrev pub recorded_frame_of : RecordedFrame → FrameAt
recorded_frame_of f = Recorded (pe_module f.container) f.rva (lookup_of (functions_of (table_bytes f.functions)) f.rva)

-- what was found, and its row, as a frame of the definitions
abbrev pub IsFrameOf : FoundFrame → FrameAt → Type 0
IsFrameOf (code.Searched frame) due = IsDescribedAt (found_fde_of frame.found.now) (IsRowOf frame.row) due
IsFrameOf (code.Prepared table frame) due = IsDescribedAt (prepared_fde table.now frame.fde) (IsKeptRow frame.row) due
IsFrameOf (code.Compact frame) due = due ≡ compact_frame_of frame
IsFrameOf (code.Recorded frame) due = due ≡ recorded_frame_of frame

-- what is found at a state
abbrev pub GivesFrameAt : Result (Option FoundFrame) DeliverError → Result (Option FrameAt) DeliverError → Type 0
GivesFrameAt (Ok None) due = due ≡ Ok None
GivesFrameAt (Ok (Some found)) due = (f : FrameAt) × (due ≡ Ok (Some f)) × IsFrameOf found f
GivesFrameAt (Err e) due = due ≡ Err e
